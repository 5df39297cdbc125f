use Rattle.bye_tsv.proofs.ReadingLaws as proved
use Rattle.bye_tsv.proofs.reading_laws.documents_are_tables.Goals as goal

pub returns : goal.returns
returns c = proved.documents_are_tables

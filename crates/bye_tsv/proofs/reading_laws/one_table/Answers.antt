use Rattle.bye_tsv.proofs.ReadingLaws as proved
use Rattle.bye_tsv.proofs.reading_laws.one_table.Goals as goal

pub returns : goal.returns
returns c = proved.one_table

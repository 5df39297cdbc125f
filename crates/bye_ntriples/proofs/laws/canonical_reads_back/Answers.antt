use Rattle.bye_ntriples.proofs.CanonicalLines as proved
use Rattle.bye_ntriples.proofs.laws.canonical_reads_back.Goals as goal

pub returns : goal.returns
returns c = proved.canonical_reads_back

use Rattle.bye_ntriples.proofs.Sorted as proved
use Rattle.bye_ntriples.proofs.laws.one_canonical.Goals as goal

pub returns : goal.returns
returns c = proved.one_canonical

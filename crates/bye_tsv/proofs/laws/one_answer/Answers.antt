use Rattle.bye_tsv.proofs.OneAnswer as proved
use Rattle.bye_tsv.proofs.laws.one_answer.Goals as goal

pub returns : goal.returns
returns c = proved.one_answer

use Rattle.bye_pattern.proofs.WorkedAnswers.{designed}
use Rattle.bye_pattern.proofs.worked.designed_trees.Goals as goal

pub returns : goal.returns
returns c = designed

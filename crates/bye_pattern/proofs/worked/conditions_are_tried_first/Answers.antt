use Rattle.bye_pattern.proofs.WorkedKept.{tried_first}
use Rattle.bye_pattern.proofs.worked.conditions_are_tried_first.Goals as goal

pub returns : goal.returns
returns c = tried_first

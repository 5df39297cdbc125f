use Rattle.bye_pattern.proofs.OneGroup.{bound_true}
use Rattle.bye_pattern.proofs.laws.bound_is_true.Goals as goal

pub returns : goal.returns
returns c = bound_true

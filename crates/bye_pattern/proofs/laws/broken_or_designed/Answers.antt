use Rattle.bye_pattern.proofs.FourRules.{either, not_both, one_first}
use Rattle.bye_pattern.proofs.laws.broken_or_designed.Goals as goal

pub returns : goal.returns
returns c = record { either = either; one = not_both; first = one_first }

use Rattle.bye_laws.proofs.StartsRight.{conjunction_right, optional_right}
use Rattle.bye_laws.proofs.starts.starts_are_right.Goals as goal

pub returns : goal.returns
returns c = record { conjunction = conjunction_right; optional = optional_right }

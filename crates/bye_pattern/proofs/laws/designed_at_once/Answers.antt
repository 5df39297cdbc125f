use Rattle.bye_pattern.proofs.FourRules.{at_once}
use Rattle.bye_pattern.proofs.laws.designed_at_once.Goals as goal

pub returns : goal.returns
returns c = at_once

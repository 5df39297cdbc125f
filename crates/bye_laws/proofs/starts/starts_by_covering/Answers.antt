use Rattle.bye_laws.proofs.StartsRight.{by_covering}
use Rattle.bye_laws.proofs.starts.starts_by_covering.Goals as goal

pub returns : goal.returns
returns c = by_covering

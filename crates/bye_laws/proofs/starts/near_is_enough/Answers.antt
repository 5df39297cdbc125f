use Rattle.bye_laws.proofs.Near.{near_is_enough}
use Rattle.bye_laws.proofs.starts.near_is_enough.Goals as goal

pub returns : goal.returns
returns c = near_is_enough

use Rattle.bye_laws.proofs.StartsThere.{starts_told}
use Rattle.bye_laws.proofs.starts.starts_are_there_and_one.Goals as goal

pub returns : goal.returns
returns c = starts_told

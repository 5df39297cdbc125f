use Rattle.bye_laws.proofs.AnyRight.{passes_are_local}
use Rattle.bye_laws.proofs.keeping.passes_are_local.Goals as goal

pub returns : goal.returns
returns c = passes_are_local

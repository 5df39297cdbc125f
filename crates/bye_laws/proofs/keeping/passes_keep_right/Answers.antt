use Rattle.bye_laws.proofs.AnyRight.{passes_keep_right}
use Rattle.bye_laws.proofs.keeping.passes_keep_right.Goals as goal

pub returns : goal.returns
returns c = passes_keep_right

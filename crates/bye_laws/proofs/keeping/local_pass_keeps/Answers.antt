use Rattle.bye_laws.proofs.LocalPass.{local_kept}
use Rattle.bye_laws.proofs.keeping.local_pass_keeps.Goals as goal

pub returns : goal.returns
returns c = local_kept

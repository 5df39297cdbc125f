use Rattle.bye_pattern.proofs.WorkedClaims.{no_root}
use Rattle.bye_pattern.proofs.worked.claims_of_no_root.Goals as goal

pub returns : goal.returns
returns c = no_root

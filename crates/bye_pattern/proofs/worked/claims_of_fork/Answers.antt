use Rattle.bye_pattern.proofs.WorkedClaims.{fork}
use Rattle.bye_pattern.proofs.worked.claims_of_fork.Goals as goal

pub returns : goal.returns
returns c = fork

use Rattle.bye_pattern.proofs.WorkedClaims.{admitted}
use Rattle.bye_pattern.proofs.worked.claims_of_admitted.Goals as goal

pub returns : goal.returns
returns c = admitted

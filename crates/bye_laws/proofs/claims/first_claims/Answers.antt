use Rattle.bye_laws.proofs.FirstClaims.{first_claims_told}
use Rattle.bye_laws.proofs.claims.first_claims.Goals as goal

pub returns : goal.returns
returns c = first_claims_told

use Rattle.bye_laws.proofs.FirstClaims.{enough}
use Rattle.bye_laws.proofs.claims.certificates_are_enough.Goals as goal

pub returns : goal.returns
returns c = enough

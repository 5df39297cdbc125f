use Rattle.bye_pattern.proofs.WorkedClaims.{extension}
use Rattle.bye_pattern.proofs.worked.claims_of_extension.Goals as goal

pub returns : goal.returns
returns c = extension

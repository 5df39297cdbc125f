use Rattle.bye_pattern.proofs.WorkedClaims.{uncovered}
use Rattle.bye_pattern.proofs.worked.claims_of_uncovered.Goals as goal

pub returns : goal.returns
returns c = uncovered

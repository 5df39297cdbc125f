use Rattle.bye_laws.proofs.KeptQueries.{kept_is_minimal}
use Rattle.bye_laws.proofs.keeping.kept_is_minimal.Goals as goal

pub returns : goal.returns
returns c = kept_is_minimal

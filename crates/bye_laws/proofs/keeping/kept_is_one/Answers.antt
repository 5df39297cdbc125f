use Rattle.bye_laws.proofs.KeptQueries.{kept_is_one}
use Rattle.bye_laws.proofs.keeping.kept_is_one.Goals as goal

pub returns : goal.returns
returns c = kept_is_one

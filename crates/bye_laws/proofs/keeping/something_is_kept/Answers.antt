use Rattle.bye_laws.proofs.KeptQueries.{something_is_kept}
use Rattle.bye_laws.proofs.keeping.something_is_kept.Goals as goal

pub returns : goal.returns
returns c = something_is_kept

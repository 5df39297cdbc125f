use Rattle.bye_laws.proofs.EarlyRules.{whole_designed}
use Rattle.bye_laws.proofs.written.early_is_designed.Goals as goal

pub returns : goal.returns
returns c = whole_designed

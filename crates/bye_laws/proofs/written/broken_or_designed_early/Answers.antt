use Rattle.bye_laws.proofs.EarlyRules.{early_not_broken, early_or_broken, one_broken_early}
use Rattle.bye_laws.proofs.written.broken_or_designed_early.Goals as goal

pub returns : goal.returns
returns c = record { either = early_or_broken; one = early_not_broken; first = one_broken_early }

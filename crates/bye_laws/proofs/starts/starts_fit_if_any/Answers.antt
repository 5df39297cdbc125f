use Rattle.bye_laws.proofs.BothClasses.{start_fits}
use Rattle.bye_laws.proofs.starts.starts_fit_if_any.Goals as goal

pub returns : goal.returns
returns c = start_fits

use Rattle.bye_laws.proofs.BothClasses.{none_fits_as_start}
use Rattle.bye_laws.proofs.starts.none_fits_as_the_start.Goals as goal

pub returns : goal.returns
returns c = none_fits_as_start

use Rattle.bye_pattern.proofs.WorkedPlaces.{matters}
use Rattle.bye_pattern.proofs.worked.place_matters.Goals as goal

pub returns : goal.returns
returns c = matters

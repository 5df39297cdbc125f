use Rattle.bye_pattern.proofs.WorkedGroups.{by_place}
use Rattle.bye_pattern.proofs.worked.rules_by_place.Goals as goal

pub returns : goal.returns
returns c = by_place

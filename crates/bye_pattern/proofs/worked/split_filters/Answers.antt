use Rattle.bye_pattern.proofs.WorkedGroups.{splits}
use Rattle.bye_pattern.proofs.worked.split_filters.Goals as goal

pub returns : goal.returns
returns c = splits

use Rattle.bye_pattern.proofs.WorkedGroups.{blocks}
use Rattle.bye_pattern.proofs.worked.blocks_after_optionals.Goals as goal

pub returns : goal.returns
returns c = blocks

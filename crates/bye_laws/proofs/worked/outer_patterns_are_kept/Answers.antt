use Rattle.bye_laws.proofs.WorkedVips.{vips_kept}
use Rattle.bye_laws.proofs.worked.outer_patterns_are_kept.Goals as goal

pub returns : goal.returns
returns c = vips_kept

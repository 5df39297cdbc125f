use Rattle.bye_pattern.proofs.WorkedOptional.{classes}
use Rattle.bye_pattern.proofs.worked.optional_classes.Goals as goal

pub returns : goal.returns
returns c = classes

use Rattle.bye_pattern.proofs.Places.{class_at_one}
use Rattle.bye_pattern.proofs.laws.classes_at_one_node.Goals as goal

pub returns : goal.returns
returns c = class_at_one

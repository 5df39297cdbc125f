use Rattle.bye_pattern.proofs.Reaching.{answer_binds}
use Rattle.bye_pattern.proofs.laws.answers_bind_the_tree.Goals as goal

pub returns : goal.returns
returns c = answer_binds

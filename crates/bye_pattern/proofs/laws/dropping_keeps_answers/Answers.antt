use Rattle.bye_pattern.proofs.OneGroup.{dropped_answer}
use Rattle.bye_pattern.proofs.laws.dropping_keeps_answers.Goals as goal

pub returns : goal.returns
returns c = dropped_answer

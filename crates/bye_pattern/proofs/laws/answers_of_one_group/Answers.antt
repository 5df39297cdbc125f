use Rattle.bye_pattern.proofs.OneGroup.{answer_meets, meets_answer}
use Rattle.bye_pattern.proofs.laws.answers_of_one_group.Goals as goal

pub returns : goal.returns
returns c level g q m class = (answer_meets level g q m class, meets_answer level g q m class)

use Rattle.bye_pattern.proofs.WorkedAnswers.{optional}
use Rattle.bye_pattern.proofs.worked.optional_answers.Goals as goal

pub returns : goal.returns
returns c = optional

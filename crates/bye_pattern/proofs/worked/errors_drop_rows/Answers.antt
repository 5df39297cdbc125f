use Rattle.bye_pattern.proofs.WorkedAnswers.{errors}
use Rattle.bye_pattern.proofs.worked.errors_drop_rows.Goals as goal

pub returns : goal.returns
returns c = errors

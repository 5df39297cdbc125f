use Rattle.bye_laws.proofs.WrittenRows.{written_answers}
use Rattle.bye_laws.proofs.written.written_answers.Goals as goal

pub returns : goal.returns
returns c = written_answers

use Rattle.bye_lex.proofs.OneAnswer.{readers_answer_once}
use Rattle.bye_lex.proofs.laws.one_answer.Goals as goal

pub returns : goal.returns
returns c = readers_answer_once

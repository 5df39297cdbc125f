use Rattle.bye_pattern.proofs.WorkedOptional.{written}
use Rattle.bye_pattern.proofs.worked.written_texts.Goals as goal

pub returns : goal.returns
returns c = written

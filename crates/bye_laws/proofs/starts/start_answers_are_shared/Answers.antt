use Rattle.bye_laws.proofs.ConjunctionStarts.{start_answers_shared}
use Rattle.bye_laws.proofs.starts.start_answers_are_shared.Goals as goal

pub returns : goal.returns
returns c = start_answers_shared

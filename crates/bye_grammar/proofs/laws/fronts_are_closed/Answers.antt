use Rattle.bye_grammar.proofs.DocumentLaws.{fronts_close}
use Rattle.bye_grammar.proofs.laws.fronts_are_closed.Goals as goal

pub returns : goal.returns
returns c = fronts_close

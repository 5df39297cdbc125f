use Rattle.bye_grammar.proofs.DocumentLaws.{documents_fronts}
use Rattle.bye_grammar.proofs.laws.documents_are_fronts.Goals as goal

pub returns : goal.returns
returns c = documents_fronts

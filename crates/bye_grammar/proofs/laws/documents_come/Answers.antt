use Rattle.bye_grammar.proofs.DocumentLaws.{documents_come}
use Rattle.bye_grammar.proofs.laws.documents_come.Goals as goal

pub returns : goal.returns
returns c = documents_come

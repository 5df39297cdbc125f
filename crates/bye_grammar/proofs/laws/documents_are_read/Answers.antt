use Rattle.bye_grammar.proofs.DocumentLaws.{documents_read}
use Rattle.bye_grammar.proofs.laws.documents_are_read.Goals as goal

pub returns : goal.returns
returns c = documents_read

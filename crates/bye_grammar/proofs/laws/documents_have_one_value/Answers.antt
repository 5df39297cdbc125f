use Rattle.bye_grammar.proofs.DocumentLaws.{documents_once}
use Rattle.bye_grammar.proofs.laws.documents_have_one_value.Goals as goal

pub returns : goal.returns
returns c = documents_once

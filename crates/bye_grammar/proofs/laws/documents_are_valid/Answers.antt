use Rattle.bye_grammar.proofs.ValidRules.{documents_valid}
use Rattle.bye_grammar.proofs.laws.documents_are_valid.Goals as goal

pub returns : goal.returns
returns c = documents_valid

use Rattle.bye_grammar.proofs.DocumentLaws.{iris_read}
use Rattle.bye_grammar.proofs.laws.fitting_iris_are_read.Goals as goal

pub returns : goal.returns
returns c = iris_read

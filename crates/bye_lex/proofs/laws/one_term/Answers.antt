use Rattle.bye_lex.proofs.OneTerm as proved
use Rattle.bye_lex.proofs.laws.one_term.Goals as goal

pub returns : goal.returns
returns c = proved.one_term

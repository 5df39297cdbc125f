use Rattle.bye_lex.proofs.ReadingBack as proved
use Rattle.bye_lex.proofs.laws.reads_back.Goals as goal

pub returns : goal.returns
returns c = proved.reads_back

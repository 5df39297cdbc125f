use Rattle.bye_ntriples.proofs.Statements as proved
use Rattle.bye_ntriples.proofs.laws.documents_have_statements.Goals as goal

pub returns : goal.returns
returns c = proved.documents_have_statements

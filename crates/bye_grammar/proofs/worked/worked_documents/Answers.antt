use Rattle.bye_grammar.proofs.WorkedDocuments.{worked}
use Rattle.bye_grammar.proofs.worked.worked_documents.Goals as goal

pub returns : goal.returns
returns c = record { whole = worked.0; deep = worked.1; repeated = worked.2; unknown = worked.3; narrow = worked.4; early = worked.5 }

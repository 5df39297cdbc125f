use Rattle.std.proofs.Common.{sym, ◌∙◌}
use Rattle.bye_tree.specs.Written.{written_of}
use Rattle.bye_descent.proofs.Answering.{answer_ok}
use Rattle.bye_descent.proofs.read.read_written.Goals as goal

pub returns-in-Ok-whole : goal.returns-in-Ok-whole
returns-in-Ok-whole c = λ ts h. answer_ok c.documents_are_read.ensures c.new-left.result ts c.whole.new.left (c.in-Ok.ensures.only ts h ∙ sym c.new-left.ensures) (written_of c.in-Ok-whole.query) c.in-Ok-whole.ensures

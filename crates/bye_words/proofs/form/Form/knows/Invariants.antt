use Rattle.std.proofs.Common.{length}
use Rattle.bye_words.specs.Tables.{form_of}
use Rattle.bye_words.proofs.Loops.{Knows}
use Rattle.bye_words.proofs.form.Form.knows.Given as goal

abbrev pub invariant-loop-name : goal.invariant-loop-name
invariant-loop-name l = Knows (form_of l.fn.self) l.fn.settings l.rest

abbrev pub decreases-loop-name : goal.decreases-loop-name
decreases-loop-name l = length l.rest

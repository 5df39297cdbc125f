use Rattle.std.proofs.Common.{ℕ, ◌<◌}
use Rattle.bye_lex.specs.Utf8.{IsLabelPartFrom}
use Rattle.bye_lex.proofs.utf8.may_go_on_in_label.Given as goal

abbrev pub invariant-loop-number : goal.invariant-loop-number
invariant-loop-number l = (k : ℕ) → k < l.number → IsLabelPartFrom k l.left → ⊥

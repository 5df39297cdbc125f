use Rattle.std.proofs.Common.{◌≡◌, ◌++◌, length}
use Rattle.bye_tokens.specs.Names as spec
use Rattle.bye_tokens.proofs.escape.unescaped.Given as goal

abbrev pub invariant-loop-piece : goal.invariant-loop-piece
invariant-loop-piece l = l.text ++ spec.unescaped l.rest ≡ l.initial.text ++ spec.unescaped l.initial.rest

abbrev pub decreases-loop-piece : goal.decreases-loop-piece
decreases-loop-piece l = length l.rest

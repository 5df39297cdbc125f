use Rattle.std.proofs.Common.{◌≡◌, ◌++◌, drop}
use Rattle.bye_strongest.specs.Candidates.{holes}
use Rattle.bye_strongest.proofs.candidates.push_holes.Given as goal

abbrev pub invariant-loop-i : goal.invariant-loop-i
invariant-loop-i l = l.out.items ++ holes l.i (drop l.i l.cells) l.number ≡ l.initial.out.items ++ holes 0 l.cells l.number

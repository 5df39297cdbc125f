use Rattle.std.proofs.Common.{◌≡◌, ◌++◌, take}
use Rattle.bye_pattern.specs.Candidates as spec
use Rattle.bye_pattern.proofs.candidates.push_predicates.Given as goal

abbrev pub invariant-loop-p : goal.invariant-loop-p
invariant-loop-p l = l.out.items ≡ l.initial.out.items ++ spec.with_predicates (take l.p-index l.ps) l.os l.s

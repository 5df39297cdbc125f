use Rattle.std.proofs.Common.{◌≡◌, ◌++◌, take}
use Rattle.bye_pattern.specs.Candidates as spec
use Rattle.bye_pattern.proofs.candidates.push_subjects.Given as goal

abbrev pub invariant-loop-s : goal.invariant-loop-s
invariant-loop-s l = l.out.items ≡ l.initial.out.items ++ spec.with_subjects (take l.s-index l.ss) l.ps l.os

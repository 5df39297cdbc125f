use Rattle.std.proofs.Common.{◌≡◌, ◌++◌, take}
use Rattle.bye_pattern.specs.Candidates as spec
use Rattle.bye_pattern.proofs.candidates.push_objects.Given as goal

abbrev pub invariant-loop-o : goal.invariant-loop-o
invariant-loop-o l = l.out.items ≡ l.initial.out.items ++ spec.with_objects (take l.o-index l.os) l.s l.p

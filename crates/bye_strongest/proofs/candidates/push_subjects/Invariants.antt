use Rattle.std.proofs.Common.{◌≡◌, ◌++◌, take}
use Rattle.std.specs.List.{flat_map}
use Rattle.bye_strongest.specs.Candidates.{with_predicates}
use Rattle.bye_strongest.proofs.candidates.push_subjects.Given as goal

abbrev pub invariant-loop-s : goal.invariant-loop-s
invariant-loop-s l = l.out.items ≡ l.initial.out.items ++ flat_map (with_predicates l.ps l.os) (take l.s-index l.ss)

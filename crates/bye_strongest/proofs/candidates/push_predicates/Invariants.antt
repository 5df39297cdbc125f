use Rattle.std.proofs.Common.{◌≡◌, ◌++◌, take}
use Rattle.std.specs.List.{flat_map}
use Rattle.bye_strongest.specs.Candidates.{with_objects}
use Rattle.bye_strongest.proofs.candidates.push_predicates.Given as goal

abbrev pub invariant-loop-p : goal.invariant-loop-p
invariant-loop-p l = l.out.items ≡ l.initial.out.items ++ flat_map (with_objects l.os l.s) (take l.p-index l.ps)

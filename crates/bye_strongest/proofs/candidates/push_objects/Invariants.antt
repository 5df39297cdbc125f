use Rattle.std.proofs.Common.{◌≡◌, ◌++◌, take}
use Rattle.std.specs.List.{flat_map}
use Rattle.bye_strongest.specs.Candidates.{offered}
use Rattle.bye_strongest.proofs.candidates.push_objects.Given as goal

abbrev pub invariant-loop-o : goal.invariant-loop-o
invariant-loop-o l = l.out.items ≡ l.initial.out.items ++ flat_map (offered l.s l.p) (take l.o-index l.os)

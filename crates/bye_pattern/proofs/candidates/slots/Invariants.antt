use Rattle.std.proofs.Common.{◌≡◌, ◌++◌, take}
use Rattle.std.specs.List.{flat_map}
use Rattle.bye_pattern.specs.Candidates as spec
use Rattle.bye_pattern.proofs.candidates.slots.Given as goal

abbrev pub invariant-loop-e : goal.invariant-loop-e
invariant-loop-e l = l.out.items ≡ spec.const_slot l.term ++ flat_map (spec.var_slot l.term) (take l.e-index l.row)

use Rattle.std.proofs.Common.{◌≡◌, take}
use Rattle.bye_pattern.specs.Candidates as spec
use Rattle.bye_pattern.proofs.candidates.candidates.Given as goal

abbrev pub invariant-loop-t : goal.invariant-loop-t
invariant-loop-t l = l.out.items ≡ spec.candidates l.row (take l.t-index l.graph)

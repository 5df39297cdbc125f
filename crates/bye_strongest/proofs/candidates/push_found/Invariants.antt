use Rattle.std.proofs.Common.{◌≡◌, ◌++◌, length}
use Rattle.std.specs.List.{flat_map}
use Rattle.bye_strongest.specs.Candidates.{of_key}
use Rattle.bye_strongest.proofs.candidates.push_found.Given as goal

abbrev pub decreases-loop-key : goal.decreases-loop-key
decreases-loop-key g l = length l.found

abbrev pub invariant-loop-key : goal.invariant-loop-key
invariant-loop-key g l = l.out.items ++ flat_map (of_key l.graph.terms l.row) l.found ≡ l.initial.out.items ++ flat_map (of_key l.graph.terms l.row) l.initial.found

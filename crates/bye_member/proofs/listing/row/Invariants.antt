use Rattle.std.proofs.Common.{◌≡◌, take}
use Rattle.bye_pattern.specs.FirstClaims.{listing}
use Rattle.bye_node.specs.Steps.{decode}
use Rattle.bye_member.proofs.listing.row.Given as goal

abbrev pub invariant-loop-place : goal.invariant-loop-place
invariant-loop-place l = l.pairs.items ≡ listing (take l.place l.vars) (decode l.vars l.graph.terms l.cells)

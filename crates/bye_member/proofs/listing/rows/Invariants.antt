use Rattle.std.proofs.Common.{◌≡◌, map, take}
use Rattle.bye_member.specs.Listing.{row_of}
use Rattle.bye_member.proofs.listing.rows.Given as goal

abbrev pub invariant-loop-line : goal.invariant-loop-line
invariant-loop-line l = l.rows.items ≡ map (row_of l.vars l.graph.terms) (take l.line-index l.lines)

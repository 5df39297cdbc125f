use Rattle.std.proofs.Common.{◌≡◌, length}
use Rattle.std.specs.Cmp.Lexicographic.{slice_cmp}
use Rattle.std.specs.Ordering.{nat_cmp}
use Rattle.bye_terms.specs.Pieces.{left_of}
use Rattle.bye_terms.proofs.spelling.compare.Given as goal

abbrev pub invariant-loop-one : goal.invariant-loop-one
invariant-loop-one l = slice_cmp nat_cmp (left_of l.one) (left_of l.other) ≡ slice_cmp nat_cmp (left_of l.initial.one) (left_of l.initial.other)

abbrev pub decreases-loop-one : goal.decreases-loop-one
decreases-loop-one l = length (left_of l.one)

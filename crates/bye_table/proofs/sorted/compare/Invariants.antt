use Rattle.std.proofs.Common.{◌≡◌, drop}
use Rattle.std.specs.Cmp.Lexicographic.{slice_cmp}
use Rattle.bye_table.specs.Cells.{found}
use Rattle.bye_table.specs.Sorted.{cell_cmp}
use Rattle.bye_table.proofs.sorted.compare.Given as goal

abbrev pub invariant-loop-a : goal.invariant-loop-a
invariant-loop-a l = slice_cmp cell_cmp (found (drop l.a-index l.one)) (found l.others) ≡ slice_cmp cell_cmp (found l.one) (found l.initial.others)

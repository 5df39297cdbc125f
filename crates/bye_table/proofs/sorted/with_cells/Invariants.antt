use Rattle.std.proofs.Common.{◌≡◌, map, take}
use Rattle.std.specs.List.{AllByRecursion}
use Rattle.bye_table.specs.Cells.{HasCells, found}
use Rattle.bye_table.proofs.sorted.with_cells.Given as goal

abbrev pub invariant-loop-row : goal.invariant-loop-row
invariant-loop-row l = record {
  rows : map (λ c. c.row.now) l.out.items ≡ take l.row-index l.rows;
  cells : AllByRecursion (λ c. HasCells l.vars c.row.now (found c.cells.items)) l.out.items;
}

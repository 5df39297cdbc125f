use Rattle.std.proofs.Common.{◌≡◌, ◌∷◌, ◌++◌, map, take}
use Rattle.std.specs.List.{flat_map}
use Rattle.bye_table.specs.Cells.{found}
use Rattle.bye_tsv.specs.WrittenFields.{cell_bytes}
use Rattle.bye_tsv.proofs.tsv_writer.push_further_cells.Given as goal

abbrev pub invariant-loop-cell : goal.invariant-loop-cell
invariant-loop-cell l = l.out.items ≡ l.initial.out.items ++ flat_map (λ y. 9 ∷ y) (map cell_bytes (found (take l.cell-index l.cells)))

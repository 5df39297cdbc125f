use Rattle.std.proofs.Common.{◌≡◌, [], map, take}
use Rattle.csv.specs.Records.{fields_of, partial_of}
use Rattle.bye_table.specs.Cells.{found}
use Rattle.bye_tsv.specs.Records.{field_bytes}
use Rattle.bye_tsv.proofs.csv_writer.fill.Given as goal

abbrev pub invariant-loop-cell : goal.invariant-loop-cell
invariant-loop-cell l = (partial_of l.record ≡ []) × (fields_of l.record ≡ map field_bytes (found (take l.cell-index l.cells)))

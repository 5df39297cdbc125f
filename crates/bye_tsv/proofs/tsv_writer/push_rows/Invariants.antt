use Rattle.std.proofs.Common.{◌≡◌, ◌++◌, take}
use Rattle.std.specs.List.{flat_map}
use Rattle.bye_tsv.specs.WrittenFields.{row_bytes}
use Rattle.bye_tsv.proofs.tsv_writer.push_rows.Given as goal

abbrev pub invariant-loop-row : goal.invariant-loop-row
invariant-loop-row l = l.out.items ≡ l.initial.out.items ++ flat_map (row_bytes l.variables) (take l.row-index l.rows)

use Rattle.std.proofs.Common.{take}
use Rattle.std.specs.List.{flat_map}
use Rattle.bye_tsv.specs.Records.{Adds, record_bytes}
use Rattle.bye_tsv.proofs.csv_writer.put_rows.Given as goal

abbrev pub invariant-loop-row : goal.invariant-loop-row
invariant-loop-row l = Adds l.initial.writer l.writer (flat_map (record_bytes l.variables) (take l.row-index l.rows))

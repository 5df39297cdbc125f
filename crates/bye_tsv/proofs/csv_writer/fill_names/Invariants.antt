use Rattle.std.proofs.Common.{◌≡◌, [], map, take}
use Rattle.std.specs.Str.{encode_utf8_all}
use Rattle.csv.specs.Records.{fields_of, partial_of}
use Rattle.bye_tsv.proofs.csv_writer.fill_names.Given as goal

abbrev pub invariant-loop-variable : goal.invariant-loop-variable
invariant-loop-variable l = (partial_of l.record ≡ []) × (fields_of l.record ≡ map encode_utf8_all (take l.variable-index l.variables))

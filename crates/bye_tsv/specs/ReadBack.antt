-- The table that a written TSV document reads back as: a document tells no order of the pairs of a row but that of the variables.
use Rattle.std.specs.Prelude.{List, map}
use Rattle.std.specs.List.{flat_map}
use Rattle.bye_table.specs.Mappings.{Mapping, Name, Pairs, row_mapping}
use Rattle.bye_table.specs.Tables.{TableValue}
use Rattle.bye_tsv.specs.Documents.{bound}

-- the pairs of a mapping, in the order of the variables
abbrev pub pairs_of : List Name → Mapping → Pairs
pairs_of vars m = flat_map (λ v. bound v (m v)) vars

-- the table with the pairs of each row in this order
abbrev pub in_order : TableValue → TableValue
in_order t = record { vars = t.vars; rows = map (λ row. pairs_of t.vars (row_mapping row)) t.rows }

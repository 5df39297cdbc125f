-- Fields as the writers put them: in UTF-8.
use Rattle.std.specs.Prelude.{ℕ, List, map, Option}
use Rattle.std.specs.Str.{encode_utf8_all}
use Rattle.bye_terms.specs.declared.term.Term.{Term}
use Rattle.bye_table.specs.Cells.{cells_of}
use Rattle.bye_table.specs.Mappings.{Name, Pairs, row_mapping}
use Rattle.bye_tsv.specs.Written.{tsv_cell, tsv_line, tsv_name}

-- the fields of the header
abbrev pub name_bytes : Name → List ℕ
name_bytes v = encode_utf8_all (tsv_name v)

-- the fields of a row
abbrev pub cell_bytes : Option Term → List ℕ
cell_bytes cell = encode_utf8_all (tsv_cell cell)

-- the line of a row
abbrev pub row_bytes : List Name → Pairs → List ℕ
row_bytes vars row = tsv_line (map cell_bytes (cells_of vars (row_mapping row)))

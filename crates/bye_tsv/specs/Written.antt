-- The texts of a table (SPARQL 1.1 Query Results CSV and TSV Formats).
use Rattle.std.specs.Prelude.{ℕ, Bool, cond, ◌==◌, ◌||◌, List, [], ◌∷◌, ◌++◌, map, Option, Some, None, codes}
use Rattle.std.specs.List.{flat_map, list_any}
use Rattle.bye_terms.specs.declared.term.Term.{Term}
use Rattle.bye_terms.specs.declared.term.Term.TheVariants.{Iri, Blank, Lit}
use Rattle.bye_lex.specs.Written.{written}
use Rattle.bye_lex.specs.declared.style.Style.TheVariants.{Tsv}
use Rattle.bye_table.specs.Cells.{cells_of}
use Rattle.bye_table.specs.Mappings.{Name, Pairs, row_mapping}
use Rattle.bye_table.specs.Tables.{TableValue}

-- the items one after another, with this character between two
abbrev pub separated : ℕ → List (List ℕ) → List ℕ
separated c [] = []
separated c (x ∷ xs) = x ++ flat_map (λ y. c ∷ y) xs

-- section 4: a TSV line is its fields with TABs between them, and LF
abbrev pub tsv_line : List (List ℕ) → List ℕ
tsv_line fields = separated 9 fields ++ codes "\n"

-- a variable stands with its mark
abbrev pub tsv_name : Name → List ℕ
tsv_name v = codes "?" ++ v

-- a term stands as it is written, and an unbound cell is empty
abbrev pub tsv_cell : Option Term → List ℕ
tsv_cell None = []
tsv_cell (Some t) = written Tsv t

-- the line of a row
abbrev pub tsv_row : List Name → Pairs → List ℕ
tsv_row vars row = tsv_line (map tsv_cell (cells_of vars (row_mapping row)))

-- the header, and a line for each row
abbrev pub tsv_text : TableValue → List ℕ
tsv_text t = tsv_line (map tsv_name t.vars) ++ flat_map (tsv_row t.vars) t.rows

-- section 3 and RFC 4180, section 2: a quote, a comma, CR and LF stand in a quoted field alone
abbrev pub wants_quotes : ℕ → Bool
wants_quotes c = (c == 34) || (c == 44) || (c == 13) || (c == 10)

-- in which a quote is doubled
abbrev pub doubled : ℕ → List ℕ
doubled c = cond (c == 34) (codes "\"\"") (c ∷ [])

-- a field is quoted exactly where it has to be
abbrev pub csv_field : List ℕ → List ℕ
csv_field text = cond (list_any wants_quotes text) (codes "\"" ++ flat_map doubled text ++ codes "\"") text

-- a line that would be empty is an empty field in quotes
abbrev pub not_empty : List ℕ → List ℕ
not_empty [] = codes "\"\""
not_empty (c ∷ cs) = c ∷ cs

-- a CSV line is its fields with commas between them, and CR LF
abbrev pub csv_line : List (List ℕ) → List ℕ
csv_line fields = not_empty (separated 44 (map csv_field fields)) ++ codes "\r\n"

-- an IRI stands without brackets, a literal as its lexical form alone, a blank node as its label after `_:`, and an unbound cell is empty
abbrev pub csv_cell : Option Term → List ℕ
csv_cell None = []
csv_cell (Some (Iri text)) = text
csv_cell (Some (Blank label)) = codes "_:" ++ label
csv_cell (Some (Lit literal)) = literal.lexical

-- the line of a row
abbrev pub csv_row : List Name → Pairs → List ℕ
csv_row vars row = csv_line (map csv_cell (cells_of vars (row_mapping row)))

-- the header has the names without marks
abbrev pub csv_text : TableValue → List ℕ
csv_text t = csv_line t.vars ++ flat_map (csv_row t.vars) t.rows

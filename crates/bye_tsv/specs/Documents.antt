-- Table documents (SPARQL 1.1 Query Results CSV and TSV Formats, section 4): a line of variables, and a line for each row.
use Rattle.std.specs.Prelude.{◌≡◌, ℕ, true, List, [], ◌∷◌, ◌++◌, Option, Some, None, ◌⊎◌}
use Rattle.std.specs.List.{AllByRecursion}
use Rattle.std.specs.Str.{encode_utf8_all, all_scalars}
use Rattle.bye_terms.specs.Members.{EachOnce}
use Rattle.bye_terms.specs.Names.{is_name}
use Rattle.bye_terms.specs.declared.term.Term.{Term}
use Rattle.bye_table.specs.Mappings.{Name, Pairs}
use Rattle.bye_table.specs.Tables.{TableValue}
use Rattle.bye_tsv.specs.Fields.{Field}

-- the end of a line: LF or CR LF
abbrev pub IsLineEnd : List ℕ → Type 0
IsLineEnd text = (text ≡ 10 ∷ []) ⊎ (text ≡ 13 ∷ 10 ∷ [])

-- what ends a line before the rest: a line's end, or the end of the document
abbrev pub Closes : List ℕ → List ℕ → Type 0
Closes end rest = IsLineEnd end ⊎ ((end ≡ []) × (rest ≡ []))

-- a line that the document's end ends is not empty
abbrev pub EndsLine : List ℕ → List ℕ → List ℕ → Type 0
EndsLine line end rest = IsLineEnd end ⊎ ((end ≡ []) × (rest ≡ []) × (line ≡ [] → ⊥))

-- names after the first, each with its mark and a TAB before it
abbrev pub later_names : List Name → List ℕ
later_names [] = []
later_names (v ∷ vs) = 9 ∷ 63 ∷ v ++ later_names vs

-- the header's line: the names with their marks, a TAB between each two; with no names it is empty
abbrev pub header_text : List Name → List ℕ
header_text [] = []
header_text (v ∷ vs) = 63 ∷ v ++ later_names vs

-- names of variables, none twice
abbrev pub AreNames : List Name → Type 0
AreNames vars = AllByRecursion (λ v. is_name v ≡ true) vars × EachOnce vars

-- a cell binds the variable of its column, where it has a term
abbrev pub bound : Name → Option Term → Pairs
bound v None = []
bound v (Some term) = (v, term) ∷ []

-- a field, and then what goes with the rest of the line; the row binds the field's variable, and what the rest binds
pub record FieldThen (First : List ℕ → Option Term → Type 0) (v : Name) (Rest : List ℕ → Pairs → Type 0) (text : List ℕ) (row : Pairs) : Type 0 where
  pub own : List ℕ
  pub cell : Option Term
  pub rest : List ℕ
  pub more : Pairs
  pub first : First own cell
  pub after : Rest rest more
  pub spelled : text ≡ own ++ rest
  pub binds : row ≡ bound v cell ++ more

-- a TAB, and then a text of the rule
pub record AfterTab (L : List ℕ → Pairs → Type 0) (text : List ℕ) (row : Pairs) : Type 0 where
  pub rest : List ℕ
  pub after : L rest row
  pub spelled : text ≡ 9 ∷ rest

-- fields after the first, a TAB before each
abbrev pub LaterFields : List Name → List ℕ → Pairs → Type 0
LaterFields [] text row = (text ≡ []) × (row ≡ [])
LaterFields (v ∷ vs) text row = AfterTab (FieldThen Field v (LaterFields vs)) text row

-- the line of a row: as many fields as there are variables, a TAB between each two; with no variables it is empty
abbrev pub Fields : List Name → List ℕ → Pairs → Type 0
Fields [] text row = (text ≡ []) × (row ≡ [])
Fields (v ∷ vs) text row = FieldThen Field v (LaterFields vs) text row

-- a row's line, its end, and then the other rows
pub record RowThen (vars : List Name) (Rest : List ℕ → Type 0) (text : List ℕ) (row : Pairs) : Type 0 where
  pub line : List ℕ
  pub end : List ℕ
  pub rest : List ℕ
  pub fields : Fields vars line row
  pub ends : EndsLine line end rest
  pub after : Rest rest
  pub spelled : text ≡ line ++ (end ++ rest)

-- the lines of the rows
abbrev pub Rows : List Name → List Pairs → List ℕ → Type 0
Rows vars [] text = text ≡ []
Rows vars (row ∷ rows) text = RowThen vars (Rows vars rows) text row

-- the header's line, its end, and the rows: the text is a document of the table
pub record TsvText (text : List ℕ) (table : TableValue) : Type 0 where
  pub end : List ℕ
  pub rest : List ℕ
  pub names : AreNames table.vars
  pub ends : EndsLine (header_text table.vars) end rest
  pub rows : Rows table.vars table.rows rest
  pub spelled : text ≡ header_text table.vars ++ (end ++ rest)

-- the bytes are the UTF-8 of such a text
pub record TsvDoc (bytes : List ℕ) (table : TableValue) : Type 0 where
  pub text : List ℕ
  pub scalars : all_scalars text ≡ true
  pub encoded : bytes ≡ encode_utf8_all text
  pub lines : TsvText text table

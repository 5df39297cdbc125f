-- Tables: variables, and rows that bind them (SPARQL 1.1 Query Results CSV and TSV Formats, section 3: a table of bindings).
use Rattle.std.specs.Str.{all_scalars}
use Rattle.std.specs.Prelude.{◌≡◌, Bool, true, not, ◌&&◌, List, [], ◌∷◌}
use Rattle.std.specs.List.{AllByRecursion}
use Rattle.bye_terms.specs.declared.term.Term.{Term}
use Rattle.bye_terms.specs.Members.{In, EachOnce}
use Rattle.bye_terms.specs.Names.{is_name}
use Rattle.bye_terms.specs.Valid.{IsRdfTerm}
use Rattle.bye_table.specs.Mappings.{Binds, Name, NoRepeat, Pairs, is_in, row_mapping}

-- the variables of its columns, and its rows in their order
pub record TableValue : Type 0 where
  pub vars : List Name
  pub rows : List Pairs

-- each variable that the row binds is one of these
abbrev pub IsOverVars : List Name → Pairs → Type 0
IsOverVars vars row = (v : Name) → Binds (row_mapping row) v → In vars v

-- no variable stands twice, and each row binds variables of the table alone, none twice
pub record IsTable (t : TableValue) : Type 0 where
  pub once : EachOnce t.vars
  pub over : AllByRecursion (IsOverVars t.vars) t.rows
  pub rows : AllByRecursion NoRepeat t.rows

-- the terms of the row are terms of RDF (RDF 1.1 Concepts, section 3)
abbrev pub IsRdfRow : Pairs → Type 0
IsRdfRow row = AllByRecursion (λ e. IsRdfTerm e.1) row

-- a name of a variable (SPARQL 1.1 Query, section 19.8, VARNAME), which is a Unicode string
abbrev pub IsName : Name → Type 0
IsName v = (is_name v ≡ true) × (all_scalars v ≡ true)

-- each variable has a name, and each term is one of RDF
pub record IsRdfTable (t : TableValue) : Type 0 where
  pub vars : AllByRecursion IsName t.vars
  pub rows : AllByRecursion IsRdfRow t.rows

-- whether no name stands twice
abbrev pub distinct : List Name → Bool
distinct [] = true
distinct (v ∷ vs) = not (is_in vs v) && distinct vs

-- whether the pair's variable is one of these
abbrev pub is_pair_over : List Name → Name × Term → Bool
is_pair_over vars e = is_in vars e.0

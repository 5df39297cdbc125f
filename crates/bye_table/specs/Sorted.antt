-- The sorted set of a table: its distinct rows, compared cell by cell in the order of its variables.
use Rattle.std.specs.Prelude.{◌≡◌, List, map, Option, Some, None}
use Rattle.std.specs.Cmp.Lexicographic.{slice_cmp}
use Rattle.std.specs.List.Sorted.{IsStrictlySortedBy}
use Rattle.std.specs.Ordering.{nat_cmp}
use Rattle.std.specs.declared.cmp.Ordering.{Ordering}
use Rattle.std.specs.declared.cmp.Ordering.TheVariants.{Less, Equal, Greater}
use Rattle.bye_terms.specs.declared.term.Term.{Term}
use Rattle.bye_terms.specs.Members.{In}
use Rattle.bye_terms.specs.Spellings.{term_bytes}
use Rattle.bye_table.specs.Cells.{cells_of}
use Rattle.bye_table.specs.Mappings.{Mapping, Name, row_mapping}
use Rattle.bye_table.specs.Tables.{TableValue}

-- terms stand in the byte order of their N-Triples spellings
abbrev pub term_cmp : Term → Term → Ordering
term_cmp s t = slice_cmp nat_cmp (term_bytes s) (term_bytes t)

-- an unbound cell stands before a bound one
abbrev pub cell_cmp : Option Term → Option Term → Ordering
cell_cmp None None = Equal
cell_cmp None (Some t) = Less
cell_cmp (Some s) None = Greater
cell_cmp (Some s) (Some t) = term_cmp s t

-- mappings stand in the order of their first cells that differ, in the order of the variables
abbrev pub mapping_cmp : List Name → Mapping → Mapping → Ordering
mapping_cmp vars m n = slice_cmp cell_cmp (cells_of vars m) (cells_of vars n)

-- the mappings that the rows of a table are
abbrev pub mappings : TableValue → List Mapping
mappings t = map row_mapping t.rows

-- s has the variables of t, the mappings that are rows of t and no others, and each of them comes before all that follow
pub record IsSortedSet (t s : TableValue) : Type 0 where
  pub vars : s.vars ≡ t.vars
  pub among : (m : Mapping) → In (mappings s) m → In (mappings t) m
  pub whole : (m : Mapping) → In (mappings t) m → In (mappings s) m
  pub rises : IsStrictlySortedBy (mapping_cmp t.vars) (mappings s)

-- a table has one sorted set, up to the order in which a row keeps its pairs
abbrev pub OneSortedSet : Type 0
OneSortedSet = (t r s : TableValue) → IsSortedSet t r → IsSortedSet t s → mappings r ≡ mappings s

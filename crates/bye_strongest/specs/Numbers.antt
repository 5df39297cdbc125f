-- Rows and triple patterns by numbers: a variable by its place among the variables, a term by its number in the graph.
use Rattle.std.specs.Prelude.{◌≡◌, ℕ, List, [], ◌∷◌, Option, Some, None, slice_get, slice_index_or}
use Rattle.std.specs.List.{AllByRecursion}
use Rattle.bye_terms.specs.declared.term.Term.{Term}
use Rattle.bye_terms.specs.Members.{In}
use Rattle.bye_table.specs.Cells.{cells_of}
use Rattle.bye_table.specs.Mappings.{Name, Pairs, row_mapping}
use Rattle.bye_graph.specs.Keys.{Key}
use Rattle.bye_strongest.specs.declared.shape.Place.{Place}
use Rattle.bye_strongest.specs.declared.shape.Place.TheVariants.{Hole, Fixed}
pub use Rattle.bye_strongest.specs.declared.shape.Shape.{Shape}

-- for each variable the number of its term, where it has one
abbrev pub Cells : Type 0
Cells = List (Option ℕ)

-- the number that a variable has
abbrev pub cell : Cells → ℕ → Option ℕ
cell e i = slice_index_or e i None

-- the number is that of the term; there is none where there is no term, or it is not one of these
abbrev pub IsNumberOf : List Term → Option Term → Option ℕ → Type 0
IsNumberOf terms None None = Unit {0}
IsNumberOf terms None (Some n) = ⊥
IsNumberOf terms (Some t) None = In terms t → ⊥
IsNumberOf terms (Some t) (Some n) = slice_get terms n ≡ Some t

-- the numbers are those of the terms, one for each
abbrev pub AreNumbers : List Term → List (Option Term) → Cells → Type 0
AreNumbers terms [] [] = Unit {0}
AreNumbers terms [] (c ∷ cs) = ⊥
AreNumbers terms (t ∷ ts) [] = ⊥
AreNumbers terms (t ∷ ts) (c ∷ cs) = IsNumberOf terms t c × AreNumbers terms ts cs

-- the rows by numbers
abbrev pub AreNumberedRows : List Term → List Name → List Pairs → List Cells → Type 0
AreNumberedRows terms vs [] [] = Unit {0}
AreNumberedRows terms vs [] (e ∷ es) = ⊥
AreNumberedRows terms vs (row ∷ rows) [] = ⊥
AreNumberedRows terms vs (row ∷ rows) (e ∷ es) = AreNumbers terms (cells_of vs (row_mapping row)) e × AreNumberedRows terms vs rows es

-- the number that stands in the place
abbrev pub under : Cells → Place → Option ℕ
under e (Hole i) = cell e i
under e (Fixed n) = Some n

-- the shape under the row is this triple
pub record Stands (e : Cells) (shape : Shape) (key : Key) : Type 0 where
  pub s : under e shape.s ≡ Some key.0
  pub p : under e shape.p ≡ Some key.1
  pub o : under e shape.o ≡ Some key.2

-- the shape under the row is a triple of the graph
abbrev pub MeetsShape : List Key → Shape → Cells → Type 0
MeetsShape keys shape e = (key : Key) × In keys key × Stands e shape key

-- it is one under each row
abbrev pub MeetsEach : List Key → List Cells → Shape → Type 0
MeetsEach keys rows shape = AllByRecursion (MeetsShape keys shape) rows

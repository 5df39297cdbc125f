-- Rows restricted to the variables of a triple pattern, by numbers.
use Rattle.std.specs.Prelude.{◌≡◌, ℕ, List, map, Option, Some, None, ◌↔◌}
use Rattle.bye_terms.specs.Members.{In}
use Rattle.bye_graph.specs.Keys.{Key}
use Rattle.bye_strongest.specs.declared.shape.Place.{Place}
use Rattle.bye_strongest.specs.declared.shape.Place.TheVariants.{Hole, Fixed}
pub use Rattle.bye_strongest.specs.declared.restrictions.Columns.{Columns}
pub use Rattle.bye_strongest.specs.declared.restrictions.Restriction.{Restriction}
pub use Rattle.bye_strongest.specs.declared.restrictions.Group.{Group}
use Rattle.bye_strongest.specs.Numbers.{Cells, Shape, cell}

-- the variable in the place, where one stands there
abbrev pub hole_of : Place → Option ℕ
hole_of (Hole i) = Some i
hole_of (Fixed n) = None

-- those of a shape
abbrev pub columns_of : Shape → Columns
columns_of shape = record { s = hole_of shape.s; p = hole_of shape.p; o = hole_of shape.o }

-- the number that the row has for the variable, where there is one
abbrev pub number_at : Cells → Option ℕ → Option ℕ
number_at e None = None
number_at e (Some i) = cell e i

-- the row restricted to these variables
abbrev pub restrict : Columns → Cells → Restriction
restrict columns e = record { s = number_at e columns.s; p = number_at e columns.p; o = number_at e columns.o }

-- the number that stands in the place, which is this one where the place is a variable
abbrev pub filled : Option ℕ → Place → Option ℕ
filled c (Hole i) = c
filled c (Fixed n) = Some n

-- the shape under the restriction is a triple of the graph
abbrev pub MeetsRestriction : List Key → Shape → Restriction → Type 0
MeetsRestriction keys shape r = (key : Key) × In keys key × (filled r.s shape.s ≡ Some key.0) × (filled r.p shape.p ≡ Some key.1) × (filled r.o shape.o ≡ Some key.2)

-- the restrictions of the rows to the group's variables
abbrev pub IsGroup : List Cells → Group → Type 0
IsGroup rows group = (r : Restriction) → In group.restrictions.items r ↔ In (map (restrict group.columns) rows) r

-- the group of these variables
pub record IsGroupOf (columns : Columns) (rows : List Cells) (group : Group) : Type 0 where
  pub same : group.columns ≡ columns
  pub all : IsGroup rows group

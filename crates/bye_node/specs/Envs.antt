-- Mappings by numbers: at the place of each variable the number of its term, where it is bound.
use Rattle.std.specs.Prelude.{◌≡◌, ℕ, ◌==◌, nat_lt, Bool, true, false, cond, List, Option, Some, None, IsSome, length, replicate, slice_index_or, slice_set, ◌⊎◌, ◌↔◌}
use Rattle.bye_terms.specs.Members.{In}
use Rattle.bye_graph.specs.Keys.{Key}
use Rattle.bye_node.specs.declared.env.Place.{Place}
use Rattle.bye_node.specs.declared.env.Place.TheVariants.{Hole, Fixed}
pub use Rattle.bye_node.specs.declared.env.Shape.{Shape}
pub use Rattle.bye_node.specs.declared.env.Bound.{Bound}

abbrev pub Cells : Type 0
Cells = List (Option ℕ)

-- the mapping of that many variables that binds none
abbrev pub blank : ℕ → Cells
blank count = replicate count None

-- the number that a variable has
abbrev pub cell : Cells → ℕ → Option ℕ
cell e i = slice_index_or e i None

-- the number that stands in the place
abbrev pub under : Cells → Place → Option ℕ
under e (Hole i) = cell e i
under e (Fixed n) = Some n

-- the mapping with the number in the place, where that can be
abbrev pub bind_hole : Cells → ℕ → ℕ → Option ℕ → Option Cells
bind_hole e i n None = cond (nat_lt i (length e)) (Some (slice_set e i (Some n))) None
bind_hole e i n (Some m) = cond (m == n) (Some e) None

abbrev pub bind : Cells → Place → ℕ → Option Cells
bind e (Hole i) n = bind_hole e i n (cell e i)
bind e (Fixed m) n = cond (m == n) (Some e) None

abbrev pub then_bind : Option Cells → Place → ℕ → Option Cells
then_bind None place n = None
then_bind (Some e) place n = bind e place n

-- the mapping with the triple in the places of the shape, where that can be
abbrev pub bind_key : Cells → Shape → Key → Option Cells
bind_key e shape key = then_bind (then_bind (bind e shape.s key.0) shape.p key.1) shape.o key.2

-- the mapping without the number in the cell, where there is a cell
abbrev pub opened : Cells → Option ℕ → Cells
opened e None = e
opened e (Some i) = slice_set e i None

-- the mapping without the numbers in the cells that a triple was put into
abbrev pub unbound : Cells → Bound → Cells
unbound e bound = opened (opened (opened e bound.o) bound.p) bound.s

-- z has the numbers that e has
pub record Grows (e z : Cells) : Type 0 where
  pub len : length z ≡ length e
  pub keeps : (i n : ℕ) → cell e i ≡ Some n → cell z i ≡ Some n

abbrev pub IsHole : Place → ℕ → Type 0
IsHole (Hole j) i = j ≡ i
IsHole (Fixed n) i = ⊥

abbrev pub HasHole : Shape → ℕ → Type 0
HasHole shape i = IsHole shape.s i ⊎ (IsHole shape.p i ⊎ IsHole shape.o i)

-- the shape under the mapping is this triple
abbrev pub Stands : Cells → Shape → Key → Type 0
Stands z shape key = (under z shape.s ≡ Some key.0) × (under z shape.p ≡ Some key.1) × (under z shape.o ≡ Some key.2)

abbrev pub MeetsShape : List Key → Cells → Shape → Type 0
MeetsShape keys z shape = (key : Key) × In keys key × Stands z shape key

-- z is e with numbers for holes of the shapes, and each shape under it is a triple
pub record Fills (keys : List Key) (e : Cells) (shapes : List Shape) (z : Cells) : Type 0 where
  pub grows : Grows e z
  pub within : (i : ℕ) → IsSome (cell z i) → IsSome (cell e i) ⊎ ((shape : Shape) × In shapes shape × HasHole shape i)
  pub meets : (shape : Shape) → In shapes shape → MeetsShape keys z shape

-- the same shapes, in some order
pub record AreReordered (old new : List Shape) : Type 0 where
  pub same : (shape : Shape) → In new shape ↔ In old shape
  pub count : length new ≡ length old

-- z is the first mapping found of those that are wanted, or e where none is
abbrev pub IsFirst : (Cells → Type 0) → Cells → Bool → Cells → Type 0
IsFirst Wanted e true z = Wanted z
IsFirst Wanted e false z = (z ≡ e) × ((y : Cells) → Wanted y → ⊥)

-- What the cells of a mapping by numbers may be: each variable may be pinned to one number, or to none.
use Rattle.std.specs.Prelude.{◌≡◌, ℕ, List, Option, Some, None, slice_index_or, ◌⊎◌}
use Rattle.bye_graph.specs.Keys.{Key}
use Rattle.bye_node.specs.declared.env.Place.{Place}
use Rattle.bye_node.specs.declared.env.Place.TheVariants.{Hole, Fixed}
pub use Rattle.bye_node.specs.declared.pin.Pin.{Pin}
use Rattle.bye_node.specs.declared.pin.Pin.TheVariants.{Free, Must, Never}
use Rattle.bye_node.specs.Envs.{Cells, Shape, cell}

-- the pin of a variable; one past the end of the pins is free
abbrev pub pin_at : List Pin → ℕ → Pin
pin_at pins i = slice_index_or pins i Free

-- the number may be put where the pin is
abbrev pub Allows : Pin → ℕ → Type 0
Allows Free n = Unit {0}
Allows (Must m) n = n ≡ m
Allows Never n = ⊥

-- each number of the mapping is allowed
pub record AgreesWith (pins : List Pin) (z : Cells) : Type 0 where
  pub allowed : (i n : ℕ) → cell z i ≡ Some n → Allows (pin_at pins i) n

-- the number that a pin asks for
abbrev pub asked : Pin → Option ℕ
asked Free = None
asked (Must n) = Some n
asked Never = None

-- the first number, where there is one, and else the second
abbrev pub first_number : Option ℕ → Option ℕ → Option ℕ
first_number None d = d
first_number (Some n) d = Some n

-- the number in the place, and else the one that is asked for there
abbrev pub given : Cells → List Pin → Place → Option ℕ
given e pins (Hole i) = first_number (cell e i) (asked (pin_at pins i))
given e pins (Fixed n) = Some n

-- the number may be put in the place
abbrev pub AllowsAt : List Pin → Place → ℕ → Type 0
AllowsAt pins (Hole i) n = Allows (pin_at pins i) n
AllowsAt pins (Fixed m) n = Unit {0}

-- the triple may be put in the places of the shape
abbrev pub AllowsKey : List Pin → Shape → Key → Type 0
AllowsKey pins shape key = AllowsAt pins shape.s key.0 × AllowsAt pins shape.p key.1 × AllowsAt pins shape.o key.2

-- the place is an open hole in which no number may be put
abbrev pub IsShutAt : List Pin → Cells → Place → Type 0
IsShutAt pins e (Hole i) = (cell e i ≡ None) × (pin_at pins i ≡ Never)
IsShutAt pins e (Fixed n) = ⊥

abbrev pub IsShut : List Pin → Cells → Shape → Type 0
IsShut pins e shape = IsShutAt pins e shape.s ⊎ (IsShutAt pins e shape.p ⊎ IsShutAt pins e shape.o)

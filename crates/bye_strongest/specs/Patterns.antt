-- Triple patterns from their numbers.
use Rattle.std.specs.Prelude.{cond, ◌&&◌, List, [], ◌∷◌, Option, Some, None, slice_get}
use Rattle.bye_terms.specs.declared.term.Term.{Term}
use Rattle.bye_terms.specs.Terms.{is_blank}
use Rattle.bye_table.specs.Mappings.{Name}
use Rattle.bye_pattern.specs.declared.slot.Slot.{Slot}
use Rattle.bye_pattern.specs.declared.slot.Slot.TheVariants.{Var, Const}
use Rattle.bye_pattern.specs.Candidates.{of_slots}
use Rattle.bye_pattern.specs.Patterns.{Pattern, is_place}
use Rattle.bye_strongest.specs.declared.shape.Place.{Place}
use Rattle.bye_strongest.specs.declared.shape.Place.TheVariants.{Hole, Fixed}
use Rattle.bye_strongest.specs.Numbers.{Shape}

-- the variable as a place
abbrev pub var : Name → Slot
var v = Var v

-- the term as a place, but for a blank node
abbrev pub constant : Term → Option Slot
constant t = cond (is_blank t) None (Some (Const t))

-- the variable, where there is one
abbrev pub var_of : Option Name → Option Slot
var_of None = None
var_of (Some v) = Some (Var v)

-- the term, where there is one
abbrev pub constant_of : Option Term → Option Slot
constant_of None = None
constant_of (Some t) = constant t

-- what stands in the place
abbrev pub slot_of : List Name → List Term → Place → Option Slot
slot_of vs terms (Hole i) = var_of (slice_get vs i)
slot_of vs terms (Fixed n) = constant_of (slice_get terms n)

-- the pattern of three places, where each has something and it is one
abbrev pub pattern_of_slots : Option Slot → Option Slot → Option Slot → Option Pattern
pattern_of_slots None p o = None
pattern_of_slots (Some s) None o = None
pattern_of_slots (Some s) (Some p) None = None
pattern_of_slots (Some s) (Some p) (Some o) = cond (is_place s && is_place p) (Some (of_slots s p o)) None

-- the pattern of a shape
abbrev pub pattern_of : List Name → List Term → Shape → Option Pattern
pattern_of vs terms shape = pattern_of_slots (slot_of vs terms shape.s) (slot_of vs terms shape.p) (slot_of vs terms shape.o)

-- the same as a list
abbrev pub listed : Option Pattern → List Pattern
listed None = []
listed (Some p) = p ∷ []

abbrev pub patterns_of : List Name → List Term → Shape → List Pattern
patterns_of vs terms shape = listed (pattern_of vs terms shape)

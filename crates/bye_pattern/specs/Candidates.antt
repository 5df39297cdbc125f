-- The triple patterns that become a triple of the graph under one row, as lists.
use Rattle.std.specs.Prelude.{Bool, true, false, ◌&&◌, ◌||◌, List, [], ◌∷◌, ◌++◌, if◌then◌else◌}
use Rattle.std.specs.List.{flat_map, list_any}
use Rattle.bye_terms.specs.declared.term.Term.{Term}
use Rattle.bye_terms.specs.Terms.{Statement, is_blank}
use Rattle.bye_pattern.specs.declared.slot.Slot.{Slot}
use Rattle.bye_pattern.specs.declared.slot.Slot.TheVariants.{Var, Const}
use Rattle.bye_table.specs.Mappings.{Name, Pairs}
use Rattle.bye_pattern.specs.Patterns.{Pattern, is_place}
use Rattle.bye_pattern.specs.Conditions.{same_term}

-- the variable of the pair, where its term is this one
abbrev pub var_slot : Term → Name × Term → List Slot
var_slot term e = if same_term e.1 term then Var e.0 ∷ [] else []

-- the term itself, but for a blank node
abbrev pub const_slot : Term → List Slot
const_slot term = if is_blank term then [] else Const term ∷ []

-- what may stand in a pattern where the triple has this term
abbrev pub slots : Pairs → Term → List Slot
slots row term = const_slot term ++ flat_map (var_slot term) row

-- whether the place is a variable
abbrev pub is_var : Slot → Bool
is_var (Var v) = true
is_var (Const c) = false

-- the pattern of these places
abbrev pub of_slots : Slot → Slot → Slot → Pattern
of_slots s p o = record { s = s; p = p; o = o }

-- the pattern of these places, where it is one and has a variable
abbrev pub offered : Slot → Slot → Slot → List Pattern
offered s p o = if is_place s && is_place p && (is_var s || is_var p || is_var o) then of_slots s p o ∷ [] else []

-- the patterns of this subject and predicate with each of these objects
abbrev pub with_objects : List Slot → Slot → Slot → List Pattern
with_objects os s p = flat_map (offered s p) os

-- those of this subject with each of these predicates and objects
abbrev pub with_predicates : List Slot → List Slot → Slot → List Pattern
with_predicates ps os s = flat_map (with_objects os s) ps

-- those of each of these subjects, predicates and objects
abbrev pub with_subjects : List Slot → List Slot → List Slot → List Pattern
with_subjects ss ps os = flat_map (with_predicates ps os) ss

-- the patterns with a variable and no blank constant that become the triple of these terms under the row
unfoldable pub of_terms : Pairs → Term → Term → Term → List Pattern
of_terms row s p o = with_subjects (slots row s) (slots row p) (slots row o)

-- whether a term of the triple is one of the row's
abbrev pub touches : Pairs → Statement → Bool
touches row f = list_any (λ e. same_term e.1 f.s || same_term e.1 f.p || same_term e.1 f.o) row

-- those of a triple; there are none where no term of it is one of the row's
abbrev pub of_statement : Pairs → Statement → List Pattern
of_statement row f = if touches row f then of_terms row f.s f.p f.o else []

-- those of each triple of the graph
abbrev pub candidates : Pairs → List Statement → List Pattern
candidates row g = flat_map (of_statement row) g

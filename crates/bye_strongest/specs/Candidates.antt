-- The triple patterns that become a triple of the graph under one row, by numbers.
use Rattle.std.specs.Prelude.{◌≡◌, ℕ, suc, ◌==◌, Bool, true, false, cond, ◌||◌, List, [], ◌∷◌, ◌++◌, Option, Some, None, slice_get, ◌⊎◌}
use Rattle.std.specs.List.{flat_map}
use Rattle.bye_terms.specs.declared.term.Term.{Term}
use Rattle.bye_terms.specs.Members.{In}
use Rattle.bye_terms.specs.Terms.{is_blank}
use Rattle.bye_graph.specs.Graphs.{GraphValue}
use Rattle.bye_graph.specs.Keys.{Key}
use Rattle.bye_strongest.specs.declared.shape.Place.{Place}
use Rattle.bye_strongest.specs.declared.shape.Place.TheVariants.{Hole, Fixed}
use Rattle.bye_strongest.specs.Numbers.{Cells, Shape}

-- whether the variable has this number
abbrev pub is_number : Option ℕ → ℕ → Bool
is_number None n = false
is_number (Some m) n = m == n

-- the variable of that place, where it has this number
abbrev pub hole : ℕ → Option ℕ → ℕ → List Place
hole i c n = cond (is_number c n) (Hole i ∷ []) []

-- the variables that have this number, of those from that place on
abbrev pub holes : ℕ → Cells → ℕ → List Place
holes i [] n = []
holes i (c ∷ cs) n = hole i c n ++ holes (suc i) cs n

-- the term itself, but for a blank node
abbrev pub named : ℕ → Option Term → List Place
named n None = []
named n (Some t) = cond (is_blank t) [] (Fixed n ∷ [])

-- what may stand in a pattern where the triple has this number
unfoldable pub places : List Term → Cells → ℕ → List Place
places terms e n = named n (slice_get terms n) ++ holes 0 e n

-- whether the place is a variable
abbrev pub is_hole : Place → Bool
is_hole (Hole i) = true
is_hole (Fixed n) = false

-- the shape of these places, where it has a variable
abbrev pub offered : Place → Place → Place → List Shape
offered s p o = cond (is_hole s || is_hole p || is_hole o) (record { s = s; p = p; o = o } ∷ []) []

-- the shapes of this subject and predicate with each of these objects
abbrev pub with_objects : List Place → Place → Place → List Shape
with_objects os s p = flat_map (offered s p) os

-- those of this subject with each of these predicates and objects
abbrev pub with_predicates : List Place → List Place → Place → List Shape
with_predicates ps os s = flat_map (with_objects os s) ps

-- those of each of these subjects, predicates and objects
abbrev pub with_subjects : List Place → List Place → List Place → List Shape
with_subjects ss ps os = flat_map (with_predicates ps os) ss

-- the shapes with a variable and no blank constant that become the triple under the row
unfoldable pub of_key : List Term → Cells → Key → List Shape
of_key terms e key = with_subjects (places terms e key.0) (places terms e key.1) (places terms e key.2)

-- a term of the triple has this number
abbrev pub HasNumber : Key → ℕ → Type 0
HasNumber key n = (key.0 ≡ n) ⊎ ((key.1 ≡ n) ⊎ (key.2 ≡ n))

-- the shape becomes a triple that has this number
abbrev pub IsAround : GraphValue → Cells → ℕ → Shape → Type 0
IsAround g e n shape = (key : Key) × In g.keys key × HasNumber key n × In (of_key g.terms e key) shape

-- the shape becomes a triple that has a number of the row
abbrev pub IsCandidate : GraphValue → Cells → Shape → Type 0
IsCandidate g e shape = (n : ℕ) × In e (Some n) × IsAround g e n shape

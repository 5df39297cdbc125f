-- A node of a query by numbers: a mapping beside a row, and how values for the node's variables are put into it.
use Rattle.std.specs.Prelude.{◌≡◌, ℕ, ◌<◌, cond, List, [], ◌∷◌, ◌++◌, Option, Some, None, IsSome, length, slice_get, ◌⊎◌}
use Rattle.std.specs.Str.{bytes_eq}
use Rattle.bye_terms.specs.declared.term.Term.{Term}
use Rattle.bye_terms.specs.Members.{In, EachOnce}
use Rattle.bye_table.specs.Mappings.{Binds, Mapping, Name, Pairs, merge}
use Rattle.bye_pattern.specs.declared.slot.Slot.{Slot}
use Rattle.bye_pattern.specs.declared.slot.Slot.TheVariants.{Var, Const}
use Rattle.bye_pattern.specs.Patterns.{Pattern}
use Rattle.bye_pattern.specs.Trees.{Tree, own_vars}
use Rattle.bye_laws.specs.Reaching.{MeetsNode}
use Rattle.bye_graph.specs.Graphs.{GraphValue, StandsIn, statements}
use Rattle.bye_node.specs.declared.env.Place.{Place}
use Rattle.bye_node.specs.declared.env.Place.TheVariants.{Hole, Fixed}
use Rattle.bye_node.specs.Envs.{Cells, Grows, Shape, cell}

-- the term of a number, where there is one
abbrev pub value_at : List Term → Option ℕ → Option Term
value_at terms None = None
value_at terms (Some n) = slice_get terms n

-- the mapping that numbers of terms, one for each variable, are
abbrev pub decode : List Name → List Term → Cells → Mapping
decode [] terms e v = None
decode (w ∷ vs) terms [] v = None
decode (w ∷ vs) terms (c ∷ e) v = cond (bytes_eq w v) (value_at terms c) (decode vs terms e v)

-- the row, and what the numbers say beside it
abbrev pub beside : Mapping → List Name → List Term → Cells → Mapping
beside row vs terms e = merge row (decode vs terms e)

-- one cell for each variable, and each number is that of a term
pub record IsEnv (vs : List Name) (g : GraphValue) (e : Cells) : Type 0 where
  pub len : length e ≡ length vs
  pub used : (i n : ℕ) → cell e i ≡ Some n → n < length g.terms

-- the variable of that number is one of the node's, and the row leaves it open
abbrev pub IsOwnAt : Mapping → List Name → Tree → ℕ → Type 0
IsOwnAt row vs t i = (v : Name) × In (own_vars t) v × (row v ≡ None) × (slice_get vs i ≡ Some v)

-- z is e with numbers for variables of the node that are open, and with the row it meets the node
pub record IsStepBy (row : Mapping) (vs : List Name) (g : GraphValue) (e : Cells) (t : Tree) (z : Cells) : Type 0 where
  pub grows : Grows e z
  pub within : (i : ℕ) → IsSome (cell z i) → IsSome (cell e i) ⊎ IsOwnAt row vs t i
  pub meets : MeetsNode (statements g) (beside row vs g.terms z) t

-- the variables stand once in the list, and it has each of these that the row leaves open
pub record AreListed (row : Mapping) (vs ws : List Name) : Type 0 where
  pub once : EachOnce vs
  pub has : (v : Name) → In ws v → Binds row v ⊎ In vs v

-- what stands in a place where the row's terms are taken as constants
abbrev pub filled : Name → Option Term → Slot
filled v None = Var v
filled v (Some t) = Const t

abbrev pub slot_in : Mapping → Slot → Slot
slot_in row (Var v) = filled v (row v)
slot_in row (Const c) = Const c

abbrev pub pattern_in : Mapping → Pattern → Pattern
pattern_in row p = record { s = slot_in row p.s; p = slot_in row p.p; o = slot_in row p.o }

-- a place of a pattern by numbers
abbrev pub IsPlace : List Name → List Term → Slot → Place → Type 0
IsPlace vs terms (Var v) (Hole i) = slice_get vs i ≡ Some v
IsPlace vs terms (Const c) (Fixed n) = slice_get terms n ≡ Some c
IsPlace vs terms (Var v) (Fixed n) = ⊥
IsPlace vs terms (Const c) (Hole i) = ⊥

-- the place of a term
abbrev pub IsFixed : List Term → Term → Place → Type 0
IsFixed terms t (Fixed n) = slice_get terms n ≡ Some t
IsFixed terms t (Hole i) = ⊥

pub record IsShape (vs : List Name) (terms : List Term) (pattern : Pattern) (shape : Shape) : Type 0 where
  pub s : IsPlace vs terms pattern.s shape.s
  pub p : IsPlace vs terms pattern.p shape.p
  pub o : IsPlace vs terms pattern.o shape.o

abbrev pub AreShapes : List Name → List Term → List Pattern → List Shape → Type 0
AreShapes vs terms [] [] = Unit {0}
AreShapes vs terms [] (q ∷ qs) = ⊥
AreShapes vs terms (p ∷ ps) [] = ⊥
AreShapes vs terms (p ∷ ps) (q ∷ qs) = IsShape vs terms p q × AreShapes vs terms ps qs

-- a place that no number has
abbrev pub IsLost : List Name → List Term → Slot → Type 0
IsLost vs terms (Var v) = In vs v → ⊥
IsLost vs terms (Const c) = In terms c → ⊥

abbrev pub IsLostShape : List Name → List Term → Pattern → Type 0
IsLostShape vs terms p = IsLost vs terms p.s ⊎ (IsLost vs terms p.p ⊎ IsLost vs terms p.o)

abbrev pub HasLost : List Name → List Term → List Pattern → Type 0
HasLost vs terms ps = (p : Pattern) × In ps p × IsLostShape vs terms p

-- the number is that of the term, where there is one
abbrev pub HasNumber : GraphValue → Option Term → ℕ → Type 0
HasNumber g None n = ⊥
HasNumber g (Some t) n = slice_get g.terms n ≡ Some t

-- there is no term, or it is in no triple
abbrev pub LacksNumber : GraphValue → Option Term → Type 0
LacksNumber g None = Unit {0}
LacksNumber g (Some t) = StandsIn (statements g) t → ⊥

-- a variable with its term, where it has one
abbrev pub pair : Name → Option Term → Pairs
pair v None = []
pair v (Some t) = (v, t) ∷ []

-- the variables that have numbers, with their terms
abbrev pub pairs : List Name → List Term → Cells → Pairs
pairs [] terms e = []
pairs (v ∷ vs) terms [] = []
pairs (v ∷ vs) terms (c ∷ e) = pair v (value_at terms c) ++ pairs vs terms e

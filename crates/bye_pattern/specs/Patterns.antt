-- Triple patterns (SPARQL 1.1 Query, section 18.1.5) and what becomes of them under a mapping (section 18.3).
use Rattle.std.specs.Prelude.{◌≡◌, Bool, true, false, List, [], ◌∷◌, ◌++◌, Option, Some}
use Rattle.bye_terms.specs.declared.term.Term.{Term}
use Rattle.bye_terms.specs.Terms.{Statement, is_iri_term, is_blank}
use Rattle.bye_terms.specs.Members.{In}
use Rattle.bye_pattern.specs.declared.slot.Slot.{Slot}
use Rattle.bye_pattern.specs.declared.slot.Slot.TheVariants.{Var, Const}
use Rattle.bye_table.specs.Mappings.{Name, Mapping}

-- a triple pattern: a variable or a constant in each place
pub record Pattern : Type 0 where
  pub s : Slot
  pub p : Slot
  pub o : Slot

-- the variable of a place, where it is one
abbrev pub slot_vars : Slot → List Name
slot_vars (Var v) = v ∷ []
slot_vars (Const c) = []

-- the variables of a pattern, from left to right, with repeats
abbrev pub vars : Pattern → List Name
vars p = slot_vars p.s ++ slot_vars p.p ++ slot_vars p.o

-- the variables of a basic graph pattern, with repeats
abbrev pub all_vars : List Pattern → List Name
all_vars [] = []
all_vars (p ∷ ps) = vars p ++ all_vars ps

-- what stands in the place under the mapping, where that is a term
abbrev pub slot_under : Mapping → Slot → Option Term
slot_under m (Var v) = m v
slot_under m (Const c) = Some c

-- the pattern under the mapping is this triple
pub record Becomes (m : Mapping) (pattern : Pattern) (f : Statement) : Type 0 where
  pub s : slot_under m pattern.s ≡ Some f.s
  pub p : slot_under m pattern.p ≡ Some f.p
  pub o : slot_under m pattern.o ≡ Some f.o

-- the mapping binds each variable of the pattern, and the pattern under it is a triple of the graph
abbrev pub Meets : List Statement → Mapping → Pattern → Type 0
Meets g m p = (f : Statement) × In g f × Becomes m p f

-- a place that is a variable or an IRI, as a subject and a predicate of a query text are
abbrev pub is_place : Slot → Bool
is_place (Var v) = true
is_place (Const c) = is_iri_term c

-- a constant in the place is no blank node
abbrev pub IsNamed : Slot → Type 0
IsNamed (Var v) = Unit {0}
IsNamed (Const c) = is_blank c ≡ false

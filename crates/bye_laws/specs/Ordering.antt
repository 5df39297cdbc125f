-- The order in which conjuncts are tried: of different ones which is first, and the lists in that order.
use Rattle.std.specs.Prelude.{◌≡◌, true, false, List, [], ◌∷◌, ◌⊎◌, ◌↔◌}
use Rattle.std.specs.List.{AllByRecursion}
use Rattle.std.specs.Ordering.{is_lt}
use Rattle.bye_terms.specs.Members.{EachOnce, In}
use Rattle.bye_terms.specs.Names.{is_name}
use Rattle.bye_terms.specs.Valid.{IsTerm}
use Rattle.bye_terms.specs.declared.term.Term.{Term}
use Rattle.bye_table.specs.Mappings.{Name}
use Rattle.bye_pattern.specs.declared.cond.Cond.{Cond}
use Rattle.bye_pattern.specs.declared.cond.Cond.TheVariants as conds
use Rattle.bye_pattern.specs.declared.slot.Slot.{Slot}
use Rattle.bye_pattern.specs.declared.slot.Slot.TheVariants.{Var, Const}
use Rattle.bye_pattern.specs.Conditions.{cond_vars}
use Rattle.bye_pattern.specs.Patterns.{Pattern, is_place}
use Rattle.bye_pattern.specs.Starting.{AreInTrialOrder}
use Rattle.bye_pattern.specs.TrialOrder.{IsInStrictOrder, IsInTrialOrder, line_bytes, trial_cmp}

-- a place with the name of a variable or a term of RDF
abbrev pub IsValidSlot : Slot → Type 0
IsValidSlot (Var v) = is_name v ≡ true
IsValidSlot (Const c) = IsTerm c

-- a pattern that a query text can have: names and terms in its places, and as subject and predicate variables or IRIs
pub record IsValidPattern (p : Pattern) : Type 0 where
  pub subject : IsValidSlot p.s
  pub predicate : IsValidSlot p.p
  pub object : IsValidSlot p.o
  pub subject_place : is_place p.s ≡ true
  pub predicate_place : is_place p.p ≡ true

-- one is tried before the other, and not the other way round
abbrev pub IsTriedFirst : Pattern → Pattern → Type 0
IsTriedFirst p q = (is_lt (trial_cmp p q) ≡ true) × (is_lt (trial_cmp q p) ≡ false)

-- valid patterns are told by their lines, so of two different ones exactly one is tried before the other
pub record OnePattern : Type 0 where
  pub line : (p q : Pattern) → IsValidPattern p → IsValidPattern q → line_bytes p ≡ line_bytes q → p ≡ q
  pub first : (p q : Pattern) → IsValidPattern p → IsValidPattern q → (p ≡ q → ⊥) → IsTriedFirst p q ⊎ IsTriedFirst q p

-- a list in which each element stands before all later ones
abbrev pub IsSorted : {X : Type 0} → (X → X → Type 0) → List X → Type 0
IsSorted R [] = Unit {0}
IsSorted {X} R (x ∷ xs) = AllByRecursion (R x) xs × IsSorted R xs

-- the two lists have the same members
abbrev pub HaveSameMembers : {X : Type 0} → List X → List X → Type 0
HaveSameMembers {X} xs ys = (x : X) → In xs x ↔ In ys x

-- all variables of the conditions are of the header, and no variable has two constants
pub record AreOrderable (header : List Name) (cs : List Cond) : Type 0 where
  pub over : (c : Cond) → In cs c → (v : Name) → In (cond_vars c) v → In header v
  pub one_constant : (v : Name) (s t : Term) → In cs (conds.SameConst v s) → In cs (conds.SameConst v t) → s ≡ t

-- valid patterns stand in one list in strict order, and conditions over a header in one list in the order of trial
pub record SortedListsAreOneAndThere : Type 0 where
  -- the order is strict where each stands once
  pub strict : (ps : List Pattern) → AllByRecursion IsValidPattern ps → IsInStrictOrder ps ↔ (EachOnce ps × IsInTrialOrder ps)
  pub patterns : (ps : List Pattern) → AllByRecursion IsValidPattern ps → (qs : List Pattern) × IsInStrictOrder qs × HaveSameMembers qs ps
  pub one_of_patterns : (ps qs : List Pattern) → IsInStrictOrder ps → IsInStrictOrder qs → HaveSameMembers ps qs → ps ≡ qs
  pub conditions : (header : List Name) (cs : List Cond) → EachOnce header → AreOrderable header cs → (ds : List Cond) × AreInTrialOrder header ds × HaveSameMembers ds cs
  pub one_of_conditions : (header : List Name) (cs ds : List Cond) → EachOnce header → AreInTrialOrder header cs → AreInTrialOrder header ds → HaveSameMembers cs ds → cs ≡ ds

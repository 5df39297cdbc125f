-- Conditions and their three values (SPARQL 1.1 Query, sections 17.2 and 17.4): true, false and, as None, an error.
use Rattle.std.specs.Prelude.{◌≡◌, ℕ, Bool, true, false, not, ◌&&◌, List, [], ◌∷◌, Option, Some, None, is_some}
use Rattle.std.specs.Str.{bytes_eq}
use Rattle.std.specs.List.{AllByRecursion}
use Rattle.bye_terms.specs.declared.term.Term.{Term}
use Rattle.bye_terms.specs.declared.term.Term.TheVariants.{Iri, Blank, Lit}
use Rattle.bye_pattern.specs.declared.slot.Slot.{Slot}
use Rattle.bye_pattern.specs.declared.slot.Slot.TheVariants.{Var, Const}
use Rattle.bye_pattern.specs.declared.kind.Kind.{Kind}
use Rattle.bye_pattern.specs.declared.kind.Kind.TheVariants as kinds
use Rattle.bye_pattern.specs.declared.cond.Cond.{Cond}
use Rattle.bye_pattern.specs.declared.cond.Cond.TheVariants as conds
use Rattle.bye_table.specs.Mappings.{Name, Mapping}
use Rattle.bye_pattern.specs.Patterns.{slot_under}

-- an expression of a FILTER
pub data Expr : Type 0 where
  IsBound : Name → Expr
  Same : Slot → Slot → Expr
  KindOf : Kind → Slot → Expr
  Not : Expr → Expr
  And : Expr → Expr → Expr
  Or : Expr → Expr → Expr

-- a plain condition as an expression
abbrev pub cond_expr : Cond → Expr
cond_expr (conds.Bound v) = IsBound v
cond_expr (conds.SameVar v w) = Same (Var v) (Var w)
cond_expr (conds.SameConst v c) = Same (Var v) (Const c)
cond_expr (conds.KindOf kind v) = KindOf kind (Var v)

-- whether two tags are the same, or both are missing
abbrev pub same_option : Option (List ℕ) → Option (List ℕ) → Bool
same_option None None = true
same_option None (Some t) = false
same_option (Some s) None = false
same_option (Some s) (Some t) = bytes_eq s t

-- whether two terms are the same: all parts equal, character by character
abbrev pub same_term : Term → Term → Bool
same_term (Iri a) (Iri b) = bytes_eq a b
same_term (Blank a) (Blank b) = bytes_eq a b
same_term (Lit a) (Lit b) = bytes_eq a.lexical b.lexical && bytes_eq a.datatype b.datatype && same_option a.tag b.tag
same_term _ _ = false

-- whether the term is of the kind
abbrev pub is_kind : Kind → Term → Bool
is_kind kinds.Iri (Iri t) = true
is_kind kinds.Blank (Blank t) = true
is_kind kinds.Literal (Lit t) = true
is_kind _ _ = false

-- sameTerm: an error where a place has no term
abbrev pub same_value : Option Term → Option Term → Option Bool
same_value (Some s) (Some t) = Some (same_term s t)
same_value _ _ = None

-- a kind test: an error where the place has no term
abbrev pub kind_value : Kind → Option Term → Option Bool
kind_value kind None = None
kind_value kind (Some t) = Some (is_kind kind t)

-- an error stays one
abbrev pub not_value : Option Bool → Option Bool
not_value None = None
not_value (Some b) = Some (not b)

-- false where either is, else an error where either is
abbrev pub and_value : Option Bool → Option Bool → Option Bool
and_value (Some false) v = Some false
and_value (Some true) v = v
and_value None (Some false) = Some false
and_value None (Some true) = None
and_value None None = None

-- true where either is, else an error where either is
abbrev pub or_value : Option Bool → Option Bool → Option Bool
or_value (Some true) v = Some true
or_value (Some false) v = v
or_value None (Some true) = Some true
or_value None (Some false) = None
or_value None None = None

-- the value of an expression under the mapping, and None for an error
abbrev pub value : Mapping → Expr → Option Bool
value m (IsBound v) = Some (is_some (m v))
value m (Same s t) = same_value (slot_under m s) (slot_under m t)
value m (KindOf kind s) = kind_value kind (slot_under m s)
value m (Not e) = not_value (value m e)
value m (And d e) = and_value (value m d) (value m e)
value m (Or d e) = or_value (value m d) (value m e)

-- a filter holds on true alone
abbrev pub HoldsExpr : Mapping → Expr → Type 0
HoldsExpr m e = value m e ≡ Some true

-- a plain condition holds
abbrev pub Holds : Mapping → Cond → Type 0
Holds m c = HoldsExpr m (cond_expr c)

-- all plain conditions hold
abbrev pub AllHold : List Cond → Mapping → Type 0
AllHold cs m = AllByRecursion (Holds m) cs

-- all expressions hold
abbrev pub AllHoldExpr : List Expr → Mapping → Type 0
AllHoldExpr es m = AllByRecursion (HoldsExpr m) es

-- the variables of a plain condition
abbrev pub cond_vars : Cond → List Name
cond_vars (conds.Bound v) = v ∷ []
cond_vars (conds.SameVar v w) = v ∷ w ∷ []
cond_vars (conds.SameConst v c) = v ∷ []
cond_vars (conds.KindOf kind v) = v ∷ []

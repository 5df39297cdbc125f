-- The FILTERs of a written group hold exactly where their conjuncts do, as conditions and as outer expressions.
use Rattle.std.proofs.Common.{◌≡◌, refl, Bool, true, false, not, cond, List, [], ◌∷◌, ◌++◌, map, Option, Some, None, IsSome, is_some, sym, ◌∙◌, ap, subst, ◌↔◌}
use Rattle.std.specs.List.{AllByRecursion, cons_option, filter, filter_map, flat_map, list_all}
use Rattle.bye_terms.specs.declared.term.Term.{Term}
use Rattle.bye_terms.proofs.Lists.{all_join, all_parts}
use Rattle.bye_table.specs.Mappings.{Mapping, Name, is_in}
use Rattle.bye_pattern.specs.declared.cond.Cond.{Cond}
use Rattle.bye_pattern.specs.declared.slot.Slot.TheVariants.{Var, Const}
use Rattle.bye_pattern.specs.Patterns.{all_vars}
use Rattle.bye_pattern.specs.Conditions.{AllHoldExpr, And, Expr, Holds, HoldsExpr, IsBound, KindOf, Not, Or, Same, and_value, cond_expr, cond_vars, same_term, same_value, value}
use Rattle.bye_pattern.specs.Written.{Group, filters, triples}
use Rattle.bye_pattern.specs.Gathered.{conjuncts, outer_tests, plain, plain_tests, root_test, root_tests, tests, within}
use Rattle.bye_pattern.proofs.SameTerms.{same_self, terms_same}

-- a conjunction is true exactly where both sides are
both_true : (a b : Option Bool) → and_value a b ≡ Some true → (a ≡ Some true) × (b ≡ Some true)
both_true (Some true) b e = (refl, e)
both_true (Some false) b e = cc
both_true None (Some true) e = cc
both_true None (Some false) e = cc
both_true None None e = cc

true_both : (a b : Option Bool) → a ≡ Some true → b ≡ Some true → and_value a b ≡ Some true
true_both a b x y = (λ i. and_value (x i) (y i))

-- an expression and its conjuncts
conjuncts_hold : (m : Mapping) (e : Expr) → HoldsExpr m e ↔ AllHoldExpr (conjuncts e) m
conjuncts_hold m (And d e) = (
  (λ h. let w = both_true (value m d) (value m e) h in all_join (HoldsExpr m) (conjuncts d) (conjuncts e) ((conjuncts_hold m d).0 w.0) ((conjuncts_hold m e).0 w.1)),
  (λ all. let w = all_parts (HoldsExpr m) (conjuncts d) (conjuncts e) all in true_both (value m d) (value m e) ((conjuncts_hold m d).1 w.0) ((conjuncts_hold m e).1 w.1)),
)
conjuncts_hold m (IsBound v) = ((λ h. (h, tt)), (λ all. all.0))
conjuncts_hold m (Same s t) = ((λ h. (h, tt)), (λ all. all.0))
conjuncts_hold m (KindOf kind s) = ((λ h. (h, tt)), (λ all. all.0))
conjuncts_hold m (Not e) = ((λ h. (h, tt)), (λ all. all.0))
conjuncts_hold m (Or d e) = ((λ h. (h, tt)), (λ all. all.0))

all_conjuncts_hold : (m : Mapping) (es : List Expr) → AllHoldExpr es m ↔ AllHoldExpr (flat_map conjuncts es) m
all_conjuncts_hold m [] = ((λ h. h), (λ h. h))
all_conjuncts_hold m (e ∷ es) = (
  (λ all. all_join (HoldsExpr m) (conjuncts e) (flat_map conjuncts es) ((conjuncts_hold m e).0 all.0) ((all_conjuncts_hold m es).0 all.1)),
  (λ all. let w = all_parts (HoldsExpr m) (conjuncts e) (flat_map conjuncts es) all in ((conjuncts_hold m e).1 w.0, (all_conjuncts_hold m es).1 w.1)),
)

-- a sameTerm with its sides turned
turned_true : (o p : Option Term) → same_value o p ≡ Some true → same_value p o ≡ Some true
turned_true None p e = cc
turned_true (Some s) None e = cc
turned_true (Some s) (Some t) e =
    let same : s ≡ t = terms_same s t cc in ap Some (ap (λ s. same_term t s) same ∙ same_self t)

-- an expression and the plain condition that it is
told : (m : Mapping) (b c : Cond) → ◌≡◌ {A = Option Cond} (Some b) (Some c) → Holds m b ↔ Holds m c
told m b c h = let same : b ≡ c = cc in ((λ k. subst (Holds m) same k), (λ k. subst (Holds m) (sym same) k))

plain_holds : (m : Mapping) (e : Expr) (c : Cond) → plain e ≡ Some c → HoldsExpr m e ↔ Holds m c
plain_holds m (IsBound v) c h = told m _ c h
plain_holds m (Same (Var v) (Var w)) c h = told m _ c h
plain_holds m (Same (Var v) (Const t)) c h = told m _ c h
plain_holds m (Same (Const t) (Var v)) c h =
    ((λ k. (told m _ c h).0 (turned_true (Some t) (m v) k)), (λ k. turned_true (m v) (Some t) ((told m _ c h).1 k)))
plain_holds m (Same (Const s) (Const t)) c h = cc
plain_holds m (KindOf kind (Var v)) c h = told m _ c h
plain_holds m (KindOf kind (Const t)) c h = cc
plain_holds m (Not e) c h = cc
plain_holds m (And d e) c h = cc
plain_holds m (Or d e) c h = cc

-- a list of plain ones
more_hold : (m : Mapping) (e : Expr) (es : List Expr) (cs : List Cond) (o : Option Cond) → ((c : Cond) → o ≡ Some c → HoldsExpr m e ↔ Holds m c) → IsSome o
    → AllHoldExpr es m ↔ AllHoldExpr (map cond_expr cs) m → AllHoldExpr (e ∷ es) m ↔ AllHoldExpr (map cond_expr (cons_option o cs)) m
more_hold m e es cs None one there rest = cc
more_hold m e es cs (Some c) one there rest = ((λ all. ((one c refl).0 all.0, rest.0 all.1)), (λ all. ((one c refl).1 all.0, rest.1 all.1)))

all_plain_hold : (m : Mapping) (es : List Expr) → AllByRecursion (λ e. IsSome (plain e)) es → AllHoldExpr es m ↔ AllHoldExpr (map cond_expr (filter_map plain es)) m
all_plain_hold m [] there = ((λ h. h), (λ h. h))
all_plain_hold m (e ∷ es) there = more_hold m e es (filter_map plain es) (plain e) (plain_holds m e) there.0 (all_plain_hold m es there.1)

-- the FILTERs of an OPTIONAL group are the conditions of its node
pub optional_tests : (g : Group) → AllByRecursion (λ e. IsSome (plain e)) (tests g) → (m : Mapping) → AllHoldExpr (filters g) m ↔ AllHoldExpr (map cond_expr (plain_tests g)) m
optional_tests g there m = (
  (λ h. (all_plain_hold m (tests g) there).0 ((all_conjuncts_hold m (filters g)).0 h)),
  (λ h. (all_conjuncts_hold m (filters g)).1 ((all_plain_hold m (tests g) there).1 h)),
)

-- a list of which some are conditions and the others are not
Parted : Mapping → List Expr → List Cond → List Expr → Type 0
Parted m es cs ds = AllHoldExpr es m ↔ (AllHoldExpr (map cond_expr cs) m × AllHoldExpr ds m)

more_parted : (m : Mapping) (e : Expr) (es : List Expr) (cs : List Cond) (ds : List Expr) (o : Option Cond) → ((c : Cond) → o ≡ Some c → HoldsExpr m e ↔ Holds m c)
    → Parted m es cs ds → Parted m (e ∷ es) (cons_option o cs) (cond (not (is_some o)) (e ∷ ds) ds)
unfolding Parted
more_parted m e es cs ds None one rest = ((λ all. let w = rest.0 all.1 in (w.0, (all.0, w.1))), (λ all. (all.1.0, rest.1 (all.0, all.1.1))))
more_parted m e es cs ds (Some c) one rest =
    ((λ all. let w = rest.0 all.1 in (((one c refl).0 all.0, w.0), w.1)), (λ all. ((one c refl).1 all.0.0, rest.1 (all.0.1, all.1))))

all_parted : (m : Mapping) (r : Expr → Option Cond) → ((e : Expr) (c : Cond) → r e ≡ Some c → HoldsExpr m e ↔ Holds m c) → (es : List Expr)
    → Parted m es (filter_map r es) (filter (λ e. not (is_some (r e))) es)
unfolding Parted
all_parted m r one [] = ((λ h. (tt, tt)), (λ h. tt))
all_parted m r one (e ∷ es) = more_parted m e es (filter_map r es) (filter (λ e. not (is_some (r e))) es) (r e) (one e) (all_parted m r one es)

-- a condition within these variables is the one that it was
within_same : (own : List Name) (o : Option Cond) (c : Cond) → within own o ≡ Some c → o ≡ Some c
within_same own None c h = cc
within_same own (Some b) c h = at (list_all (is_in own) (cond_vars b)) h
  where
    at : (t : Bool) → cond t (Some b) None ≡ Some c → ◌≡◌ {A = Option Cond} (Some b) (Some c)
    at true h = h
    at false h = cc

root_holds : (m : Mapping) (own : List Name) (e : Expr) (c : Cond) → root_test own e ≡ Some c → HoldsExpr m e ↔ Holds m c
root_holds m own e c h = plain_holds m e c (within_same own (plain e) c h)

-- the FILTERs of the outermost group are the conditions of the root and the outer expressions
pub whole_tests : (g : Group) (m : Mapping) → AllHoldExpr (filters g) m ↔ AllHoldExpr (map cond_expr (root_tests g) ++ outer_tests g) m
unfolding Parted
whole_tests g m =
    let parts = all_parted m (root_test (all_vars (triples g))) (root_holds m (all_vars (triples g))) (tests g) in (
      (λ h. let w = parts.0 ((all_conjuncts_hold m (filters g)).0 h) in all_join (HoldsExpr m) (map cond_expr (root_tests g)) (outer_tests g) w.0 w.1),
      (λ h. (all_conjuncts_hold m (filters g)).1 (parts.1 (all_parts (HoldsExpr m) (map cond_expr (root_tests g)) (outer_tests g) h))),
    )

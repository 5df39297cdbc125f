-- What one mapping tells, another tells too: conditions, nodes and merges.
use Rattle.std.proofs.Common.{◌≡◌, refl, Bool, true, List, [], ◌∷◌, map, Option, Some, None, ◌⊎◌, inl, inr, ⊎_elim, sym, ◌∙◌, ap, subst, IsSome}
use Rattle.std.specs.List.{AllByRecursion}
use Rattle.std.specs.Option.{is_some}
use Rattle.bye_terms.specs.declared.term.Term.{Term}
use Rattle.bye_terms.specs.Members.{In}
use Rattle.bye_terms.specs.Terms.{Statement}
use Rattle.bye_terms.proofs.Lists.{all_map, map_all}
use Rattle.bye_terms.proofs.Members.{in_cases}
use Rattle.bye_pattern.specs.declared.kind.Kind.{Kind}
use Rattle.bye_pattern.specs.declared.cond.Cond.{Cond}
use Rattle.bye_pattern.specs.Conditions.{AllHold, AllHoldExpr, Holds, HoldsExpr, cond_expr, cond_vars, kind_value, same_value}
use Rattle.bye_pattern.specs.Conjuncts.{MeetsCond}
use Rattle.bye_table.specs.Mappings.{Binds, Mapping, Name, first_of, merge}
use Rattle.bye_pattern.specs.Patterns.{Meets, Pattern, all_vars, vars}
use Rattle.bye_table.proofs.Merging.{binds, bound, merge_left, some_or_none}
use Rattle.bye_pattern.proofs.Solutions.{meets_binds}
use Rattle.bye_pattern.specs.declared.cond.Cond.TheVariants as conds

-- a bound condition
bound_told : (o p : Option Term) → ((t : Term) → o ≡ Some t → p ≡ Some t) → ◌≡◌ {A = Option Bool} (Some (is_some o)) (Some true) → ◌≡◌ {A = Option Bool} (Some (is_some p)) (Some true)
bound_told None p tells e = cc
bound_told (Some t) p tells e = ap (λ o. Some (is_some o)) (tells t refl)

-- a sameTerm
same_told : (o p q r : Option Term) → ((t : Term) → o ≡ Some t → q ≡ Some t) → ((t : Term) → p ≡ Some t → r ≡ Some t) → same_value o p ≡ Some true → same_value q r ≡ Some true
same_told None p q r x y e = cc
same_told (Some s) None q r x y e = cc
same_told (Some s) (Some t) q r x y e = (λ i. same_value (x s refl i) (y t refl i)) ∙ e

-- a kind test
kind_told : (kind : Kind) (o p : Option Term) → ((t : Term) → o ≡ Some t → p ≡ Some t) → kind_value kind o ≡ Some true → kind_value kind p ≡ Some true
kind_told kind None p tells e = cc
kind_told kind (Some t) p tells e = ap (kind_value kind) (tells t refl) ∙ e

-- a condition that is true
pub holds_told : (m n : Mapping) (c : Cond) → ((v : Name) (t : Term) → In (cond_vars c) v → m v ≡ Some t → n v ≡ Some t) → Holds m c → Holds n c
holds_told m n (conds.Bound v) tells h = bound_told (m v) (n v) (λ t e. tells v t (inl refl) e) h
holds_told m n (conds.SameVar v w) tells h = same_told (m v) (m w) (n v) (n w) (λ t e. tells v t (inl refl) e) (λ t e. tells w t (inr (inl refl)) e) h
holds_told m n (conds.SameConst v c) tells h = same_told (m v) (Some c) (n v) (Some c) (λ t e. tells v t (inl refl) e) (λ t e. e) h
holds_told m n (conds.KindOf kind v) tells h = kind_told kind (m v) (n v) (λ t e. tells v t (inl refl) e) h

-- a condition that is met
pub met_told : (m n : Mapping) (c : Cond) → ((v : Name) (t : Term) → In (cond_vars c) v → m v ≡ Some t → n v ≡ Some t) → MeetsCond m c → MeetsCond n c
met_told m n c tells (there, h) = ((λ v i. let w = bound (m v) (there v i) in binds (n v) w.0 (tells v w.0 i w.1)), holds_told m n c tells h)

-- conditions whose variables are those of a node and of its parent
pub all_met_told : (m n : Mapping) (own parent : List Name) (cs : List Cond) → AllByRecursion (λ c. (v : Name) → In (cond_vars c) v → In own v ⊎ In parent v) cs
    → ((v : Name) (t : Term) → In own v → m v ≡ Some t → n v ≡ Some t) → ((v : Name) (t : Term) → In parent v → m v ≡ Some t → n v ≡ Some t)
    → AllByRecursion (MeetsCond m) cs → AllByRecursion (MeetsCond n) cs
all_met_told m n own parent [] safe x y all = tt
all_met_told m n own parent (c ∷ cs) (s, safe) x y (h, all) =
    (met_told m n c (λ v t i e. ⊎_elim (λ k. x v t k e) (λ k. y v t k e) (s v i)) h, all_met_told m n own parent cs safe x y all)

-- conditions, where all is told
pub all_met_any : (m n : Mapping) (cs : List Cond) → ((v : Name) (u : Term) → m v ≡ Some u → n v ≡ Some u) → AllByRecursion (MeetsCond m) cs → AllByRecursion (MeetsCond n) cs
all_met_any m n [] tells all = tt
all_met_any m n (c ∷ cs) tells (h, all) = (met_told m n c (λ v u i e. tells v u e) h, all_met_any m n cs tells all)

-- a condition that is true binds its variables
bound_true : (o : Option Term) → ◌≡◌ {A = Option Bool} (Some (is_some o)) (Some true) → IsSome o
bound_true None e = cc
bound_true (Some t) e = refl

-- a sameTerm that is true has both values
same_true : (o p : Option Term) → same_value o p ≡ Some true → IsSome o × IsSome p
same_true None p e = cc
same_true (Some s) None e = cc
same_true (Some s) (Some t) e = (refl, refl)

-- a kind test that is true has a value
kind_true : (kind : Kind) (o : Option Term) → kind_value kind o ≡ Some true → IsSome o
kind_true kind None e = cc
kind_true kind (Some t) e = refl

-- a condition that is true is met
pub holds_meets : (m : Mapping) (c : Cond) → Holds m c → MeetsCond m c
holds_meets m (conds.Bound v) h = ((λ w i. ⊎_elim (λ e. subst (Binds m) e (bound_true (m v) h)) (λ k. absurd k) i), h)
holds_meets m (conds.SameVar v w) h =
    let both = same_true (m v) (m w) h in
    ((λ u i. ⊎_elim (λ e. subst (Binds m) e both.0) (λ i. ⊎_elim (λ e. subst (Binds m) e both.1) (λ k. absurd k) i) i), h)
holds_meets m (conds.SameConst v c) h = ((λ w i. ⊎_elim (λ e. subst (Binds m) e (same_true (m v) (Some c) h).0) (λ k. absurd k) i), h)
holds_meets m (conds.KindOf kind v) h = ((λ w i. ⊎_elim (λ e. subst (Binds m) e (kind_true kind (m v) h)) (λ k. absurd k) i), h)

-- conditions that are true are met
pub all_meet : (m : Mapping) (cs : List Cond) → AllHold cs m → AllByRecursion (MeetsCond m) cs
all_meet m [] all = tt
all_meet m (c ∷ cs) (h, all) = (holds_meets m c h, all_meet m cs all)

-- and the other way round
pub all_hold : (m : Mapping) (cs : List Cond) → AllByRecursion (MeetsCond m) cs → AllHold cs m
all_hold m [] all = tt
all_hold m (c ∷ cs) (h, all) = (h.1, all_hold m cs all)

-- the same of the expressions that they are
pub all_meet_expr : (m : Mapping) (cs : List Cond) → AllHoldExpr (map cond_expr cs) m → AllByRecursion (MeetsCond m) cs
all_meet_expr m cs all = all_meet m cs (map_all (HoldsExpr m) cond_expr cs all)

pub all_hold_expr : (m : Mapping) (cs : List Cond) → AllByRecursion (MeetsCond m) cs → AllHoldExpr (map cond_expr cs) m
all_hold_expr m cs all = all_map (HoldsExpr m) cond_expr cs (all_hold m cs all)

-- a mapping that meets triple patterns binds their variables
pub all_meets_bind : (g : List Statement) (m : Mapping) (ps : List Pattern) (v : Name) → AllByRecursion (Meets g m) ps → In (all_vars ps) v → Binds m v
all_meets_bind g m [] v all h = absurd h
all_meets_bind g m (p ∷ ps) v (met, all) h = ⊎_elim (λ h. meets_binds g m p v met h) (λ h. all_meets_bind g m ps v all h) (in_cases (vars p) _ v h)

-- what a merge tells comes from one side
pub merge_tells : (a b : Mapping) (v : Name) (u : Term) → merge a b v ≡ Some u → (a v ≡ Some u) ⊎ (b v ≡ Some u)
merge_tells a b v u e =
    ⊎_elim (λ h. let w = bound (a v) h in inl (w.1 ∙ sym (merge_left a b v w.0 w.1) ∙ e)) (λ n. inr (sym (ap (λ o. first_of o (b v)) n) ∙ e)) (some_or_none (a v))

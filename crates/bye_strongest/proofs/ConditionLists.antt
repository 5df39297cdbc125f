-- The list of conditions has exactly those that all rows meet, in the order of trial.
use Rattle.std.proofs.Common.{◌≡◌, refl, Bool, true, false, cond, List, [], ◌∷◌, ◌++◌, map, Option, Some, None, inl, inr, ⊎_elim, sym, ◌∙◌, ap, subst}
use Rattle.std.specs.List.{AllByRecursion, filter, flat_map}
use Rattle.bye_terms.specs.declared.term.Term.{Term}
use Rattle.bye_terms.specs.Members.{EachOnce, In}
use Rattle.bye_terms.specs.Terms.{is_blank}
use Rattle.bye_terms.proofs.Lists.{each_of, filtered, in_filtered, in_map, map_in, of_each}
use Rattle.bye_terms.proofs.Members.{all_from, all_in, flat_in, in_cases, in_flat, in_left, in_right}
use Rattle.bye_table.specs.Domains.{IsBefore}
use Rattle.bye_table.specs.Mappings.{Name, Pairs, row_mapping}
use Rattle.bye_pattern.specs.declared.cond.Cond.{Cond}
use Rattle.bye_pattern.specs.declared.cond.Cond.TheVariants as conds
use Rattle.bye_pattern.specs.declared.kind.Kind.{Kind}
use Rattle.bye_pattern.specs.declared.kind.Kind.TheVariants as tests
use Rattle.bye_pattern.specs.declared.level.Level.{Level}
use Rattle.bye_pattern.specs.declared.level.Level.TheVariants.{One, Two}
use Rattle.bye_pattern.specs.Classes.{IsClassCond}
use Rattle.bye_pattern.specs.Common.{IsCommonCond}
use Rattle.bye_pattern.specs.Conditions.{cond_expr, cond_vars, value}
use Rattle.bye_pattern.specs.Conjuncts.{MeetsCond}
use Rattle.bye_pattern.specs.Starting.{AreInTrialOrder, IsInForm, IsTriedBefore}
use Rattle.bye_laws.proofs.AllConjuncts.{same_of}
use Rattle.bye_laws.proofs.Telling.{holds_meets}
use Rattle.bye_strongest.specs.Conds.{common, constant_of, forms, holds, holds_in_all, is_true, kinds, kinds_of, same_const, same_vars}

-- what is true of a row, both ways
true_some : (o : Option Bool) → is_true o ≡ true → o ≡ Some true
true_some None e = cc
true_some (Some b) e = ap Some e

met : (row : Pairs) (c : Cond) → holds c row ≡ true → MeetsCond (row_mapping row) c
met row c h = holds_meets (row_mapping row) c (true_some (value (row_mapping row) (cond_expr c)) h)

meets : (row : Pairs) (c : Cond) → MeetsCond (row_mapping row) c → holds c row ≡ true
meets row c h = ap is_true h.1

-- and of all
all_met : (rows : List Pairs) (c : Cond) → holds_in_all rows c ≡ true → AllByRecursion (λ m. MeetsCond m c) (map row_mapping rows)
all_met rows c h =
    all_from (λ m. MeetsCond m c) (map row_mapping rows)
    (λ m k. let w = in_map row_mapping rows m k in subst (λ m. MeetsCond m c) w.2 (met w.0 c (each_of (holds c) rows h w.0 w.1)))

all_meet : (rows : List Pairs) (c : Cond) → AllByRecursion (λ m. MeetsCond m c) (map row_mapping rows) → holds_in_all rows c ≡ true
all_meet rows c h = of_each (holds c) rows (λ row k. meets row c (all_in (λ m. MeetsCond m c) (map row_mapping rows) (row_mapping row) h (map_in row_mapping rows row k)))

-- of two different variables one stands before the other
before_in : (xs : List Name) (v w : Name) → IsBefore xs v w → In xs v × In xs w
before_in [] v w h = absurd h
before_in (x ∷ xs) v w (inl (e, h)) = (inl e, inr h)
before_in (x ∷ xs) v w (inr h) = let k = before_in xs v w h in (inr k.0, inr k.1)

not_self : (xs : List Name) (v w : Name) → EachOnce xs → IsBefore xs v w → v ≡ w → ⊥
not_self [] v w once h e = absurd h
not_self (x ∷ xs) v w once (inl (same, h)) e = once.0 (subst (λ u. In xs u) (sym e ∙ sym same) h)
not_self (x ∷ xs) v w once (inr h) e = not_self xs v w once.1 h e

-- the conditions of one form
abbrev IsBound : List Name → Cond → Type 0
IsBound vs c = (v : Name) × In vs v × (conds.Bound v ≡ c)

abbrev IsSame : List Name → Cond → Type 0
IsSame vs c = (v : Name) × (w : Name) × IsBefore vs v w × (conds.SameVar v w ≡ c)

abbrev IsConstant : List Name → Cond → Type 0
IsConstant vs c = (v : Name) × (t : Term) × In vs v × (is_blank t ≡ false) × (conds.SameConst v t ≡ c)

abbrev IsKind : List Name → Cond → Type 0
IsKind vs c = (v : Name) × (kind : Kind) × In vs v × (conds.KindOf kind v ≡ c)

in_same : (vs : List Name) (c : Cond) → In (same_vars vs) c → IsSame vs c
in_same [] c h = absurd h
in_same (v ∷ vs) c h =
    ⊎_elim
    (λ k. let w = in_map (conds.SameVar v) vs c k in (v, w.0, inl (refl, w.1), w.2))
    (λ k. let s = in_same vs c k in (s.0, s.1, inr s.2, s.3))
    (in_cases (map (conds.SameVar v) vs) (same_vars vs) c h)

same_in : (vs : List Name) (v w : Name) → IsBefore vs v w → In (same_vars vs) (conds.SameVar v w)
same_in [] v w h = absurd h
same_in (x ∷ vs) v w (inl (e, h)) = in_left _ (same_vars vs) _ (subst (λ x. In (map (conds.SameVar x) vs) (conds.SameVar v w)) (sym e) (map_in (conds.SameVar v) vs w h))
same_in (x ∷ vs) v w (inr h) = in_right (map (conds.SameVar x) vs) _ _ (same_in vs v w h)

unless : (b : Bool) (y x : Cond) → In (cond b [] (y ∷ [])) x → (b ≡ false) × (y ≡ x)
unless true y x h = absurd h
unless false y x (inl e) = (refl, e)
unless false y x (inr h) = absurd h

in_constant : (v : Name) (o : Option Term) (c : Cond) → In (constant_of v o) c → (t : Term) × (is_blank t ≡ false) × (conds.SameConst v t ≡ c)
in_constant v None c h = absurd h
in_constant v (Some t) c h = let k = unless (is_blank t) (conds.SameConst v t) c h in (t, k.0, k.1)

in_constants : (row : Pairs) (vs : List Name) (c : Cond) → In (flat_map (same_const row) vs) c → IsConstant vs c
in_constants row vs c h =
    let w = in_flat (same_const row) vs c h in
    let k = in_constant w.0 (row_mapping row w.0) c w.2 in
    (w.0, k.0, w.1, k.1, k.2)

constants_in : (row : Pairs) (vs : List Name) (v : Name) (t : Term) → In vs v → row_mapping row v ≡ Some t → is_blank t ≡ false → In (flat_map (same_const row) vs) (conds.SameConst v t)
constants_in row vs v t h e named =
    flat_in (same_const row) vs v (conds.SameConst v t) h
    (subst (λ o. In (constant_of v o) (conds.SameConst v t)) (sym e) (subst (λ b. In (cond b [] (conds.SameConst v t ∷ [])) (conds.SameConst v t)) (sym named) (inl refl)))

in_kinds_of : (v : Name) (c : Cond) → In (kinds_of v) c → (kind : Kind) × (conds.KindOf kind v ≡ c)
in_kinds_of v c (inl e) = (tests.Iri, e)
in_kinds_of v c (inr (inl e)) = (tests.Blank, e)
in_kinds_of v c (inr (inr (inl e))) = (tests.Literal, e)
in_kinds_of v c (inr (inr (inr h))) = absurd h

kinds_of_in : (v : Name) (kind : Kind) → In (kinds_of v) (conds.KindOf kind v)
kinds_of_in v tests.Iri = inl refl
kinds_of_in v tests.Blank = inr (inl refl)
kinds_of_in v tests.Literal = inr (inr (inl refl))

in_kinds : (level : Level) (vs : List Name) (c : Cond) → In (kinds level vs) c → IsKind vs c × (level ≡ Two)
in_kinds One vs c h = absurd h
in_kinds Two vs c h =
    let w = in_flat kinds_of vs c h in
    let k = in_kinds_of w.0 c w.2 in
    ((w.0, k.0, w.1, k.1), refl)

kinds_in : (level : Level) (vs : List Name) (v : Name) (kind : Kind) → In vs v → IsClassCond level (conds.KindOf kind v) → In (kinds level vs) (conds.KindOf kind v)
kinds_in One vs v kind h class = absurd class
kinds_in Two vs v kind h class = flat_in kinds_of vs v (conds.KindOf kind v) h (kinds_of_in v kind)

-- one of the four parts
four : {P : Type 0} (level : Level) (vs : List Name) (row : Pairs) (c : Cond) → In (forms level vs row) c
    → (IsBound vs c → P) → (IsSame vs c → P) → (IsConstant vs c → P) → (IsKind vs c × (level ≡ Two) → P) → P
four level vs row c h a b d e =
    ⊎_elim
    (λ h. ⊎_elim
    (λ h. ⊎_elim (λ h. a (in_map conds.Bound vs c h)) (λ h. b (in_same vs c h)) (in_cases (map conds.Bound vs) (same_vars vs) c h))
    (λ h. d (in_constants row vs c h))
    (in_cases (map conds.Bound vs ++ same_vars vs) (flat_map (same_const row) vs) c h))
    (λ h. e (in_kinds level vs c h))
    (in_cases (map conds.Bound vs ++ same_vars vs ++ flat_map (same_const row) vs) (kinds level vs) c h)

-- a condition of a form is of the class, over the variables and in form
record IsFormed (level : Level) (vs : List Name) (c : Cond) : Type 0 where
  in_class : IsClassCond level c
  over : (v : Name) → In (cond_vars c) v → In vs v
  in_form : IsInForm vs c

formed : (level : Level) (vs : List Name) (row : Pairs) (c : Cond) → EachOnce vs → In (forms level vs row) c → IsFormed level vs c
formed level vs row c once h =
    four level vs row c h
    (λ (v, inside, is). subst (IsFormed level vs) is (record { in_class = tt; over = λ u k. ⊎_elim (λ e. subst (λ u. In vs u) e inside) (λ n. absurd n) k; in_form = tt }))
    (λ (v, w, before, is).
    let both = before_in vs v w before in
    subst (IsFormed level vs) is (record {
      in_class = not_self vs v w once before;
      over = λ u k. ⊎_elim (λ e. subst (λ u. In vs u) e both.0) (λ k. ⊎_elim (λ e. subst (λ u. In vs u) e both.1) (λ n. absurd n) k) k;
      in_form = before;
    }))
    (λ (v, t, inside, named, is). subst (IsFormed level vs) is (record { in_class = named; over = λ u k. ⊎_elim (λ e. subst (λ u. In vs u) e inside) (λ n. absurd n) k; in_form = tt }))
    (λ ((v, kind, inside, is), two). subst (IsFormed level vs) is (subst (λ level. IsFormed level vs (conds.KindOf kind v)) (sym two)
    (record { in_class = tt; over = λ u k. ⊎_elim (λ e. subst (λ u. In vs u) e inside) (λ n. absurd n) k; in_form = tt })))

-- and each such condition that the row meets is one
forms_in : (level : Level) (vs : List Name) (row : Pairs) (c : Cond) → IsClassCond level c → ((v : Name) → In (cond_vars c) v → In vs v) → IsInForm vs c → MeetsCond (row_mapping row) c
    → In (forms level vs row) c
forms_in level vs row (conds.Bound v) class over form holds = in_left _ (kinds level vs) _ (in_left _ (flat_map (same_const row) vs) _ (in_left _ (same_vars vs) _ (map_in conds.Bound vs v (over v (inl refl)))))
forms_in level vs row (conds.SameVar v w) class over form holds = in_left _ (kinds level vs) _ (in_left _ (flat_map (same_const row) vs) _ (in_right (map conds.Bound vs) _ _ (same_in vs v w form)))
forms_in level vs row (conds.SameConst v t) class over form holds =
    in_left _ (kinds level vs) _ (in_right (map conds.Bound vs ++ same_vars vs) _ _ (constants_in row vs v t (over v (inl refl)) (same_of (row_mapping row v) t holds.1) class))
forms_in level vs row (conds.KindOf kind v) class over form holds =
    in_right (map conds.Bound vs ++ same_vars vs ++ flat_map (same_const row) vs) _ _ (kinds_in level vs v kind (over v (inl refl)) class)

pub common_sound : (level : Level) (vs : List Name) (rows : List Pairs) (row : Pairs) (c : Cond) → EachOnce vs → In (common level vs rows row) c
    → IsCommonCond level vs (map row_mapping rows) c × IsInForm vs c
common_sound level vs rows row c once h =
    let w = filtered (holds_in_all rows) (forms level vs row) c h in
    let is = formed level vs row c once w.0 in
    (record { in_class = is.in_class; over = is.over; holds = all_met rows c w.1 }, is.in_form)

pub common_complete : (level : Level) (vs : List Name) (rows : List Pairs) (row : Pairs) (c : Cond) → In rows row → IsCommonCond level vs (map row_mapping rows) c → IsInForm vs c
    → In (common level vs rows row) c
common_complete level vs rows row c there is form =
    in_filtered (holds_in_all rows) (forms level vs row) c
    (forms_in level vs row c is.in_class is.over form (all_in (λ m. MeetsCond m c) (map row_mapping rows) (row_mapping row) is.holds (map_in row_mapping rows row there)))
    (all_meet rows c is.holds)

-- the order
order_both : (header : List Name) (cs ds : List Cond) → AreInTrialOrder header cs → AreInTrialOrder header ds → ((c d : Cond) → In cs c → In ds d → IsTriedBefore header c d) → AreInTrialOrder header (cs ++ ds)
order_both header [] ds a b cross = b
order_both header (c ∷ cs) ds a b cross = (
  all_from (IsTriedBefore header c) (cs ++ ds) (λ d h. ⊎_elim (λ k. all_in (IsTriedBefore header c) cs d a.0 k) (λ k. cross c d (inl refl) k) (in_cases cs ds d h)),
  order_both header cs ds a.1 b (λ e d h k. cross e d (inr h) k),
)

order_kept : (header : List Name) (f : Cond → Bool) (cs : List Cond) → AreInTrialOrder header cs → AreInTrialOrder header (filter f cs)
order_kept header f [] h = tt
order_kept header f (c ∷ cs) h = kept (f c) (order_kept header f cs h.1)
  where
    kept : (b : Bool) → AreInTrialOrder header (filter f cs) → AreInTrialOrder header (cond b (c ∷ filter f cs) (filter f cs))
    kept true rest = (all_from (IsTriedBefore header c) (filter f cs) (λ d k. all_in (IsTriedBefore header c) cs d h.0 (filtered f cs d k).0), rest)
    kept false rest = rest

-- these stand in the header's order
abbrev AreLater : List Name → List Name → Type 0
AreLater header vs = (v w : Name) → IsBefore vs v w → IsBefore header v w

bounds_sorted : (header vs : List Name) → AreLater header vs → AreInTrialOrder header (map conds.Bound vs)
bounds_sorted header [] f = tt
bounds_sorted header (v ∷ vs) f = (
  all_from (IsTriedBefore header (conds.Bound v)) (map conds.Bound vs) (λ c h. let w = in_map conds.Bound vs c h in subst (IsTriedBefore header (conds.Bound v)) w.2 (f v w.0 (inl (refl, w.1)))),
  bounds_sorted header vs (λ x w b. f x w (inr b)),
)

with_sorted : (header : List Name) (v : Name) (ws : List Name) → AreLater header ws → AreInTrialOrder header (map (conds.SameVar v) ws)
with_sorted header v [] f = tt
with_sorted header v (w ∷ ws) f = (
  all_from (IsTriedBefore header (conds.SameVar v w)) (map (conds.SameVar v) ws)
      (λ c h. let u = in_map (conds.SameVar v) ws c h in subst (IsTriedBefore header (conds.SameVar v w)) u.2 (inr (refl, f w u.0 (inl (refl, u.1))))),
  with_sorted header v ws (λ x w b. f x w (inr b)),
)

same_sorted : (header vs : List Name) → AreLater header vs → AreInTrialOrder header (same_vars vs)
same_sorted header [] f = tt
same_sorted header (v ∷ vs) f =
    order_both header (map (conds.SameVar v) vs) (same_vars vs) (with_sorted header v vs (λ a b h. f a b (inr h))) (same_sorted header vs (λ a b h. f a b (inr h)))
    (λ c d h k.
    let one = in_map (conds.SameVar v) vs c h in
    let other = in_same vs d k in
    subst (λ c. IsTriedBefore header c d) one.2 (subst (IsTriedBefore header (conds.SameVar v one.0)) other.3 (inl (f v other.0 (inl (refl, (before_in vs other.0 other.1 other.2).0))))))

constant_sorted : (header : List Name) (v : Name) (o : Option Term) → AreInTrialOrder header (constant_of v o)
constant_sorted header v None = tt
constant_sorted header v (Some t) = one (is_blank t)
  where
    one : (b : Bool) → AreInTrialOrder header (cond b [] (conds.SameConst v t ∷ []))
    one true = tt
    one false = (tt, tt)

constants_sorted : (header : List Name) (row : Pairs) (vs : List Name) → AreLater header vs → AreInTrialOrder header (flat_map (same_const row) vs)
constants_sorted header row [] f = tt
constants_sorted header row (v ∷ vs) f =
    order_both header (same_const row v) (flat_map (same_const row) vs) (constant_sorted header v (row_mapping row v)) (constants_sorted header row vs (λ a b h. f a b (inr h)))
    (λ c d h k.
    let one = in_constant v (row_mapping row v) c h in
    let other = in_constants row vs d k in
    subst (λ c. IsTriedBefore header c d) one.2 (subst (IsTriedBefore header (conds.SameConst v one.0)) other.4 (f v other.0 (inl (refl, other.2)))))

kind_tests_sorted : (header vs : List Name) → AreLater header vs → AreInTrialOrder header (flat_map kinds_of vs)
kind_tests_sorted header [] f = tt
kind_tests_sorted header (v ∷ vs) f =
    order_both header (kinds_of v) (flat_map kinds_of vs)
    ((inr (refl, tt), (inr (refl, tt), tt)), ((inr (refl, tt), tt), (tt, tt)))
    (kind_tests_sorted header vs (λ a b h. f a b (inr h)))
    (λ c d h k.
    let one = in_kinds_of v c h in
    let there = in_flat kinds_of vs d k in
    let other = in_kinds_of there.0 d there.2 in
    subst (λ c. IsTriedBefore header c d) one.1 (subst (IsTriedBefore header (conds.KindOf one.0 v)) other.1 (inl (f v there.0 (inl (refl, there.1))))))

kinds_sorted : (level : Level) (header vs : List Name) → AreLater header vs → AreInTrialOrder header (kinds level vs)
kinds_sorted One header vs f = tt
kinds_sorted Two header vs f = kind_tests_sorted header vs f

forms_sorted : (level : Level) (vs : List Name) (row : Pairs) → AreInTrialOrder vs (forms level vs row)
forms_sorted level vs row =
    let later : AreLater vs vs = λ v w h. h in
    order_both vs (map conds.Bound vs ++ same_vars vs ++ flat_map (same_const row) vs) (kinds level vs)
    (order_both vs (map conds.Bound vs ++ same_vars vs) (flat_map (same_const row) vs)
    (order_both vs (map conds.Bound vs) (same_vars vs) (bounds_sorted vs vs later) (same_sorted vs vs later)
    (λ c d h k.
    let b = in_map conds.Bound vs c h in
    let s = in_same vs d k in
    subst (λ c. IsTriedBefore vs c d) b.2 (subst (IsTriedBefore vs (conds.Bound b.0)) s.3 tt)))
    (constants_sorted vs row vs later)
    (λ c d h k.
    let t = in_constants row vs d k in
    ⊎_elim
    (λ h. let b = in_map conds.Bound vs c h in subst (λ c. IsTriedBefore vs c d) b.2 (subst (IsTriedBefore vs (conds.Bound b.0)) t.4 tt))
    (λ h. let s = in_same vs c h in subst (λ c. IsTriedBefore vs c d) s.3 (subst (IsTriedBefore vs (conds.SameVar s.0 s.1)) t.4 tt))
    (in_cases (map conds.Bound vs) (same_vars vs) c h)))
    (kinds_sorted level vs vs later)
    (λ c d h k.
    let ((u, kind, inside, is), two) = in_kinds level vs d k in
    ⊎_elim
    (λ h. ⊎_elim
    (λ h. let b = in_map conds.Bound vs c h in subst (λ c. IsTriedBefore vs c d) b.2 (subst (IsTriedBefore vs (conds.Bound b.0)) is tt))
    (λ h. let s = in_same vs c h in subst (λ c. IsTriedBefore vs c d) s.3 (subst (IsTriedBefore vs (conds.SameVar s.0 s.1)) is tt))
    (in_cases (map conds.Bound vs) (same_vars vs) c h))
    (λ h. let t = in_constants row vs c h in subst (λ c. IsTriedBefore vs c d) t.4 (subst (IsTriedBefore vs (conds.SameConst t.0 t.1)) is tt))
    (in_cases (map conds.Bound vs ++ same_vars vs) (flat_map (same_const row) vs) c h))

pub common_sorted : (level : Level) (vs : List Name) (rows : List Pairs) (row : Pairs) → AreInTrialOrder vs (common level vs rows row)
common_sorted level vs rows row = order_kept vs (holds_in_all rows) (forms level vs row) (forms_sorted level vs row)

-- Sorted patterns without repeats stand in strict order.
use Rattle.std.proofs.Common.{◌≡◌, refl, Bool, true, false, cond, List, [], ◌∷◌, ◌++◌, inl, inr, ⊎_elim, ◌↔◌, sym, ◌∙◌, ap, subst, Ordering, Less, Equal, Greater}
use Rattle.std.specs.List.{AllByRecursion}
use Rattle.std.specs.List.Sorted.{IsPermutation}
use Rattle.std.specs.Ordering.{is_eq, is_lt, ordering_reverse}
use Rattle.bye_terms.specs.Members.{In}
use Rattle.bye_terms.proofs.Members.{all_from, all_in, in_cases, in_left, in_right}
use Rattle.bye_terms.proofs.Tests.{bool_cases, not_both}
use Rattle.bye_pattern.specs.Patterns.{Pattern}
use Rattle.bye_pattern.specs.TrialOrder.{IsInStrictOrder, IsInTrialOrder, trial_cmp}
use Rattle.bye_pattern.proofs.Orders.{trial_total, trial_weak}
use Rattle.bye_laws.specs.Ordering.{IsValidPattern}
use Rattle.bye_laws.proofs.PatternLines.{tried_first}
use Rattle.bye_strongest.specs.Ranking.{each_once, is_repeated, last}
use Rattle.bye_strongest.proofs.Restricting.{moved_both}

alike : (p : Pattern) → is_eq (trial_cmp p p) ≡ true
alike p = equal (trial_cmp p p) (trial_total.antisymm p p)
  where
    equal : (o : Ordering) → o ≡ ordering_reverse o → is_eq o ≡ true
    equal Less e = let f = ap is_lt e in cc
    equal Equal e = refl
    equal Greater e = let f = ap is_lt e in cc

itself : (p : Pattern) → is_lt (trial_cmp p p) ≡ false
itself p = ⊎_elim (λ t. trial_weak.one_way p p t) (λ f. f) (bool_cases (is_lt (trial_cmp p p)))

last_in : (p : Pattern) (b : Bool) (q : Pattern) → In (cond b [] (p ∷ [])) q → p ≡ q
last_in p true q h = absurd h
last_in p false q (inl e) = e
last_in p false q (inr h) = absurd h

once_in : (ps : List Pattern) (q : Pattern) → In (each_once ps) q → In ps q
once_in [] q h = absurd h
once_in (p ∷ ps) q h = ⊎_elim (λ k. inl (last_in p (is_repeated p ps) q k)) (λ k. inr (once_in ps q k)) (in_cases (last p ps) (each_once ps) q h)

-- patterns of which neither is tried before the other are one
tied : (p q : Pattern) → IsValidPattern p → IsValidPattern q → is_eq (trial_cmp p q) ≡ true → is_lt (trial_cmp q p) ≡ false → p ≡ q
tied p q a b e sorted =
    ⊎_elim (λ same. same)
    (λ k. ⊎_elim (λ f. absurd (never (trial_cmp p q) e f.0)) (λ f. absurd (not_both _ f.0 sorted)) k)
    (tried_first p q a b)
  where
    never : (o : Ordering) → is_eq o ≡ true → is_lt o ≡ true → ⊥
    never Less e f = cc
    never Equal e f = cc
    never Greater e f = cc

in_once : (ps : List Pattern) → IsInTrialOrder ps → AllByRecursion IsValidPattern ps → (q : Pattern) → In ps q → In (each_once ps) q
in_once [] sorted valid q h = absurd h
in_once (p ∷ ps) sorted valid q (inr h) = in_right (last p ps) (each_once ps) q (in_once ps sorted.1 valid.1 q h)
in_once (p ∷ ps) sorted valid q (inl e) = subst (In (each_once (p ∷ ps))) e (here ps sorted.0 valid.1 (λ r h. in_once ps sorted.1 valid.1 r h))
  where
    here : (ps : List Pattern) → AllByRecursion (λ q. is_lt (trial_cmp q p) ≡ false) ps → AllByRecursion IsValidPattern ps → ((r : Pattern) → In ps r → In (each_once ps) r) → In (each_once (p ∷ ps)) p
    here [] all others later = inl refl
    here (r ∷ rs) all others later =
        ⊎_elim
        (λ t. in_right (last p (r ∷ rs)) (each_once (r ∷ rs)) p (subst (In (each_once (r ∷ rs))) (sym (tied p r valid.0 others.0 t all.0)) (later r (inl refl))))
        (λ f. in_left (last p (r ∷ rs)) (each_once (r ∷ rs)) p (subst (λ b. In (cond b [] (p ∷ [])) p) (sym f) (inl refl)))
        (bool_cases (is_eq (trial_cmp p r)))

-- the first of sorted patterns is tried before all later ones, where it is not the same as the next
first_of_all : (p : Pattern) (ps : List Pattern) → IsValidPattern p → IsInTrialOrder (p ∷ ps) → AllByRecursion IsValidPattern ps → is_repeated p ps ≡ false → (q : Pattern) → In ps q → is_lt (trial_cmp p q) ≡ true
first_of_all p [] a sorted valid new q h = absurd h
first_of_all p (r ∷ rs) a sorted valid new q h =
    ⊎_elim (λ t. t)
    (λ f. absurd (not_both _ first (trial_weak.chain p q r f (⊎_elim (λ e. subst (λ q. is_lt (trial_cmp q r) ≡ false) e (itself r)) (λ k. all_in (λ q. is_lt (trial_cmp q r) ≡ false) rs q sorted.1.0 k) h))))
    (bool_cases (is_lt (trial_cmp p q)))
  where
    first : is_lt (trial_cmp p r) ≡ true
    first =
        ⊎_elim (λ same. let e : is_eq (trial_cmp p p) ≡ false = ap (λ r. is_eq (trial_cmp p r)) same ∙ new in absurd (not_both _ (alike p) e))
        (λ k. ⊎_elim (λ f. f.0) (λ f. absurd (not_both _ f.0 sorted.0.0)) k)
        (tried_first p r a valid.0)

once_strict : (ps : List Pattern) → IsInTrialOrder ps → AllByRecursion IsValidPattern ps → IsInStrictOrder (each_once ps)
once_strict [] sorted valid = tt
once_strict (p ∷ ps) sorted valid = one (is_repeated p ps) (λ new q h. first_of_all p ps valid.0 sorted valid.1 new q (once_in ps q h)) (once_strict ps sorted.1 valid.1)
  where
    one : (b : Bool) → (b ≡ false → (q : Pattern) → In (each_once ps) q → is_lt (trial_cmp p q) ≡ true) → IsInStrictOrder (each_once ps) → IsInStrictOrder (cond b [] (p ∷ []) ++ each_once ps)
    one true first rest = rest
    one false first rest = (all_from (λ q. is_lt (trial_cmp p q) ≡ true) (each_once ps) (first refl), rest)

-- what the sort and the walk over the sorted patterns give
valid_moved : (ps qs : List Pattern) → IsPermutation ps qs → AllByRecursion IsValidPattern ps → AllByRecursion IsValidPattern qs
valid_moved ps qs same valid = all_from IsValidPattern qs (λ q h. all_in IsValidPattern ps q valid ((moved_both ps qs same q).0 h))

pub strict : (ps qs out : List Pattern) → IsPermutation ps qs → IsInTrialOrder qs → AllByRecursion IsValidPattern ps → out ≡ each_once qs → IsInStrictOrder out
strict ps qs out same sorted valid is = subst IsInStrictOrder (sym is) (once_strict qs sorted (valid_moved ps qs same valid))

pub members : (ps qs out : List Pattern) → IsPermutation ps qs → IsInTrialOrder qs → AllByRecursion IsValidPattern ps → out ≡ each_once qs → (p : Pattern) → In out p ↔ In ps p
members ps qs out same sorted valid is p = (
  (λ h. (moved_both ps qs same p).0 (once_in qs p (subst (λ xs. In xs p) is h))),
  (λ h. subst (λ xs. In xs p) (sym is) (in_once qs sorted (valid_moved ps qs same valid) p ((moved_both ps qs same p).1 h))),
)

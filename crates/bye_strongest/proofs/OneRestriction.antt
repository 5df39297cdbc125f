-- Restrictions sorted, each once.
use Rattle.std.proofs.Common.{◌≡◌, refl, ℕ, Bool, true, ◌&&◌, ◌==◌, List, Option, Some, None, ◌↔◌, sym, ap, subst}
use Rattle.std.specs.Cmp.{IsEquivalence, decided}
use Rattle.std.specs.List.{dedup}
use Rattle.std.specs.List.Sorted.{IsPermutation}
use Rattle.std.specs.Option.{option_eq}
use Rattle.std.proofs.lemmas.Bool.{eqb-true, eq-eqb}
use Rattle.std.proofs.lemmas.List.Kept.{Contains-dedup, Contains-from_dedup}
use Rattle.bye_terms.specs.Members.{In}
use Rattle.bye_terms.proofs.Members.{contains_in, in_contains}
use Rattle.bye_terms.proofs.Tests.{both, both_parts}
use Rattle.bye_strongest.specs.Restrictions.{Restriction}
use Rattle.bye_strongest.proofs.Restricting.{moved_both}

abbrev same_number : Option ℕ → Option ℕ → Bool
same_number = option_eq (λ x y. x == y)

number_same : (a b : Option ℕ) → same_number a b ≡ true → a ≡ b
number_same None None e = refl
number_same None (Some n) e = cc
number_same (Some m) None e = cc
number_same (Some m) (Some n) e = ap Some (eqb-true m n e)

same_itself : (a : Option ℕ) → same_number a a ≡ true
same_itself None = refl
same_itself (Some m) = eq-eqb m m refl

-- the equality of restrictions
abbrev pub same_restriction : Restriction → Restriction → Bool
same_restriction x y = same_number x.s y.s && (same_number x.p y.p && same_number x.o y.o)

restriction_same : (x y : Restriction) → same_restriction x y ≡ true → x ≡ y
restriction_same x y e =
    let w = both_parts _ _ e in
    let v = both_parts _ _ w.1 in
    let a = number_same x.s y.s w.0 in
    let b = number_same x.p y.p v.0 in
    let c = number_same x.o y.o v.1 in
    λ i. record { s = a i; p = b i; o = c i }

same_back : (x y : Restriction) → x ≡ y → same_restriction x y ≡ true
same_back x y e = subst (λ z. same_restriction x z ≡ true) e (both _ _ (same_itself x.s) (both _ _ (same_itself x.p) (same_itself x.o)))

same_equivalence : IsEquivalence same_restriction
same_equivalence = decided same_restriction (λ x y. (restriction_same x y, same_back x y))

pub sorted_once : (rs sorted once : List Restriction) → IsPermutation rs sorted → once ≡ dedup same_restriction sorted → (r : Restriction) → In once r ↔ In rs r
sorted_once rs sorted once same is r = (
  (λ h. (moved_both rs sorted same r).0 (contains_in sorted r (Contains-from_dedup same_restriction sorted r (in_contains (dedup same_restriction sorted) r (subst (λ xs. In xs r) is h))))),
  (λ h. subst (λ xs. In xs r) (sym is) (contains_in (dedup same_restriction sorted) r (Contains-dedup same_equivalence restriction_same sorted r (in_contains sorted r ((moved_both rs sorted same r).1 h))))),
)

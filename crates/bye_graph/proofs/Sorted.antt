-- Sorted lists of entries, and what stands below a bound in them.
use Rattle.std.proofs.Common.{◌≡◌, refl, ℕ, zero, suc, ◌+◌, Bool, true, false, List, [], ◌∷◌, Option, Some, ◌⊎◌, inl, inr, ⊎_elim, ◌↔◌, sym, ◌∙◌, ap, subst, slice_get, take, drop, add-one}
use Rattle.std.specs.Cmp.{IsTotalOrder, on_total, then_total, nat_cmp_total}
use Rattle.std.specs.List.{AllByRecursion}
use Rattle.std.specs.List.Sorted.{IsStrictlySortedBy}
use Rattle.std.specs.Ordering.{nat_cmp, ordering_reverse, ordering_then, partial_ordering_then, is_lt, is_some_and}
use Rattle.std.specs.declared.cmp.Ordering.{Ordering}
use Rattle.std.specs.declared.cmp.Ordering.TheVariants.{Less, Equal, Greater}
use Rattle.std.proofs.lemmas.List.{take-append-drop}
use Rattle.bye_terms.specs.Members.{In, EachOnce}
use Rattle.bye_terms.proofs.Members.{all_in, all_from, in_cases, in_left, in_right}
use Rattle.bye_terms.proofs.Tests.{not_both}
use Rattle.bye_graph.specs.Orders.{Entry, entry_cmp, IsBelow, IsFrom, IsWithin}
use Rattle.bye_graph.specs.declared.span.Span.{Span}

-- what `<` tells of two entries
less_so : (o : Ordering) → true ≡ is_lt o → o ≡ Less
less_so Less e = refl
less_so Equal e = cc
less_so Greater e = cc

so_less : (o : Ordering) → o ≡ Less → is_lt o ≡ true
so_less o e = ap is_lt e

tested : (x y z : Ordering) → is_some_and is_lt (partial_ordering_then (Some x) (partial_ordering_then (Some y) (Some z))) ≡ is_lt (ordering_then x (ordering_then y z))
tested Less y z = refl
tested Greater y z = refl
tested Equal Less z = refl
tested Equal Greater z = refl
tested Equal Equal Less = refl
tested Equal Equal Equal = refl
tested Equal Equal Greater = refl

-- the test of `<`
abbrev pub is_less : Entry → Entry → Bool
is_less x y = is_some_and is_lt (partial_ordering_then (Some (nat_cmp x.first y.first)) (partial_ordering_then (Some (nat_cmp x.second y.second)) (Some (nat_cmp x.third y.third))))

pub less_below : (x bound : Entry) (b : Bool) → b ≡ is_less x bound → b ≡ true → IsBelow bound x
less_below x bound b is told = less_so (entry_cmp x bound) (sym told ∙ is ∙ tested (nat_cmp x.first bound.first) (nat_cmp x.second bound.second) (nat_cmp x.third bound.third))

pub not_less_from : (x bound : Entry) (b : Bool) → b ≡ is_less x bound → b ≡ false → IsFrom bound x
not_less_from x bound b is none below =
    not_both b (is ∙ tested (nat_cmp x.first bound.first) (nat_cmp x.second bound.second) (nat_cmp x.third bound.third) ∙ so_less (entry_cmp x bound) below) none

pub entry_total : IsTotalOrder entry_cmp
entry_total = then_total (on_total (λ e. e.first) nat_cmp_total) (then_total (on_total (λ e. e.second) nat_cmp_total) (on_total (λ e. e.third) nat_cmp_total))

not_itself : (o : Ordering) → o ≡ Less → o ≡ ordering_reverse o → ⊥
not_itself Less e r = cc
not_itself Equal e r = cc
not_itself Greater e r = cc

pub never_below : (x : Entry) → IsBelow x x → ⊥
never_below x h = not_itself (entry_cmp x x) h (entry_total.antisymm x x)

-- what stands before an entry below the bound is below it
below_at : (xs : List Entry) (place : ℕ) (x bound : Entry) → IsStrictlySortedBy entry_cmp xs → Some x ≡ slice_get xs place → IsBelow bound x → AllByRecursion (IsBelow bound) (take (suc place) xs)
unfolding IsStrictlySortedBy
below_at [] place x bound sorted at below = cc
below_at (y ∷ xs) zero x bound sorted at below = (subst (IsBelow bound) (same_some at) below, none xs)
  where
    same_some : {a b : Entry} → ◌≡◌ {A = Option Entry} (Some a) (Some b) → a ≡ b
    same_some e = cc

    none : (xs : List Entry) → AllByRecursion (IsBelow bound) (take zero xs)
    none [] = tt
    none (y ∷ xs) = tt
below_at (y ∷ xs) (suc place) x bound sorted at below =
    (entry_total.trans y x bound (all_in (λ z. entry_cmp y z ≡ Less) xs x sorted.0 (get_in xs place x (sym at))) below, below_at xs place x bound sorted.1 at below)
  where
    get_in : (xs : List Entry) (i : ℕ) (x : Entry) → slice_get xs i ≡ Some x → In xs x
    get_in [] i x e = cc
    get_in (y ∷ xs) zero x e = inl (cc)
    get_in (y ∷ xs) (suc i) x e = inr (get_in xs i x e)

pub below_upto : (xs : List Entry) (place : ℕ) (x bound : Entry) → IsStrictlySortedBy entry_cmp xs → Some x ≡ slice_get xs place → IsBelow bound x → AllByRecursion (IsBelow bound) (take (place + 1) xs)
below_upto xs place x bound sorted at below = subst (λ n. AllByRecursion (IsBelow bound) (take n xs)) (sym (add-one place)) (below_at xs place x bound sorted at below)

-- what stands after an entry that is not below the bound is not below it
later_from : (x bound : Entry) (xs : List Entry) → AllByRecursion (λ y. entry_cmp x y ≡ Less) xs → IsFrom bound x → AllByRecursion (IsFrom bound) xs
later_from x bound xs all h = all_from (IsFrom bound) xs (λ y i below. h (entry_total.trans x y bound (all_in (λ z. entry_cmp x z ≡ Less) xs y all i) below))

pub from_on : (xs : List Entry) (place : ℕ) (x bound : Entry) → IsStrictlySortedBy entry_cmp xs → Some x ≡ slice_get xs place → IsFrom bound x → AllByRecursion (IsFrom bound) (drop place xs)
unfolding IsStrictlySortedBy
from_on [] place x bound sorted at h = cc
from_on (y ∷ xs) zero x bound sorted at h = let e : x ≡ y = cc in let g = subst (IsFrom bound) e h in (g, later_from y bound xs sorted.0 g)
from_on (y ∷ xs) (suc place) x bound sorted at h = from_on xs place x bound sorted.1 at h

-- a part of a sorted list is sorted
pub sorted_drop : (xs : List Entry) (n : ℕ) → IsStrictlySortedBy entry_cmp xs → IsStrictlySortedBy entry_cmp (drop n xs)
unfolding IsStrictlySortedBy
sorted_drop [] zero sorted = sorted
sorted_drop [] (suc n) sorted = sorted
sorted_drop (x ∷ xs) zero sorted = sorted
sorted_drop (x ∷ xs) (suc n) sorted = sorted_drop xs n sorted.1

all_take : (P : Entry → Type 0) (xs : List Entry) (n : ℕ) → AllByRecursion P xs → AllByRecursion P (take n xs)
all_take P [] zero all = tt
all_take P [] (suc n) all = tt
all_take P (x ∷ xs) zero all = tt
all_take P (x ∷ xs) (suc n) all = (all.0, all_take P xs n all.1)

pub sorted_take : (xs : List Entry) (n : ℕ) → IsStrictlySortedBy entry_cmp xs → IsStrictlySortedBy entry_cmp (take n xs)
unfolding IsStrictlySortedBy
sorted_take [] zero sorted = sorted
sorted_take [] (suc n) sorted = sorted
sorted_take (x ∷ xs) zero sorted = tt
sorted_take (x ∷ xs) (suc n) sorted = (all_take (λ y. entry_cmp x y ≡ Less) xs n sorted.0, sorted_take xs n sorted.1)

-- it has no element twice
pub sorted_once : (xs : List Entry) → IsStrictlySortedBy entry_cmp xs → EachOnce xs
unfolding IsStrictlySortedBy
sorted_once [] sorted = tt
sorted_once (x ∷ xs) sorted = ((λ h. never_below x (all_in (λ y. entry_cmp x y ≡ Less) xs x sorted.0 h)), sorted_once xs sorted.1)

-- an element stands in one of two parts
split_in : (xs : List Entry) (n : ℕ) (x : Entry) → In xs x → In (take n xs) x ⊎ In (drop n xs) x
split_in xs n x h = in_cases (take n xs) (drop n xs) x (subst (λ ys. In ys x) (sym (take-append-drop n xs)) h)

front_in : (xs : List Entry) (n : ℕ) (x : Entry) → In (take n xs) x → In xs x
front_in xs n x h = subst (λ ys. In ys x) (take-append-drop n xs) (in_left (take n xs) (drop n xs) x h)

back_in : (xs : List Entry) (n : ℕ) (x : Entry) → In (drop n xs) x → In xs x
back_in xs n x h = subst (λ ys. In ys x) (take-append-drop n xs) (in_right (take n xs) (drop n xs) x h)

within_drops : (xs : List Entry) (span : Span) (low high : ℕ) → AllByRecursion (IsBelow span.low) (take low xs) → AllByRecursion (IsFrom span.low) (drop low xs)
    → AllByRecursion (IsBelow span.high) (take high (drop low xs)) → AllByRecursion (IsFrom span.high) (drop high (drop low xs))
    → (x : Entry) → In (take high (drop low xs)) x ↔ (In xs x × IsWithin span x)
within_drops xs span low high before rest within after x = (
  λ h.
      let later = front_in (drop low xs) high x h in
      (back_in xs low x later, (all_in (IsFrom span.low) (drop low xs) x rest later, all_in (IsBelow span.high) (take high (drop low xs)) x within h)),
  λ (h, w).
      ⊎_elim
      (λ early. absurd (w.0 (all_in (IsBelow span.low) (take low xs) x before early)))
      (λ later. ⊎_elim
      (λ found. found)
      (λ past. absurd (all_in (IsFrom span.high) (drop high (drop low xs)) x after past w.1))
      (split_in (drop low xs) high x later))
      (split_in xs low x h),
)

-- two searches give what lies within a span
pub within_span : (xs rest part : List Entry) (span : Span) (low high : ℕ) → rest ≡ drop low xs → part ≡ take high rest → AllByRecursion (IsBelow span.low) (take low xs) → AllByRecursion (IsFrom span.low) (drop low xs)
    → AllByRecursion (IsBelow span.high) (take high rest) → AllByRecursion (IsFrom span.high) (drop high rest)
    → (x : Entry) → In part x ↔ (In xs x × IsWithin span x)
within_span xs rest part span low high is_rest is_part before from within after x =
    subst (λ ys. In ys x ↔ (In xs x × IsWithin span x)) (sym (is_part ∙ ap (take high) is_rest))
    (within_drops xs span low high before from (subst (λ ys. AllByRecursion (IsBelow span.high) (take high ys)) is_rest within) (subst (λ ys. AllByRecursion (IsFrom span.high) (drop high ys)) is_rest after) x)

-- the entry that a search for itself finds
pub found_there : (xs : List Entry) (n : ℕ) (x : Entry) → slice_get xs n ≡ Some x → In xs x
found_there [] n x e = cc
found_there (y ∷ xs) zero x e = inl (cc)
found_there (y ∷ xs) (suc n) x e = inr (found_there xs n x e)

first_there : (xs : List Entry) (x : Entry) → IsStrictlySortedBy entry_cmp xs → AllByRecursion (IsFrom x) xs → In xs x → slice_get xs 0 ≡ Some x
unfolding IsStrictlySortedBy
first_there [] x sorted rest h = absurd h
first_there (y ∷ xs) x sorted rest (inl e) = ap Some e
first_there (y ∷ xs) x sorted rest (inr h) = absurd (rest.0 (all_in (λ z. entry_cmp y z ≡ Less) xs x sorted.0 h))

get_drop : (xs : List Entry) (n : ℕ) → slice_get (drop n xs) 0 ≡ slice_get xs n
get_drop [] zero = refl
get_drop [] (suc n) = refl
get_drop (x ∷ xs) zero = refl
get_drop (x ∷ xs) (suc n) = get_drop xs n

pub there_found : (xs : List Entry) (n : ℕ) (x : Entry) → IsStrictlySortedBy entry_cmp xs → AllByRecursion (IsBelow x) (take n xs) → AllByRecursion (IsFrom x) (drop n xs) → In xs x → slice_get xs n ≡ Some x
there_found xs n x sorted before rest h =
    ⊎_elim
    (λ early. absurd (never_below x (all_in (IsBelow x) (take n xs) x before early)))
    (λ later. sym (get_drop xs n) ∙ first_there (drop n xs) x (sorted_drop xs n sorted) rest later)
    (split_in xs n x h)

-- The keys of lines do not fall where the lines do not.
use Rattle.std.proofs.Common.{◌≡◌, refl, ℕ, zero, suc, ◌+◌, ◌*◌, ◌<◌, ◌≤◌, Bool, true, false, cond, nat_lt, List, [], ◌∷◌, length, drop, drop-cons, Option, Some, None, ◌⊎◌, inl, inr, ⊎_elim, sym, ◌∙◌, ap, subst, arith, Ordering, Less, Equal, Greater}
use Rattle.std.specs.List.{AllByRecursion}
use Rattle.std.specs.Cmp.Lexicographic.{slice_cmp}
use Rattle.std.specs.Ordering.{nat_cmp, is_lt, is_gt, ordering_then, ordering_reverse, MatchOrdering}
use Rattle.std.specs.Cmp.{nat_cmp_is}
use Rattle.std.proofs.lemmas.Bool.{ltb-true, ltb-false}
use Rattle.std.proofs.lemmas.Cmp.{ranked, upto, nat_list_cmp_total}
use Rattle.bye_ntriples.specs.Keys.{Partial, digit, behind, digits, child, walk, beyond, beyond_front, Chosen, first_number, high, low, Keyed, IsKeyed}

abbrev order : List ℕ → List ℕ → Ordering
order = slice_cmp nat_cmp

abbrev pub NotAfter : List ℕ → List ℕ → Type 0
NotAfter x y = is_gt (order x y) ≡ false

abbrev pub AreBytes : List ℕ → Type 0
AreBytes text = AllByRecursion (λ b. b < 256) text

-- the first number is less, or the two are equal and the first text does not come after the second
abbrev Goes : Partial → Partial → Type 0
Goes p q = (p.number < q.number) ⊎ ((p.number ≡ q.number) × NotAfter p.rest q.rest)

empty_first : (u : List ℕ) → NotAfter [] u
empty_first [] = refl
empty_first (d ∷ u) = refl

not_gt : {P : Type 0} → true ≡ false → P
not_gt e = cc

heads_case : (c d : ℕ) (o r : Ordering) → MatchOrdering o (c < d) (c ≡ d) (d < c) → is_gt (ordering_then o r) ≡ false → (c < d) ⊎ ((c ≡ d) × (is_gt r ≡ false))
heads_case c d Less r h e = inl h
heads_case c d Equal r h e = inr (h, e)
heads_case c d Greater r h e = not_gt e

heads_of : (c d : ℕ) (t u : List ℕ) → NotAfter (c ∷ t) (d ∷ u) → (c < d) ⊎ ((c ≡ d) × NotAfter t u)
heads_of c d t u h = heads_case c d (nat_cmp c d) (order t u) (ranked c d (nat_cmp c d) refl) h

-- one more byte
digit_above : (m : ℕ) (u : List ℕ) → m * 256 ≤ digit m u
digit_above m [] = omega arith
digit_above m (d ∷ u) = omega arith

digit_below : (n : ℕ) (t : List ℕ) → AreBytes t → digit n t < n * 256 + 256
digit_below n [] b = omega arith
digit_below n (c ∷ t) b = let k : c < 256 = b.0 in omega arith

one_digit : (n : ℕ) (t u : List ℕ) → NotAfter t u → Goes (record { number = digit n t; rest = behind t }) (record { number = digit n u; rest = behind u })
one_digit n [] [] h = inr (refl, refl)
one_digit n [] (zero ∷ u) h = inr (omega arith, empty_first u)
one_digit n [] (suc d ∷ u) h = inl (omega arith)
one_digit n (c ∷ t) [] h = not_gt h
one_digit n (c ∷ t) (d ∷ u) h = ⊎_elim (λ (l : c < d). inl (omega arith)) (λ k. inr (ap (λ c. n * 256 + c) k.0, k.1)) (heads_of c d t u h)

digit_goes : (p q : Partial) → AreBytes p.rest → Goes p q → Goes (record { number = digit p.number p.rest; rest = behind p.rest }) (record { number = digit q.number q.rest; rest = behind q.rest })
digit_goes p q bytes h =
    ⊎_elim
    (λ (l : p.number < q.number). let a = digit_below p.number p.rest bytes in let b = digit_above q.number q.rest in inl (omega arith))
    (λ k. subst (λ m. Goes (record { number = digit p.number p.rest; rest = behind p.rest }) (record { number = digit m q.rest; rest = behind q.rest })) k.0 (one_digit p.number p.rest q.rest k.1))
    h

behind_bytes : (t : List ℕ) → AreBytes t → AreBytes (behind t)
behind_bytes [] h = tt
behind_bytes (c ∷ t) h = h.1

digits_goes : (k : ℕ) (p q : Partial) → AreBytes p.rest → Goes p q → Goes (digits k p) (digits k q)
digits_goes zero p q bytes h = h
digits_goes (suc k) p q bytes h = digits_goes k _ _ (behind_bytes p.rest bytes) (digit_goes p q bytes h)

digits_bytes : (k : ℕ) (p : Partial) → AreBytes p.rest → AreBytes (digits k p).rest
digits_bytes zero p h = h
digits_bytes (suc k) p h = digits_bytes k _ (behind_bytes p.rest h)

-- before, among or after those with a front
abbrev before : Partial
before = record { number = 0; rest = [] }

abbrev after : Partial
after = record { number = 2; rest = [] }

from_before : (q : Partial) → Goes before q
from_before q = zero_or q.number q.rest
  where
    zero_or : (n : ℕ) (t : List ℕ) → Goes before (record { number = n; rest = t })
    zero_or zero t = inr (refl, empty_first t)
    zero_or (suc n) t = inl (omega arith)

to_after : (a b : Bool) (q : Partial) → Goes q after → Goes (cond a before (cond b after q)) after
to_after true b q h = from_before after
to_after false true q h = inr (refl, refl)
to_after false false q h = h

beyond_after : (ps t : List ℕ) → Goes (beyond ps t) after
beyond_after [] t = inl (omega arith)
beyond_after (p ∷ ps) [] = from_before after
beyond_after (p ∷ ps) (c ∷ cs) = to_after (nat_lt c p) (nat_lt p c) (beyond ps cs) (beyond_after ps cs)

tested : (c d p : ℕ) (a b f g : Bool) (s r : Partial) → nat_lt c p ≡ a → nat_lt p c ≡ b → nat_lt d p ≡ f → nat_lt p d ≡ g → c < d → Goes s after → Goes (cond a before (cond b after s)) (cond f before (cond g after r))
tested c d p true b f g s r i j k l m h = from_before (cond f before (cond g after r))
tested c d p false b true g s r i j k l m h = absurd (let x = ltb-false c p i in let y = ltb-true d p k in omega arith)
tested c d p false b false true s r i j k l m h = to_after false b s h
tested c d p false b false false s r i j k l m h = absurd (let x = ltb-false c p i in let y = ltb-false p d l in omega arith)

both : (a b : Bool) (s r : Partial) → Goes s r → Goes (cond a before (cond b after s)) (cond a before (cond b after r))
both true b s r h = inr (refl, refl)
both false true s r h = inr (refl, refl)
both false false s r h = h

beyond_goes : (ps t u : List ℕ) → NotAfter t u → Goes (beyond ps t) (beyond ps u)
beyond_goes [] t u h = inr (refl, h)
beyond_goes (p ∷ ps) [] u h = from_before (beyond (p ∷ ps) u)
beyond_goes (p ∷ ps) (c ∷ t) [] h = not_gt h
beyond_goes (p ∷ ps) (c ∷ t) (d ∷ u) h =
    ⊎_elim
    (λ (l : c < d). tested c d p (nat_lt c p) (nat_lt p c) (nat_lt d p) (nat_lt p d) (beyond ps t) (beyond ps u) refl refl refl refl l (beyond_after ps t))
    (λ (k : (c ≡ d) × NotAfter t u). subst (λ d. Goes (beyond (p ∷ ps) (c ∷ t)) (beyond (p ∷ ps) (d ∷ u))) k.0 (both (nat_lt c p) (nat_lt p c) (beyond ps t) (beyond ps u) (beyond_goes ps t u k.1)))
    (heads_of c d t u h)

front_goes : (front : Option (List ℕ)) (t u : List ℕ) → NotAfter t u → Goes (beyond_front front t) (beyond_front front u)
front_goes None t u h = inr (refl, h)
front_goes (Some front) t u h = beyond_goes front t u h

at_most_two : (p : Partial) → Goes p after → p.number < 3
at_most_two p h = ⊎_elim (λ (l : p.number < 2). omega arith) (λ (k : (p.number ≡ 2) × NotAfter p.rest []). omega (arith, k.0)) h

front_small : (front : Option (List ℕ)) (t : List ℕ) → (beyond_front front t).number < 3
front_small None t = omega arith
front_small (Some front) t = at_most_two (beyond front t) (beyond_after front t)

-- the way down the tree
turned : (o : Ordering) → (is_gt (ordering_reverse o) ≡ is_lt o) × (is_lt (ordering_reverse o) ≡ is_gt o)
turned Less = (refl, refl)
turned Equal = (refl, refl)
turned Greater = (refl, refl)

not_before : (label x y : List ℕ) → is_lt (order x label) ≡ false → NotAfter x y → is_lt (order y label) ≡ false
not_before label x y h k =
    let first : NotAfter label x = ap is_gt (nat_list_cmp_total.antisymm label x) ∙ (turned (order x label)).0 ∙ h in
    ap is_lt (nat_list_cmp_total.antisymm y label) ∙ (turned (order label y)).1 ∙ upto nat_list_cmp_total label x y first k

abbrev UpTo : ℕ → ℕ → Type 0
UpTo n m = (n < m) ⊎ (n ≡ m)

choose : (at : ℕ) (a b : Bool) → (a ≡ false → b ≡ false) → UpTo (cond a (at * 2) (at * 2 + 1)) (cond b (at * 2) (at * 2 + 1))
choose at true true f = inr refl
choose at true false f = inl (omega arith)
choose at false true f = not_gt (f refl)
choose at false false f = inr refl

child_same : (label : Option (List ℕ)) (at : ℕ) (x y : List ℕ) → NotAfter x y → UpTo (child label at x) (child label at y)
child_same None at x y h = inr refl
child_same (Some label) at x y h = choose at (is_lt (order x label)) (is_lt (order y label)) (λ e. not_before label x y e h)

child_range : (label : Option (List ℕ)) (at : ℕ) (x : List ℕ) → (at * 2 ≤ child label at x) × (child label at x ≤ at * 2 + 1)
child_range None at x = (omega arith, omega arith)
child_range (Some label) at x = one (is_lt (order x label))
  where
    one : (b : Bool) → (at * 2 ≤ cond b (at * 2) (at * 2 + 1)) × (cond b (at * 2) (at * 2 + 1) ≤ at * 2 + 1)
    one true = (omega arith, omega arith)
    one false = (omega arith, omega arith)

child_goes : (labels : ℕ → Option (List ℕ)) (i j : ℕ) (x y : List ℕ) → NotAfter x y → UpTo i j → UpTo (child (labels i) i x) (child (labels j) j y)
child_goes labels i j x y h k =
    ⊎_elim
    (λ (l : i < j). let a = child_range (labels i) i x in let b = child_range (labels j) j y in inl (omega (arith, a.1, b.0)))
    (λ (e : i ≡ j). subst (λ j. UpTo (child (labels i) i x) (child (labels j) j y)) e (child_same (labels i) i x y h))
    k

walk_goes : (k : ℕ) (labels : ℕ → Option (List ℕ)) (i j : ℕ) (x y : List ℕ) → NotAfter x y → UpTo i j → UpTo (walk k labels i x) (walk k labels j y)
walk_goes zero labels i j x y h l = l
walk_goes (suc k) labels i j x y h l = walk_goes k labels _ _ x y h (child_goes labels i j x y h l)

-- keys
shifted : (at : ℕ) (p q : Partial) → Goes p q → Goes (record { number = at * 3 + p.number; rest = p.rest }) (record { number = at * 3 + q.number; rest = q.rest })
shifted at p q h = ⊎_elim (λ (l : p.number < q.number). inl (omega arith)) (λ k. inr (ap (λ n. at * 3 + n) k.0, k.1)) h

numbered : (fronts : ℕ → Option (List ℕ)) (i j : ℕ) (x y : List ℕ) → NotAfter x y → UpTo i j
    → Goes (record { number = i * 3 + (beyond_front (fronts i) x).number; rest = (beyond_front (fronts i) x).rest }) (record { number = j * 3 + (beyond_front (fronts j) y).number; rest = (beyond_front (fronts j) y).rest })
numbered fronts i j x y h k =
    ⊎_elim
    (λ (l : i < j). let a = front_small (fronts i) x in inl (omega arith))
    (λ (e : i ≡ j). subst (λ j. Goes (record { number = i * 3 + (beyond_front (fronts i) x).number; rest = (beyond_front (fronts i) x).rest }) (record { number = j * 3 + (beyond_front (fronts j) y).number; rest = (beyond_front (fronts j) y).rest })) e
    (shifted i (beyond_front (fronts i) x) (beyond_front (fronts i) y) (front_goes (fronts i) x y h)))
    k

first_goes : (chosen : Chosen) (x y : List ℕ) → NotAfter x y → Goes (first_number chosen x) (first_number chosen y)
first_goes chosen x y h = numbered chosen.fronts (walk 6 chosen.labels 1 x) (walk 6 chosen.labels 1 y) x y h (walk_goes 6 chosen.labels 1 1 x y h (inr refl))

-- where the text ends within the front
pub ended : (ps : List ℕ) (i : ℕ) (t : List ℕ) (q : Partial) → i < length ps → length t < 1 → beyond (drop i ps) t ≡ q → before ≡ q
ended ps i [] q l k e = ap (λ ps. beyond ps []) (sym (drop-cons ps i 0 l)) ∙ e
ended ps i (c ∷ cs) q l k e = absurd (omega arith)

beyond_bytes : (ps t : List ℕ) → AreBytes t → AreBytes (beyond ps t).rest
beyond_bytes [] t h = h
beyond_bytes (p ∷ ps) [] h = tt
beyond_bytes (p ∷ ps) (c ∷ cs) h = picked (nat_lt c p) (nat_lt p c) (beyond ps cs) (beyond_bytes ps cs h.1)
  where
    picked : (a b : Bool) (q : Partial) → AreBytes q.rest → AreBytes (cond a before (cond b after q)).rest
    picked true b q h = tt
    picked false true q h = tt
    picked false false q h = h

front_bytes : (front : Option (List ℕ)) (t : List ℕ) → AreBytes t → AreBytes (beyond_front front t).rest
front_bytes None t h = h
front_bytes (Some front) t h = beyond_bytes front t h

high_goes : (chosen : Chosen) (x y : List ℕ) → AreBytes x → NotAfter x y → Goes (high chosen x) (high chosen y)
high_goes chosen x y bytes h = digits_goes 6 (first_number chosen x) (first_number chosen y) (front_bytes (chosen.fronts (walk 6 chosen.labels 1 x)) x bytes) (first_goes chosen x y h)

high_bytes : (chosen : Chosen) (x : List ℕ) → AreBytes x → AreBytes (high chosen x).rest
high_bytes chosen x bytes = digits_bytes 6 (first_number chosen x) (front_bytes (chosen.fronts (walk 6 chosen.labels 1 x)) x bytes)

low_goes : (t u : List ℕ) → AreBytes t → NotAfter t u → UpTo (low t).number (low u).number
low_goes t u bytes h = ⊎_elim (λ l. inl l) (λ k. inr k.0) (digits_goes 8 (record { number = 0; rest = t }) (record { number = 0; rest = u }) bytes (inr (refl, h)))

-- lines that stand in the order of their keys, and of themselves where these are equal
less : (a b : ℕ) → a < b → nat_cmp a b ≡ Less
less a b l = sym (nat_cmp_is a b Less l)

same : (a b : ℕ) → a ≡ b → nat_cmp a b ≡ Equal
same a b e = sym (nat_cmp_is a b Equal e)

abbrev by_keys : Keyed → Keyed → Ordering
by_keys j k = ordering_then (ordering_then (nat_cmp j.first k.first) (nat_cmp j.second k.second)) (order j.line k.line)

earlier : (j k : Keyed) → order j.line k.line ≡ Less → (j.first < k.first) ⊎ ((j.first ≡ k.first) × UpTo j.second k.second) → is_lt (by_keys j k) ≡ true
earlier j k e h =
    ⊎_elim
    (λ l. ap (λ o. is_lt (ordering_then (ordering_then o (nat_cmp j.second k.second)) (order j.line k.line))) (less j.first k.first l))
    (λ (m : (j.first ≡ k.first) × UpTo j.second k.second).
    ap (λ o. is_lt (ordering_then (ordering_then o (nat_cmp j.second k.second)) (order j.line k.line))) (same j.first k.first m.0)
    ∙ ⊎_elim
    (λ l. ap (λ o. is_lt (ordering_then o (order j.line k.line))) (less j.second k.second l))
    (λ f. ap (λ o. is_lt (ordering_then o (order j.line k.line))) (same j.second k.second f) ∙ ap is_lt e) m.1)
    h

keys_go : (chosen : Chosen) (j k : Keyed) → IsKeyed chosen j → IsKeyed chosen k → AreBytes j.line → NotAfter j.line k.line → (j.first < k.first) ⊎ ((j.first ≡ k.first) × UpTo j.second k.second)
keys_go chosen j k is_j is_k bytes h =
    ⊎_elim
    (λ (l : (high chosen j.line).number < (high chosen k.line).number). inl (omega (arith, is_j.high_is, is_k.high_is)))
    (λ (m : ((high chosen j.line).number ≡ (high chosen k.line).number) × NotAfter (high chosen j.line).rest (high chosen k.line).rest). inr (
      is_j.high_is ∙ m.0 ∙ sym is_k.high_is,
      ⊎_elim
          (λ (l : (low (high chosen j.line).rest).number < (low (high chosen k.line).rest).number). inl (omega (arith, is_j.low_is, is_k.low_is)))
          (λ e. inr (is_j.low_is ∙ e ∙ sym is_k.low_is))
          (low_goes (high chosen j.line).rest (high chosen k.line).rest (high_bytes chosen j.line bytes) m.1),
    ))
    (high_goes chosen j.line k.line bytes h)

contradicts : (a : Bool) → a ≡ false → a ≡ true → ⊥
contradicts a e f = not_gt (sym f ∙ e)

lines_go : (j k : Keyed) (o : Ordering) → order j.line k.line ≡ o → is_lt (by_keys j k) ≡ false → (NotAfter j.line k.line → (j.first < k.first) ⊎ ((j.first ≡ k.first) × UpTo j.second k.second)) → is_lt o ≡ false
lines_go j k Less e h f = absurd (contradicts (is_lt (by_keys j k)) h (earlier j k e (f (ap is_gt e))))
lines_go j k Equal e h f = refl
lines_go j k Greater e h f = refl

pub line_order : (chosen : Chosen) (j k : Keyed) → IsKeyed chosen j → IsKeyed chosen k → AreBytes j.line → is_lt (by_keys j k) ≡ false → is_lt (order j.line k.line) ≡ false
line_order chosen j k is_j is_k bytes h = lines_go j k (order j.line k.line) refl h (λ n. keys_go chosen j k is_j is_k bytes n)

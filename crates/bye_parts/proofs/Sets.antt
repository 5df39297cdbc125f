-- Truth values, and sets of kinds of tokens.
use Rattle.std.proofs.Common.{◌≡◌, refl, ℕ, Bool, true, false, cond, not, ◌==◌, ◌&&◌, ◌||◌, List, ◌∷◌, [], ◌++◌, ◌⊎◌, inl, inr, ⊎_elim, sym, ◌∙◌, ap, arith}
use Rattle.bye_parts.specs.Sets.{has, disjoint}

eqb_same : (a b : ℕ) → (a == b) ≡ true → a ≡ b
eqb_same a b e = grind arith

pub bool_cases : (b : Bool) → (b ≡ true) ⊎ (b ≡ false)
bool_cases true = inl refl
bool_cases false = inr refl

pub no_both : (b : Bool) → b ≡ true → b ≡ false → ⊥
no_both b e f = cc

pub no_yes : {P : Type 0} → true ≡ false → P
no_yes e = cc

pub when : {A : Type 0} (b : Bool) (x y : A) → b ≡ true → cond b x y ≡ x
when b x y e = ap (λ b. cond b x y) e

pub unless : {A : Type 0} (b : Bool) (x y : A) → b ≡ false → cond b x y ≡ y
unless b x y e = ap (λ b. cond b x y) e

both_parts : (a b : Bool) → (a && b) ≡ true → (a ≡ true) × (b ≡ true)
both_parts true b e = (refl, e)
both_parts false b e = cc

one_part : (a b : Bool) → (a || b) ≡ true → (a ≡ true) ⊎ (b ≡ true)
one_part true b e = inl refl
one_part false b e = inr e

no_part : (a b : Bool) → (a || b) ≡ false → (a ≡ false) × (b ≡ false)
no_part true b e = cc
no_part false b e = (refl, e)

or_second : (a b : Bool) → b ≡ true → (a || b) ≡ true
or_second true b e = refl
or_second false b e = e

pub and_no : (a b : Bool) → (a && b) ≡ false → (a ≡ false) ⊎ ((a ≡ true) × (b ≡ false))
and_no true b e = inr (refl, e)
and_no false b e = inl refl

not_true : (b : Bool) → not b ≡ true → b ≡ false
not_true true e = cc
not_true false e = refl

-- what is in one of two sets without a common number is not in the other
pub apart_of : (xs ys : List ℕ) (k : ℕ) → disjoint xs ys ≡ true → has xs k ≡ true → has ys k ≡ false
apart_of [] ys k d h = cc
apart_of (x ∷ xs) ys k d h =
    let b = both_parts (not (has ys x)) (disjoint xs ys) d in
    ⊎_elim
    (λ (e : (x == k) ≡ true). ap (λ x. has ys x) (sym (eqb_same x k e)) ∙ not_true (has ys x) b.0)
    (λ e. apart_of xs ys k b.1 e)
    (one_part (x == k) (has xs k) h)

pub has_left : (xs ys : List ℕ) (k : ℕ) → has xs k ≡ true → has (xs ++ ys) k ≡ true
has_left [] ys k h = cc
has_left (x ∷ xs) ys k h =
    ⊎_elim
    (λ (e : (x == k) ≡ true). ap (λ b. b || has (xs ++ ys) k) e)
    (λ e. or_second (x == k) (has (xs ++ ys) k) (has_left xs ys k e))
    (one_part (x == k) (has xs k) h)

pub has_right : (xs ys : List ℕ) (k : ℕ) → has ys k ≡ true → has (xs ++ ys) k ≡ true
has_right [] ys k h = h
has_right (x ∷ xs) ys k h = or_second (x == k) (has (xs ++ ys) k) (has_right xs ys k h)

pub lacks : (xs ys : List ℕ) (k : ℕ) → has (xs ++ ys) k ≡ false → (has xs k ≡ false) × (has ys k ≡ false)
lacks [] ys k h = (refl, h)
lacks (x ∷ xs) ys k h =
    let p = no_part (x == k) (has (xs ++ ys) k) h in
    let r = lacks xs ys k p.1 in
    (ap (λ b. b || has xs k) p.0 ∙ r.0, r.1)

-- whether each number of the first set is in the second
abbrev pub subset : List ℕ → List ℕ → Bool
subset [] ys = true
subset (x ∷ xs) ys = has ys x && subset xs ys

pub has_more : (xs ys : List ℕ) (k : ℕ) → subset xs ys ≡ true → has xs k ≡ true → has ys k ≡ true
has_more [] ys k s h = cc
has_more (x ∷ xs) ys k s h =
    let b = both_parts (has ys x) (subset xs ys) s in
    ⊎_elim (λ (e : (x == k) ≡ true). ap (λ x. has ys x) (sym (eqb_same x k e)) ∙ b.0) (λ e. has_more xs ys k b.1 e) (one_part (x == k) (has xs k) h)

pub has_less : (xs ys : List ℕ) (k : ℕ) → subset xs ys ≡ true → has ys k ≡ false → has xs k ≡ false
has_less xs ys k s h = ⊎_elim (λ (e : has xs k ≡ true). absurd (no_both (has ys k) (has_more xs ys k s e) h)) (λ (e : has xs k ≡ false). e) (bool_cases (has xs k))

-- a set of one
pub only_one : (x k : ℕ) → has (x ∷ []) k ≡ true → k ≡ x
only_one x k h = ⊎_elim (λ (e : (x == k) ≡ true). sym (eqb_same x k e)) (λ (e : false ≡ true). let r : k ≡ x = cc in r) (one_part (x == k) false h)

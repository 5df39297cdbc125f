-- Tests, their branches, and lists by their heads.
use Rattle.std.proofs.Common.{◌≡◌, refl, ℕ, Bool, true, false, cond, ◌==◌, ◌&&◌, ◌||◌, List, ◌∷◌, [], ◌++◌, Option, Some, None, option_map, ◌⊎◌, inl, inr, sym, ◌∙◌, ap, subst, append_assoc, arith}
use Rattle.std.specs.Str.{all_scalars}
use Rattle.bye_terms.proofs.Tests.{both_parts}

pub when : {A : Type 0} (b : Bool) (x y : A) → b ≡ true → cond b x y ≡ x
when b x y e = ap (λ b. cond b x y) e

pub unless : {A : Type 0} (b : Bool) (x y z : A) → b ≡ false → y ≡ z → cond b x y ≡ z
unless b x y z e h = ap (λ b. cond b x y) e ∙ h

pub chosen : {A : Type 0} (b : Bool) (x y z : A) → cond b x y ≡ z → ((b ≡ true) × (x ≡ z)) ⊎ ((b ≡ false) × (y ≡ z))
chosen true x y z e = inl (refl, e)
chosen false x y z e = inr (refl, e)

pub eqb_same : (a b : ℕ) → (a == b) ≡ true → a ≡ b
eqb_same a b e = grind arith

pub same_eqb : (a b : ℕ) → a ≡ b → (a == b) ≡ true
same_eqb a b e = grind arith

-- a test that fails at d tells d from what passes
pub never : (p : ℕ → Bool) (d c : ℕ) → p d ≡ false → p c ≡ true → (c == d) ≡ false
never p d c f h =
    elim (c == d) as (λ b. (c == d) ≡ b → b ≡ false) [
      | true ↦ λ is. let k = subst (λ c. p c ≡ true) (eqb_same c d is) h in cc
      | false ↦ λ is. refl
    ] refl

pub heads : {A : Type 0} (c d : A) (t u : List A) → c ∷ t ≡ d ∷ u → (c ≡ d) × (t ≡ u)
heads c d t u e = (cc, cc)

pub some_same : {A : Type 0} {x y : A} → ◌≡◌ {A = Option A} (Some x) (Some y) → x ≡ y
some_same e = cc

pub none_some : {A P : Type 0} {y : A} → ◌≡◌ {A = Option A} None (Some y) → P
none_some e = cc

-- one element more at the end of what stands before
pub snoc : {A : Type 0} (out w : List A) (c : A) → out ++ (c ∷ w) ≡ (out ++ c ∷ []) ++ w
snoc out w c = sym (append_assoc out (c ∷ []) w)

pub and_true : (a b : Bool) → a ≡ true → b ≡ true → (a && b) ≡ true
and_true true b e f = f
and_true false b e f = cc

pub and_false : (a b : Bool) → b ≡ false → (a && b) ≡ false
and_false true b e = e
and_false false b e = cc

-- what a test and its branch give
pub pick_of : {P S : Type 0} (b : Bool) (x n : S) (y : Option S) → cond b (Some x) y ≡ Some n → (b ≡ true → n ≡ x → P) → (y ≡ Some n → P) → P
pick_of true x n y e hit miss = hit refl (sym (some_same e))
pick_of false x n y e hit miss = miss e

-- the same, where the branch not taken wants to know that it was not
pub pick_not : {P S : Type 0} (b : Bool) (x n : S) (y : Option S) → cond b (Some x) y ≡ Some n → (b ≡ true → n ≡ x → P) → (b ≡ false → y ≡ Some n → P) → P
pick_not true x n y e hit miss = hit refl (sym (some_same e))
pick_not false x n y e hit miss = miss refl e

pub scalars_join : (a b : List ℕ) → all_scalars a ≡ true → all_scalars b ≡ true → all_scalars (a ++ b) ≡ true
scalars_join [] b e f = f
scalars_join (c ∷ a) b e f = let k = both_parts _ _ e in and_true _ _ k.0 (scalars_join a b k.1 f)

-- a test that passes by either way
pub either : (a x b y : Bool) → ((a && x) || (b && y)) ≡ true → ((a ≡ true) × (x ≡ true)) ⊎ ((b ≡ true) × (y ≡ true))
either true true b y e = inl (refl, refl)
either true false b y e = inr (both_parts b y e)
either false x b y e = inr (both_parts b y e)

pub either_of : (a b : Bool) → (a || b) ≡ true → (a ≡ true) ⊎ (b ≡ true)
either_of true b e = inl refl
either_of false b e = inr e

pub or_first : (a b : Bool) → a ≡ true → (a || b) ≡ true
or_first true b e = refl
or_first false b e = cc

pub or_second : (a b : Bool) → b ≡ true → (a || b) ≡ true
or_second true b e = refl
or_second false b e = e

pub neither : (a b : Bool) → a ≡ false → b ≡ false → (a || b) ≡ false
neither a b e f = (λ i. e i || f i)

-- what an option is
pub told : {A : Type 0} (o : Option A) → (o ≡ None) ⊎ ((x : A) × (o ≡ Some x))
told None = inl refl
told (Some x) = inr (x, refl)

-- a mapped option that is there
pub mapped : {A B : Type 0} (f : A → B) (o : Option A) (n : B) → option_map f o ≡ Some n → (x : A) × (o ≡ Some x) × (f x ≡ n)
mapped f None n e = none_some e
mapped f (Some x) n e = (x, refl, some_same e)

-- what holds of each state that a test leads to holds of the one that it leads to
pub one_way : {S : Type 0} (P : S → Type 0) (b : Bool) (x n : S) → P x → cond b (Some x) None ≡ Some n → P n
one_way P b x n p e = pick_of b x n None e (λ b k. subst P (sym k) p) (λ k. none_some k)

pub two_ways : {S : Type 0} (P : S → Type 0) (b d : Bool) (x y n : S) → P x → P y → cond b (Some x) (cond d (Some y) None) ≡ Some n → P n
two_ways P b d x y n p q e = pick_of b x n (cond d (Some y) None) e (λ b k. subst P (sym k) p) (λ k. one_way P d y n q k)

-- neither of two ways is gone
pub no_way : {S : Type 0} (b d : Bool) (x y : S) → (b || d) ≡ false → cond b (Some x) (cond d (Some y) None) ≡ None
no_way true d x y e = cc
no_way false true x y e = cc
no_way false false x y e = refl

pub neither_way : {S : Type 0} (b d : Bool) (x y : S) → cond b (Some x) (cond d (Some y) None) ≡ None → (b || d) ≡ false
neither_way true d x y e = none_some (sym e)
neither_way false true x y e = none_some (sym e)
neither_way false false x y e = refl

-- and one of them is
pub some_way : {S : Type 0} (b d : Bool) (x y n : S) → cond b (Some x) (cond d (Some y) None) ≡ Some n → (b || d) ≡ true
some_way true d x y n e = refl
some_way false true x y n e = refl
some_way false false x y n e = none_some e

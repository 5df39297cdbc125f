-- Which numbers digits can still make.
use Rattle.std.proofs.Common.{◌≡◌, refl, ℕ, zero, suc, ◌+◌, ◌*◌, ◌<◌, ◌≤◌, Bool, true, false, cond, nat_lt, ◌==◌, ◌&&◌, List, [], ◌∷◌, Some, None, length, ap, arith}
use Rattle.bye_lex.specs.declared.escape.Home.{Home}
use Rattle.bye_lex.specs.declared.escape.Home.TheVariants.{Iri, Text}
use Rattle.bye_lex.specs.declared.escape.EscapeAt.{EscapeAt}
use Rattle.bye_lex.specs.declared.escape.EscapeStep.TheVariants.{Within, Whole}
use Rattle.std.proofs.lemmas.Bool.Decides.{nat_tests}
use Rattle.std.specs.Char.{digit_value}
use Rattle.std.specs.List.{AllByRecursion}
use Rattle.std.specs.Str.{all_scalars}
use Rattle.bye_terms.specs.Characters.{is_iri_char}
use Rattle.bye_terms.proofs.Tests.{both_parts}
use Rattle.bye_lex.specs.Escapes.{is_scalar, IsHex, number}
use Rattle.bye_lex.specs.EscapeSteps.{is_open, is_beyond, may_be, after_digit, step}
use Rattle.bye_lex.proofs.Branches.{unless, and_true}

-- a number past the last character has no digits left
closed_0 : (m : ℕ) → 0x11_0000 ≤ m → is_scalar m ≡ false
closed_0 m h = grind (arith, nat_tests)

closed_1 : (m : ℕ) → 0x11_0000 ≤ m → is_open 1 m ≡ false
closed_1 m h = grind (arith, nat_tests)

closed_2 : (m : ℕ) → 0x11_0000 ≤ m → is_open 2 m ≡ false
closed_2 m h = grind (arith, nat_tests)

not_open : (left m : ℕ) → 0x11_0000 ≤ m → is_open left m ≡ false
not_open zero m h = closed_0 m h
not_open (suc zero) m h = closed_1 m h
not_open (suc (suc zero)) m h = closed_2 m h
not_open (suc (suc (suc zero))) m h = grind (arith, nat_tests)
not_open (suc (suc (suc (suc zero)))) m h = grind (arith, nat_tests)
not_open (suc (suc (suc (suc (suc zero))))) m h = grind (arith, nat_tests)
not_open (suc (suc (suc (suc (suc (suc left)))))) m h = grind (arith, nat_tests)

not_either : (a b : Bool) → a ≡ false → (a && b) ≡ false
not_either true b e = cc
not_either false b e = refl

cannot_be : (home : Home) (left m : ℕ) → is_open left m ≡ false → may_be home left m ≡ false
cannot_be Iri left m e = not_either (is_open left m) (is_beyond left m) e
cannot_be Text left m e = e

stays_closed : (home : Home) (left m : ℕ) → is_open left m ≡ false → after_digit home left m ≡ None
stays_closed home zero m e = unless (may_be home zero m) (Some (Whole m)) None None (cannot_be home zero m e) refl
stays_closed home (suc left) m e = unless (may_be home (suc left) m) (Some (Within (record { left = left; number = m }))) None None (cannot_be home (suc left) m e) refl

pub never_open : (home : Home) (at : EscapeAt) (c : ℕ) → 0x11_0000 ≤ at.number → step home at c ≡ None
never_open home at c h =
    elim (nat_lt (digit_value c) 16) as (λ b. cond b (after_digit home at.left (at.number * 16 + digit_value c)) None ≡ None) [
      | true ↦ stays_closed home at.left (at.number * 16 + digit_value c) (not_open at.left (at.number * 16 + digit_value c) (omega arith))
      | false ↦ refl
    ]

-- what is open after a digit was open before it
up_0 : (m d : ℕ) → d < 16 → is_scalar (m * 16 + d) ≡ true → is_open 1 m ≡ true
up_0 m d h e = grind (arith, nat_tests)

up_1 : (m d : ℕ) → d < 16 → is_open 1 (m * 16 + d) ≡ true → is_open 2 m ≡ true
up_1 m d h e = grind (arith, nat_tests)

up_2 : (m d : ℕ) → d < 16 → is_open 2 (m * 16 + d) ≡ true → is_open 3 m ≡ true
up_2 m d h e = grind (arith, nat_tests)

up_3 : (m d : ℕ) → d < 16 → is_open 3 (m * 16 + d) ≡ true → is_open 4 m ≡ true
up_3 m d h e = grind (arith, nat_tests)

up_4 : (m d : ℕ) → d < 16 → is_open 4 (m * 16 + d) ≡ true → is_open 5 m ≡ true
up_4 m d h e = grind (arith, nat_tests)

up_5 : (m d : ℕ) → d < 16 → is_open 5 (m * 16 + d) ≡ true → (m == 0) ≡ true
up_5 m d h e = grind (arith, nat_tests)

up_6 : (m d : ℕ) → (m * 16 + d == 0) ≡ true → (m == 0) ≡ true
up_6 m d e = grind (arith, nat_tests)

pub up : (left m d : ℕ) → d < 16 → is_open left (m * 16 + d) ≡ true → is_open (suc left) m ≡ true
up zero m d h e = up_0 m d h e
up (suc zero) m d h e = up_1 m d h e
up (suc (suc zero)) m d h e = up_2 m d h e
up (suc (suc (suc zero))) m d h e = up_3 m d h e
up (suc (suc (suc (suc zero)))) m d h e = up_4 m d h e
up (suc (suc (suc (suc (suc zero))))) m d h e = up_5 m d h e
up (suc (suc (suc (suc (suc (suc left)))))) m d h e = up_6 m d e

-- a digit with which the rest stays open
abbrev pub pick : ℕ → ℕ
pick zero = 1
pick (suc zero) = 2
pick (suc (suc left)) = 0

down_0 : (m : ℕ) → is_open 1 m ≡ true → is_scalar (m * 16 + 1) ≡ true
down_0 m e = grind (arith, nat_tests)

down_1 : (m : ℕ) → is_open 2 m ≡ true → is_open 1 (m * 16 + 2) ≡ true
down_1 m e = grind (arith, nat_tests)

down_2 : (m : ℕ) → is_open 3 m ≡ true → is_open 2 (m * 16 + 0) ≡ true
down_2 m e = grind (arith, nat_tests)

down_3 : (m : ℕ) → is_open 4 m ≡ true → is_open 3 (m * 16 + 0) ≡ true
down_3 m e = grind (arith, nat_tests)

down_4 : (m : ℕ) → is_open 5 m ≡ true → is_open 4 (m * 16 + 0) ≡ true
down_4 m e = grind (arith, nat_tests)

down_5 : (m : ℕ) → (m == 0) ≡ true → is_open 5 (m * 16 + 0) ≡ true
down_5 m e = grind (arith, nat_tests)

down_6 : (m : ℕ) → (m == 0) ≡ true → (m * 16 + 0 == 0) ≡ true
down_6 m e = grind (arith, nat_tests)

pub down : (left m : ℕ) → is_open (suc left) m ≡ true → is_open left (m * 16 + pick left) ≡ true
down zero m e = down_0 m e
down (suc zero) m e = down_1 m e
down (suc (suc zero)) m e = down_2 m e
down (suc (suc (suc zero))) m e = down_3 m e
down (suc (suc (suc (suc zero)))) m e = down_4 m e
down (suc (suc (suc (suc (suc zero))))) m e = down_5 m e
down (suc (suc (suc (suc (suc (suc left)))))) m e = down_6 m e

-- the same of a character of an IRI
past_space : (m d : ℕ) → d < 16 → nat_lt 32 (m * 16 + d) ≡ true → nat_lt 1 m ≡ true
past_space m d h e = grind (arith, nat_tests)

beyond_up : (left m d : ℕ) → d < 16 → is_beyond left (m * 16 + d) ≡ true → is_beyond (suc left) m ≡ true
beyond_up zero m d h e = past_space m d h (both_parts _ _ e).0
beyond_up (suc left) m d h e = refl

above_1 : (m : ℕ) → nat_lt 1 m ≡ true → 1 < m
above_1 m e = grind (arith, nat_tests)

iri_char_1 : (m : ℕ) → 1 < m → is_iri_char (m * 16 + 1) ≡ true
iri_char_1 m h = grind (arith, nat_tests)

past_one : (m : ℕ) → nat_lt 1 (m * 16 + 2) ≡ true
past_one m = grind (arith, nat_tests)

beyond_down : (left m : ℕ) → is_beyond (suc left) m ≡ true → is_beyond left (m * 16 + pick left) ≡ true
beyond_down zero m e = iri_char_1 m (above_1 m e)
beyond_down (suc zero) m e = past_one m
beyond_down (suc (suc left)) m e = refl

-- of either home
pub up_by : (home : Home) (left m d : ℕ) → d < 16 → may_be home left (m * 16 + d) ≡ true → may_be home (suc left) m ≡ true
up_by Iri left m d h e = let k = both_parts _ _ e in and_true _ _ (up left m d h k.0) (beyond_up left m d h k.1)
up_by Text left m d h e = up left m d h e

pub down_by : (home : Home) (left m : ℕ) → may_be home (suc left) m ≡ true → may_be home left (m * 16 + pick left) ≡ true
down_by Iri left m e = let k = both_parts _ _ e in and_true _ _ (down left m k.0) (beyond_down left m k.1)
down_by Text left m e = down left m e

pub below : (n : ℕ) → nat_lt n 16 ≡ true → n < 16
below n e = grind (arith, nat_tests)

-- digits that make an allowed character were open before each
pub opens : (home : Home) (ds : List ℕ) (m left : ℕ) → AllByRecursion IsHex ds → length ds ≡ left → may_be home zero (number m ds) ≡ true → may_be home left m ≡ true
opens home [] m zero hex full a = a
opens home [] m (suc left) hex full a = absurd (omega (arith, full))
opens home (d ∷ ds) m zero hex full a = absurd (omega (arith, full))
opens home (d ∷ ds) m (suc left) (h, hex) full a = up_by home left m (digit_value d) (below _ h) (opens home ds (m * 16 + digit_value d) left hex (omega (arith, full)) a)

-- and where it is open there are such digits
pub digits_for : (home : Home) (left n : ℕ) → may_be home left n ≡ true → (ds : List ℕ) × AllByRecursion IsHex ds × (length ds ≡ left) × (may_be home zero (number n ds) ≡ true) × (all_scalars ds ≡ true)
digits_for home zero n e = ([], tt, refl, e, refl)
digits_for home (suc zero) n e = let k = digits_for home zero (n * 16 + 1) (down_by home zero n e) in (49 ∷ k.0, (refl, k.1), ap suc k.2, k.3, k.4)
digits_for home (suc (suc zero)) n e = let k = digits_for home (suc zero) (n * 16 + 2) (down_by home (suc zero) n e) in (50 ∷ k.0, (refl, k.1), ap suc k.2, k.3, k.4)
digits_for home (suc (suc (suc left))) n e = let k = digits_for home (suc (suc left)) (n * 16 + 0) (down_by home (suc (suc left)) n e) in (48 ∷ k.0, (refl, k.1), ap suc k.2, k.3, k.4)

-- Classes of characters.
use Rattle.std.proofs.Common.{◌≡◌, refl, ℕ, ◌<◌, Bool, true, false, not, ◌==◌, ◌&&◌, ◌||◌, arith, sym, ap}
use Rattle.std.proofs.lemmas.Bool.Decides.{nat_tests}
use Rattle.bye_terms.specs.Characters.{within, is_digit, is_name_base, is_name_start}
use Rattle.bye_lex.proofs.Branches.{eqb_same, neither}

-- the range does not reach to digits
above : (a b c : ℕ) → 57 < a → within 48 57 c ≡ true → within a b c ≡ false
above a b c h e = grind (arith, nat_tests)

below : (a b c : ℕ) → b < 48 → within 48 57 c ≡ true → within a b c ≡ false
below a b c h e = grind (arith, nat_tests)

-- a digit is no PN_CHARS_BASE
pub digit_no_base : (c : ℕ) → is_digit c ≡ true → is_name_base c ≡ false
digit_no_base c e =
    neither _ _
    (neither _ _
    (neither _ _ (above 65 90 c (omega arith) e) (above 97 122 c (omega arith) e))
    (neither _ _ (neither _ _ (neither _ _ (neither _ _ (neither _ _ (above 0xC0 0xD6 c (omega arith) e) (above 0xD8 0xF6 c (omega arith) e))
    (above 0xF8 0x2FF c (omega arith) e)) (above 0x370 0x37D c (omega arith) e)) (above 0x37F 0x1FFF c (omega arith) e)) (above 0x200C 0x200D c (omega arith) e)))
    (neither _ _ (neither _ _ (neither _ _ (neither _ _ (neither _ _ (above 0x2070 0x218F c (omega arith) e) (above 0x2C00 0x2FEF c (omega arith) e))
    (above 0x3001 0xD7FF c (omega arith) e)) (above 0xF900 0xFDCF c (omega arith) e)) (above 0xFDF0 0xFFFD c (omega arith) e)) (above 0x10000 0xEFFFF c (omega arith) e))

of_base : (base under digit : Bool) → (under ≡ true → base ≡ false) → (digit ≡ true → base ≡ false) → ((base || under) || digit) && not under && not digit ≡ base
of_base true true digit u d = sym (u refl)
of_base true false true u d = sym (d refl)
of_base true false false u d = refl
of_base false true true u d = refl
of_base false true false u d = refl
of_base false false true u d = refl
of_base false false false u d = refl

pub base_is : (c : ℕ) → is_name_start c && not (c == 95) && not (is_digit c) ≡ is_name_base c
base_is c = of_base (is_name_base c) (c == 95) (is_digit c) (λ e. ap is_name_base (eqb_same c 95 e)) (digit_no_base c)

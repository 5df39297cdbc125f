-- The machine of numbers reads them.
use Rattle.std.proofs.Common.{◌≡◌, refl, ℕ, Bool, true, false, cond, ◌||◌, ◌==◌, List, [], ◌∷◌, Option, Some, None, ◌∙◌, ap, subst, codes, arith}
use Rattle.bye_terms.specs.Characters.{is_digit}
use Rattle.std.proofs.lemmas.Bool.Decides.{nat_tests}
use Rattle.bye_lex.specs.Languages.{Viable}
use Rattle.bye_lex.proofs.Scans.{Exact}
use Rattle.bye_lex.proofs.Branches.{none_some, some_same}
use Rattle.bye_lex.specs.NumberSteps.{unsigned, step, form}
use Rattle.bye_lex.specs.Numbers.{is_sign, is_digits, is_exponent, is_decimal, is_fraction, is_double, is_unsigned, is_number}
use Rattle.bye_lex.specs.declared.number.NumberAt.{NumberAt}
use Rattle.bye_lex.specs.declared.number.NumberAt.TheVariants.{Start, Signed, Whole, Point, Fraction, Exponent, ExponentSign, ExponentDigits}
use Rattle.bye_lex.specs.declared.number.Number.{Number}
use Rattle.bye_lex.specs.declared.number.Number.TheVariants.{Integer, Decimal, Double}
use Rattle.bye_lex.proofs.Accepting.{Left, exact, after as after_step}

-- the texts that complete what was read to a number of the kind
abbrev pub accepts : NumberAt → Number → List ℕ → Bool
accepts Start kind text = is_number kind text
accepts Signed kind text = is_unsigned kind text
accepts Whole Integer text = is_digits false text
accepts Whole Decimal text = is_decimal text
accepts Whole Double text = is_double true text
accepts (Point some) Integer text = false
accepts (Point some) Decimal text = is_digits true text
accepts (Point some) Double text = is_fraction some text
accepts Fraction Integer text = false
accepts Fraction Decimal text = is_digits false text
accepts Fraction Double text = is_fraction true text
accepts Exponent Integer text = false
accepts Exponent Decimal text = false
accepts Exponent Double text = is_exponent text
accepts ExponentSign Integer text = false
accepts ExponentSign Decimal text = false
accepts ExponentSign Double text = is_digits true text
accepts ExponentDigits Integer text = false
accepts ExponentDigits Decimal text = false
accepts ExponentDigits Double text = is_digits false text

abbrev after : Option NumberAt → Number → List ℕ → Bool
after = after_step accepts

-- a state accepts a text exactly where its next state accepts the rest
unsigned_takes : (kind : Number) (c : ℕ) (t : List ℕ) → is_unsigned kind (c ∷ t) ≡ after (unsigned c) kind t
unsigned_takes Integer c t = grind (arith, nat_tests)
unsigned_takes Decimal c t = grind (arith, nat_tests)
unsigned_takes Double c t = grind (arith, nat_tests)

takes : (s : NumberAt) (kind : Number) (c : ℕ) (t : List ℕ) → accepts s kind (c ∷ t) ≡ after (step s c) kind t
takes Start kind c t = grind (arith, nat_tests, unsigned_takes)
takes Signed kind c t = unsigned_takes kind c t
takes Whole Integer c t = grind (arith, nat_tests)
takes Whole Decimal c t = grind (arith, nat_tests)
takes Whole Double c t = grind (arith, nat_tests)
takes (Point true) Integer c t = grind (arith, nat_tests)
takes (Point true) Decimal c t = grind (arith, nat_tests)
takes (Point true) Double c t = grind (arith, nat_tests)
takes (Point false) Integer c t = grind (arith, nat_tests)
takes (Point false) Decimal c t = grind (arith, nat_tests)
takes (Point false) Double c t = grind (arith, nat_tests)
takes Fraction Integer c t = grind (arith, nat_tests)
takes Fraction Decimal c t = grind (arith, nat_tests)
takes Fraction Double c t = grind (arith, nat_tests)
takes Exponent Integer c t = grind (arith, nat_tests)
takes Exponent Decimal c t = grind (arith, nat_tests)
takes Exponent Double c t = grind (arith, nat_tests)
takes ExponentSign Integer c t = grind (arith, nat_tests)
takes ExponentSign Decimal c t = grind (arith, nat_tests)
takes ExponentSign Double c t = grind (arith, nat_tests)
takes ExponentDigits Integer c t = grind (arith, nat_tests)
takes ExponentDigits Decimal c t = grind (arith, nat_tests)
takes ExponentDigits Double c t = grind (arith, nat_tests)

-- what each state still wants
abbrev pub NumberLeft : NumberAt → List ℕ → Number → Type 0
NumberLeft = Left accepts

-- each state can go on
pub can : (s : NumberAt) → Viable (NumberLeft s) []
can Start = record { more = codes "0"; scalars = refl; value = Integer; whole = refl }
can Signed = record { more = codes "0"; scalars = refl; value = Integer; whole = refl }
can Whole = record { more = []; scalars = refl; value = Integer; whole = refl }
can (Point some) = record { more = codes "0"; scalars = refl; value = Decimal; whole = refl }
can Fraction = record { more = []; scalars = refl; value = Decimal; whole = refl }
can Exponent = record { more = codes "0"; scalars = refl; value = Double; whole = refl }
can ExponentSign = record { more = codes "0"; scalars = refl; value = Double; whole = refl }
can ExponentDigits = record { more = []; scalars = refl; value = Double; whole = refl }

ends : (s : NumberAt) (kind : Number) → accepts s kind [] ≡ true → form s ≡ Some kind
ends Start kind h = cc
ends Signed Integer h = cc
ends Signed Decimal h = cc
ends Signed Double h = cc
ends Whole Integer h = refl
ends Whole Decimal h = cc
ends Whole Double h = cc
ends (Point some) Integer h = cc
ends (Point some) Decimal h = cc
ends (Point some) Double h = cc
ends Fraction Integer h = cc
ends Fraction Decimal h = refl
ends Fraction Double h = cc
ends Exponent Integer h = cc
ends Exponent Decimal h = cc
ends Exponent Double h = cc
ends ExponentSign Integer h = cc
ends ExponentSign Decimal h = cc
ends ExponentSign Double h = cc
ends ExponentDigits Integer h = cc
ends ExponentDigits Decimal h = cc
ends ExponentDigits Double h = refl

may_end : (s : NumberAt) (kind : Number) → form s ≡ Some kind → accepts s kind [] ≡ true
may_end Start kind e = none_some e
may_end Signed kind e = none_some e
may_end Whole kind e = subst (λ kind. accepts Whole kind [] ≡ true) (some_same e) refl
may_end (Point some) kind e = none_some e
may_end Fraction kind e = subst (λ kind. accepts Fraction kind [] ≡ true) (some_same e) refl
may_end Exponent kind e = none_some e
may_end ExponentSign kind e = none_some e
may_end ExponentDigits kind e = subst (λ kind. accepts ExponentDigits kind [] ≡ true) (some_same e) refl

pub number_exact : Exact NumberLeft step form
number_exact = exact accepts step form (record { takes = takes; can = can; ends = ends; may_end = may_end })

-- what a number begins with
abbrev pub begins_number : ℕ → Bool
begins_number c = is_sign c || (is_digit c || c == 46)

pub first_number : (kind : Number) (c : ℕ) (t : List ℕ) → is_number kind (c ∷ t) ≡ true → begins_number c ≡ true
first_number kind c t h = let n = number_exact.forth Start c t kind h in go (is_sign c) (is_digit c) (c == 46) n.0 n.1
  where
    go : (s d p : Bool) (n : NumberAt) → cond s (Some Signed) (cond d (Some Whole) (cond p (Some (Point false)) None)) ≡ Some n → (s || (d || p)) ≡ true
    go true d p n e = refl
    go false true p n e = refl
    go false false true n e = refl
    go false false false n e = none_some e

-- a number of one character is a digit
pub one_digit : (kind : Number) (c : ℕ) → is_number kind (c ∷ []) ≡ true → is_digit c ≡ true
one_digit kind c h = let n = number_exact.forth Start c [] kind h in go (is_sign c) (is_digit c) (c == 46) n.0 n.1 (ends n.0 kind n.2)
  where
    go : (s d p : Bool) (n : NumberAt) → cond s (Some Signed) (cond d (Some Whole) (cond p (Some (Point false)) None)) ≡ Some n → form n ≡ Some kind → d ≡ true
    go s true p n e f = refl
    go true false p n e f = none_some (ap form (some_same e) ∙ f)
    go false false true n e f = none_some (ap form (some_same e) ∙ f)
    go false false false n e f = none_some e

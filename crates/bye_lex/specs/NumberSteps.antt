-- The machine of numbers.
use Rattle.std.specs.Prelude.{ℕ, Bool, true, false, cond, ◌==◌, Option, Some, None}
use Rattle.bye_terms.specs.Characters.{is_digit}
use Rattle.bye_lex.specs.Numbers.{is_sign, is_exponent_mark}
use Rattle.bye_lex.specs.declared.number.NumberAt.{NumberAt}
use Rattle.bye_lex.specs.declared.number.NumberAt.TheVariants.{Start, Signed, Whole, Point, Fraction, Exponent, ExponentSign, ExponentDigits}
use Rattle.bye_lex.specs.declared.number.Number.{Number}
use Rattle.bye_lex.specs.declared.number.Number.TheVariants.{Integer, Decimal, Double}

-- after the sign of a number
abbrev pub unsigned : ℕ → Option NumberAt
unsigned c = cond (is_digit c) (Some Whole) (cond (c == 46) (Some (Point false)) None)

-- the mark of an exponent; `some` where a digit stands before it
abbrev pub scaled : Bool → ℕ → Option NumberAt
scaled true c = cond (is_exponent_mark c) (Some Exponent) None
scaled false c = None

-- one character more of a number
abbrev pub step : NumberAt → ℕ → Option NumberAt
step Start c = cond (is_sign c) (Some Signed) (unsigned c)
step Signed c = unsigned c
step Whole c = cond (is_digit c) (Some Whole) (cond (c == 46) (Some (Point true)) (scaled true c))
step (Point some) c = cond (is_digit c) (Some Fraction) (scaled some c)
step Fraction c = cond (is_digit c) (Some Fraction) (scaled true c)
step Exponent c = cond (is_sign c) (Some ExponentSign) (cond (is_digit c) (Some ExponentDigits) None)
step ExponentSign c = cond (is_digit c) (Some ExponentDigits) None
step ExponentDigits c = cond (is_digit c) (Some ExponentDigits) None

-- the kind of what was read, where it is a number
abbrev pub form : NumberAt → Option Number
form Start = None
form Signed = None
form Whole = Some Integer
form (Point some) = None
form Fraction = Some Decimal
form Exponent = None
form ExponentSign = None
form ExponentDigits = Some Double

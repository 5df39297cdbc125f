-- The tokens of numbers (SPARQL 1.1 Query, section 19.8, INTEGER, DECIMAL and DOUBLE with an optional sign). A rule that repeats is
-- written as a recursion on the text.
use Rattle.std.specs.Prelude.{ℕ, Bool, true, false, cond, not, ◌&&◌, ◌||◌, ◌==◌, List, [], ◌∷◌}
use Rattle.bye_terms.specs.Characters.{is_digit}
use Rattle.bye_lex.specs.declared.number.Number.{Number}
use Rattle.bye_lex.specs.declared.number.Number.TheVariants.{Integer, Decimal, Double}

-- the sign before a number or before an exponent
abbrev pub is_sign : ℕ → Bool
is_sign c = c == 43 || c == 45

-- the mark before an exponent
abbrev pub is_exponent_mark : ℕ → Bool
is_exponent_mark c = c == 101 || c == 69

-- digits; `due` where one has to come
abbrev pub is_digits : Bool → List ℕ → Bool
is_digits due [] = not due
is_digits due (c ∷ cs) = is_digit c && is_digits false cs

-- a number without its mark: an optional sign, and digits
abbrev pub is_exponent : List ℕ → Bool
is_exponent [] = false
is_exponent (c ∷ cs) = cond (is_sign c) (is_digits true cs) (is_digits true (c ∷ cs))

-- digits or none, a point, and digits
abbrev pub is_decimal : List ℕ → Bool
is_decimal [] = false
is_decimal (c ∷ cs) = cond (is_digit c) (is_decimal cs) (c == 46 && is_digits true cs)

-- the mark and the exponent after it; `some` where a digit stands before
abbrev pub is_scaled : Bool → List ℕ → Bool
is_scaled some [] = false
is_scaled some (c ∷ cs) = some && is_exponent_mark c && is_exponent cs

-- what a double has after its point: digits or none, the mark and the exponent
abbrev pub is_fraction : Bool → List ℕ → Bool
is_fraction some [] = false
is_fraction some (c ∷ cs) = cond (is_digit c) (is_fraction true cs) (is_scaled some (c ∷ cs))

-- a double without its sign: digits with a point before, among or after them, or without one, then the mark and the exponent
abbrev pub is_double : Bool → List ℕ → Bool
is_double some [] = false
is_double some (c ∷ cs) = cond (is_digit c) (is_double true cs) (cond (c == 46) (is_fraction some cs) (is_scaled some (c ∷ cs)))

-- a number of this kind without its sign
abbrev pub is_unsigned : Number → List ℕ → Bool
is_unsigned Integer text = is_digits true text
is_unsigned Decimal text = is_decimal text
is_unsigned Double text = is_double false text

-- an optional sign, and such a number
abbrev pub is_number : Number → List ℕ → Bool
is_number kind [] = false
is_number kind (c ∷ cs) = cond (is_sign c) (is_unsigned kind cs) (is_unsigned kind (c ∷ cs))

-- The machine of escapes by number: their digits, after the mark.
use Rattle.std.specs.Prelude.{◌≡◌, ℕ, zero, suc, ◌+◌, ◌*◌, Bool, true, cond, nat_lt, ◌&&◌, ◌||◌, ◌==◌, Option, Some, None, ⊤}
use Rattle.std.specs.Char.{digit_value}
use Rattle.bye_terms.specs.Characters.{is_iri_char}
use Rattle.bye_lex.specs.Escapes.{is_scalar}
use Rattle.bye_lex.specs.declared.escape.Home.{Home}
use Rattle.bye_lex.specs.declared.escape.Home.TheVariants.{Iri, Text}
use Rattle.bye_lex.specs.declared.escape.EscapeAt.{EscapeAt}
use Rattle.bye_lex.specs.declared.escape.EscapeStep.{EscapeStep}
use Rattle.bye_lex.specs.declared.escape.EscapeStep.TheVariants.{Within, Whole}

-- whether digits, as many as are left, can follow the number so that a scalar value results
abbrev pub is_open : ℕ → ℕ → Bool
is_open zero n = is_scalar n
is_open (suc zero) n = nat_lt n 0xD80 || (nat_lt 0xDFF n && nat_lt n 0x1_1000)
is_open (suc (suc zero)) n = nat_lt n 0xD8 || (nat_lt 0xDF n && nat_lt n 0x1100)
is_open (suc (suc (suc zero))) n = nat_lt n 0x110
is_open (suc (suc (suc (suc zero)))) n = nat_lt n 0x11
is_open (suc (suc (suc (suc (suc zero))))) n = nat_lt n 2
is_open (suc (suc (suc (suc (suc (suc left)))))) n = n == 0

-- and one that is no control character, where the last digit does not settle more
abbrev pub is_beyond : ℕ → ℕ → Bool
is_beyond zero n = is_iri_char n
is_beyond (suc zero) n = nat_lt 1 n
is_beyond (suc (suc left)) n = true

-- whether digits, as many as are left, can follow the number so that the escape may stand there
abbrev pub may_be : Home → ℕ → ℕ → Bool
may_be Iri left n = is_open left n && is_beyond left n
may_be Text left n = is_open left n

-- after the mark
abbrev pub begin : ℕ → Option EscapeAt
begin c = cond (c == 117) (Some (record { left = 3; number = 0 })) (cond (c == 85) (Some (record { left = 7; number = 0 })) None)

-- after a digit that makes the number n: this many are left
abbrev pub after_digit : Home → ℕ → ℕ → Option EscapeStep
after_digit home zero n = cond (may_be home zero n) (Some (Whole n)) None
after_digit home (suc left) n = cond (may_be home (suc left) n) (Some (Within (record { left = left; number = n }))) None

-- one character more, which is a digit
abbrev pub step : Home → EscapeAt → ℕ → Option EscapeStep
step home e c = cond (nat_lt (digit_value c) 16) (after_digit home e.left (e.number * 16 + digit_value c)) None

-- an escape in an IRI stands for a character of an IRI
abbrev pub IsAllowed : Home → EscapeStep → Type 0
IsAllowed Iri (Within e) = ⊤
IsAllowed Iri (Whole c) = is_iri_char c ≡ true
IsAllowed Text s = ⊤

-- Reading of one opening bracket.
use Rattle.std.specs.Prelude.{ℕ, zero, suc}
use Rattle.bye_tokens.specs.declared.token.Placed.{Placed}
use Rattle.bye_tokens.specs.declared.sign.Sign.{Sign}
use Rattle.bye_parts.specs.Readers.{Reader, read_deep}
use Rattle.bye_grammar.specs.TokenKinds.{of, a_sign}
use Rattle.bye_grammar.specs.Reading.{read_sign}

-- so many brackets may be open in one another
abbrev pub max_open : ℕ
max_open = 64

-- the bracket, where so many may still be opened
unfoldable pub read_open : Sign → ℕ → Reader Placed (Unit {0})
read_open s zero = read_deep (of (a_sign s))
read_open s (suc n) = read_sign s

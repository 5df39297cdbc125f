-- A number for each kind of token: each word and each sign is a kind of its own.
use Rattle.std.specs.Prelude.{ℕ}
use Rattle.bye_tokens.specs.declared.sign.Sign.{Sign}
use Rattle.bye_tokens.specs.declared.sign.Sign.TheVariants as signs
use Rattle.bye_tokens.specs.declared.token.Token.{Token}
use Rattle.bye_tokens.specs.declared.token.Token.TheVariants.{IriRef, Prefixed, Variable, Quoted, Tagged, Numeral, Keyword, Mark, Bad}
use Rattle.bye_tokens.specs.declared.word.Word.{Word}
use Rattle.bye_tokens.specs.declared.word.Word.TheVariants as words

-- 10 and up
abbrev pub word_number : Word → ℕ
word_number words.A = 10
word_number words.Select = 11
word_number words.Distinct = 12
word_number words.Where = 13
word_number words.Prefix = 14
word_number words.Optional = 15
word_number words.Filter = 16
word_number words.Bound = 17
word_number words.SameTerm = 18
word_number words.IsIri = 19
word_number words.IsUri = 20
word_number words.IsBlank = 21
word_number words.IsLiteral = 22
word_number words.True = 23
word_number words.False = 24
word_number words.Ask = 25
word_number words.Construct = 26
word_number words.Describe = 27
word_number words.Base = 28
word_number words.Reduced = 29
word_number words.From = 30
word_number words.Named = 31
word_number words.Union = 32
word_number words.Minus = 33
word_number words.Graph = 34
word_number words.Service = 35
word_number words.Bind = 36
word_number words.Values = 37
word_number words.Exists = 38
word_number words.Not = 39
word_number words.Order = 40
word_number words.Group = 41
word_number words.Having = 42
word_number words.Limit = 43
word_number words.Offset = 44
word_number words.Insert = 45
word_number words.Delete = 46
word_number words.Load = 47
word_number words.Clear = 48
word_number words.Create = 49
word_number words.Drop = 50
word_number words.Copy = 51
word_number words.Move = 52
word_number words.Add = 53
word_number words.With = 54
word_number words.Other = 55

-- 60 and up
abbrev pub sign_number : Sign → ℕ
sign_number signs.OpenGroup = 60
sign_number signs.CloseGroup = 61
sign_number signs.Open = 62
sign_number signs.Close = 63
sign_number signs.Dot = 64
sign_number signs.Semicolon = 65
sign_number signs.Comma = 66
sign_number signs.Carets = 67
sign_number signs.And = 68
sign_number signs.Or = 69
sign_number signs.Bang = 70
sign_number signs.Star = 71
sign_number signs.BlankMark = 72
sign_number signs.OpenSquare = 73
sign_number signs.CloseSquare = 74
sign_number signs.Caret = 75
sign_number signs.Bar = 76
sign_number signs.Slash = 77
sign_number signs.Plus = 78
sign_number signs.Dash = 79
sign_number signs.Question = 80
sign_number signs.Equal = 81
sign_number signs.Differs = 82
sign_number signs.Less = 83
sign_number signs.Greater = 84
sign_number signs.AtMost = 85
sign_number signs.AtLeast = 86

-- the number of a token's kind
abbrev pub kind : Token → ℕ
kind (IriRef text) = 0
kind (Prefixed prefix local) = 1
kind (Variable name) = 2
kind (Quoted text) = 3
kind (Tagged tag) = 4
kind (Numeral number text) = 5
kind (Bad char) = 6
kind (Keyword word) = word_number word
kind (Mark sign) = sign_number sign

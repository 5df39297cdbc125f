-- Kinds of tokens of the program, read as those of the grammar.
use Rattle.bye_descent.specs.declared.token_kind.TokenKind.{TokenKind}
use Rattle.bye_descent.specs.declared.token_kind.TokenKind.TheVariants.{IriRef, Prefixed, Variable, Quoted, Tagged, Keyword, Mark}
use Rattle.bye_grammar.specs.TokenKinds as grammar

-- the kind of the grammar that a kind of the program is
abbrev pub seen : TokenKind → grammar.TokenKind
seen IriRef = grammar.IriRef
seen Prefixed = grammar.Prefixed
seen Variable = grammar.Variable
seen Quoted = grammar.Quoted
seen Tagged = grammar.Tagged
seen (Keyword word) = grammar.Keyword word
seen (Mark sign) = grammar.Mark sign

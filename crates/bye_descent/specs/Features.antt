-- Words and signs that queries leave out.
use Rattle.std.specs.Prelude.{ℕ, List, [], ◌∷◌, Option, Some, None, codes}
use Rattle.bye_tokens.specs.declared.token.Placed.{Placed}
use Rattle.bye_tokens.specs.declared.token.Token.{Token}
use Rattle.bye_tokens.specs.declared.token.Token.TheVariants.{Keyword, Mark}
use Rattle.bye_tokens.specs.declared.word.Word.{Word}
use Rattle.bye_tokens.specs.declared.word.Word.TheVariants as words
use Rattle.bye_tokens.specs.declared.sign.Sign.{Sign}
use Rattle.bye_tokens.specs.declared.sign.Sign.TheVariants as signs
use Rattle.bye_descent.specs.declared.feature.Feature.{Feature}
use Rattle.bye_descent.specs.declared.feature.Feature.TheVariants as features

-- how it is written
abbrev pub feature_text : Feature → List ℕ
feature_text features.Ask = codes "ASK"
feature_text features.Construct = codes "CONSTRUCT"
feature_text features.Describe = codes "DESCRIBE"
feature_text features.Base = codes "BASE"
feature_text features.Reduced = codes "REDUCED"
feature_text features.From = codes "FROM"
feature_text features.Named = codes "NAMED"
feature_text features.Union = codes "UNION"
feature_text features.Minus = codes "MINUS"
feature_text features.Graph = codes "GRAPH"
feature_text features.Service = codes "SERVICE"
feature_text features.Bind = codes "BIND"
feature_text features.Values = codes "VALUES"
feature_text features.Select = codes "SELECT"
feature_text features.Exists = codes "EXISTS"
feature_text features.Not = codes "NOT"
feature_text features.Order = codes "ORDER"
feature_text features.Group = codes "GROUP"
feature_text features.Having = codes "HAVING"
feature_text features.Limit = codes "LIMIT"
feature_text features.Offset = codes "OFFSET"
feature_text features.Insert = codes "INSERT"
feature_text features.Delete = codes "DELETE"
feature_text features.Load = codes "LOAD"
feature_text features.Clear = codes "CLEAR"
feature_text features.Create = codes "CREATE"
feature_text features.Drop = codes "DROP"
feature_text features.Copy = codes "COPY"
feature_text features.Move = codes "MOVE"
feature_text features.Add = codes "ADD"
feature_text features.With = codes "WITH"
feature_text features.BlankNode = codes "_:"
feature_text features.Square = codes "["
feature_text features.Bracket = codes "("
feature_text features.Caret = codes "^"
feature_text features.Bar = codes "|"
feature_text features.Slash = codes "/"
feature_text features.Star = codes "*"
feature_text features.Plus = codes "+"
feature_text features.Dash = codes "-"
feature_text features.Question = codes "?"
feature_text features.Bang = codes "!"
feature_text features.Or = codes "||"
feature_text features.Equal = codes "="
feature_text features.Differs = codes "!="
feature_text features.Less = codes "<"
feature_text features.Greater = codes ">"
feature_text features.AtMost = codes "<="
feature_text features.AtLeast = codes ">="

-- the feature that a word is
abbrev pub word_feature : Word → Option Feature
word_feature words.Ask = Some features.Ask
word_feature words.Construct = Some features.Construct
word_feature words.Describe = Some features.Describe
word_feature words.Base = Some features.Base
word_feature words.Reduced = Some features.Reduced
word_feature words.From = Some features.From
word_feature words.Named = Some features.Named
word_feature words.Union = Some features.Union
word_feature words.Minus = Some features.Minus
word_feature words.Graph = Some features.Graph
word_feature words.Service = Some features.Service
word_feature words.Bind = Some features.Bind
word_feature words.Values = Some features.Values
word_feature words.Select = Some features.Select
word_feature words.Exists = Some features.Exists
word_feature words.Not = Some features.Not
word_feature words.Order = Some features.Order
word_feature words.Group = Some features.Group
word_feature words.Having = Some features.Having
word_feature words.Limit = Some features.Limit
word_feature words.Offset = Some features.Offset
word_feature words.Insert = Some features.Insert
word_feature words.Delete = Some features.Delete
word_feature words.Load = Some features.Load
word_feature words.Clear = Some features.Clear
word_feature words.Create = Some features.Create
word_feature words.Drop = Some features.Drop
word_feature words.Copy = Some features.Copy
word_feature words.Move = Some features.Move
word_feature words.Add = Some features.Add
word_feature words.With = Some features.With
word_feature _ = None

-- the feature that a sign is
abbrev pub sign_feature : Sign → Option Feature
sign_feature signs.BlankMark = Some features.BlankNode
sign_feature signs.OpenSquare = Some features.Square
sign_feature signs.Open = Some features.Bracket
sign_feature signs.Caret = Some features.Caret
sign_feature signs.Bar = Some features.Bar
sign_feature signs.Slash = Some features.Slash
sign_feature signs.Star = Some features.Star
sign_feature signs.Plus = Some features.Plus
sign_feature signs.Dash = Some features.Dash
sign_feature signs.Question = Some features.Question
sign_feature signs.Bang = Some features.Bang
sign_feature signs.Or = Some features.Or
sign_feature signs.Equal = Some features.Equal
sign_feature signs.Differs = Some features.Differs
sign_feature signs.Less = Some features.Less
sign_feature signs.Greater = Some features.Greater
sign_feature signs.AtMost = Some features.AtMost
sign_feature signs.AtLeast = Some features.AtLeast
sign_feature _ = None

-- the feature that a token is, where it is left out
abbrev pub feature : Token → Option Feature
feature (Keyword word) = word_feature word
feature (Mark sign) = sign_feature sign
feature _ = None

-- the same of the next token
abbrev pub next_feature : List Placed → Option Feature
next_feature [] = None
next_feature (t ∷ ts) = feature t.token

-- Signs (SPARQL 1.1 Query, section 19.8).
use Rattle.std.specs.Prelude.{◌≡◌, ℕ, List, codes}
use Rattle.bye_tokens.specs.declared.sign.Sign.{Sign}
use Rattle.bye_tokens.specs.declared.sign.Sign.TheVariants.{OpenGroup, CloseGroup, Open, Close, Dot, Semicolon, Comma, Carets, And, Or, Bang, Star, BlankMark, OpenSquare, CloseSquare, Caret, Bar, Slash, Plus, Dash, Question, Equal, Differs, Less, Greater, AtMost, AtLeast}

-- how a sign is written
abbrev pub sign_text : Sign → List ℕ
sign_text OpenGroup = codes "{"
sign_text CloseGroup = codes "}"
sign_text Open = codes "("
sign_text Close = codes ")"
sign_text Dot = codes "."
sign_text Semicolon = codes ";"
sign_text Comma = codes ","
sign_text Carets = codes "^^"
sign_text And = codes "&&"
sign_text Or = codes "||"
sign_text Bang = codes "!"
sign_text Star = codes "*"
sign_text BlankMark = codes "_:"
sign_text OpenSquare = codes "["
sign_text CloseSquare = codes "]"
sign_text Caret = codes "^"
sign_text Bar = codes "|"
sign_text Slash = codes "/"
sign_text Plus = codes "+"
sign_text Dash = codes "-"
sign_text Question = codes "?"
sign_text Equal = codes "="
sign_text Differs = codes "!="
sign_text Less = codes "<"
sign_text Greater = codes ">"
sign_text AtMost = codes "<="
sign_text AtLeast = codes ">="

-- the text is the sign
abbrev pub SignToken : List ℕ → Sign → Type 0
SignToken text sign = text ≡ sign_text sign

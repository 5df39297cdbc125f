-- What a reader of a token may answer, where the text stands at the place `from` of a document.
use Rattle.std.specs.Prelude.{◌≡◌, ℕ, ◌+◌, List, ◌++◌, length, drop, Result, Ok, Err, ◌≤◌}
use Rattle.std.specs.Str.{encode_utf8_all, chars, IsUtf8}
use Rattle.bye_lex.specs.Languages.{Viable, FaultAfter, Token, NoFront}
use Rattle.bye_lex.specs.declared.fault.LexErr.{LexErr}
use Rattle.bye_lex.specs.declared.fault.LexErr.TheVariants.{NoToken, Cut, Memory}

-- the place is a border of characters within the bytes
abbrev pub IsBorder : List ℕ → ℕ → Type 0
IsBorder bytes from = (from ≤ length bytes) × IsUtf8 (drop from bytes)

-- the characters from the place on
abbrev pub text_at : List ℕ → ℕ → List ℕ
text_at bytes from = chars (drop from bytes)

-- the place in bytes after this front of the text
abbrev pub place_after : ℕ → List ℕ → ℕ
place_after from front = from + length (encode_utf8_all front)

-- the longest token stands there, with this value, and the place is the one after it
pub record IsFound {V : Type 0} (L : List ℕ → V → Type 0) (text : List ℕ) (from : ℕ) (value : V) (place : ℕ) : Type 0 where
  pub token : List ℕ
  pub rest : List ℕ
  pub parts : text ≡ token ++ rest
  pub is : Token L token rest value
  pub at : place ≡ place_after from token

-- no token stands there, and the place is that of the first character at which no continuation is a token
pub record IsFault {V : Type 0} (L : List ℕ → V → Type 0) (text : List ℕ) (from place : ℕ) : Type 0 where
  pub front : List ℕ
  pub fault : FaultAfter L text front
  pub none : NoFront L text
  pub at : place ≡ place_after from front

-- no token stands there, and some continuation of the text is a token
pub record IsCut {V : Type 0} (L : List ℕ → V → Type 0) (text : List ℕ) : Type 0 where
  pub viable : Viable L text
  pub none : NoFront L text

-- what a reader of the rule may answer at a place
abbrev pub Reads : {V : Type 0} → (List ℕ → V → Type 0) → List ℕ → ℕ → Result (V × ℕ) LexErr → Type 0
Reads L text from (Ok r) = IsFound L text from r.0 r.1
Reads L text from (Err (NoToken place)) = IsFault L text from place
Reads L text from (Err Cut) = IsCut L text
Reads L text from (Err Memory) = Unit {0}

-- Where bytes stop being the front of a document of a rule. The rule is one of texts, and the bytes are their UTF-8.
use Rattle.std.specs.Prelude.{◌≡◌, ◌<◌, ℕ, true, List, [], ◌∷◌, ◌++◌, length}
use Rattle.std.specs.Str.{encode_utf8_all, all_scalars}
use Rattle.bye_lex.specs.Languages.{Viable}
use Rattle.bye_lex.specs.Utf8.{NoCharacter}

-- the text of whole characters at the front of the bytes can go on to a document, and with the next character it cannot
pub record StopsAt {V : Type 0} (L : List ℕ → V → Type 0) (bytes : List ℕ) (place : ℕ) : Type 0 where
  pub front : List ℕ
  pub next : ℕ
  pub rest : List ℕ
  pub parts : bytes ≡ encode_utf8_all (front ++ next ∷ []) ++ rest
  pub scalars : all_scalars (front ++ next ∷ []) ≡ true
  pub before : Viable L front
  pub after : Viable L (front ++ next ∷ []) → ⊥
  pub at : place ≡ length (encode_utf8_all front)

-- the text can go on to a document, and is none
pub record StopsAtEnd {V : Type 0} (L : List ℕ → V → Type 0) (bytes : List ℕ) (place : ℕ) : Type 0 where
  pub text : List ℕ
  pub scalars : all_scalars text ≡ true
  pub encoded : bytes ≡ encode_utf8_all text
  pub viable : Viable L text
  pub none : (value : V) → L text value → ⊥
  pub at : place ≡ length bytes

-- the characters at the front can go on to a document, and what is left over after them is no character
pub record LeavesOver {V : Type 0} (L : List ℕ → V → Type 0) (bytes : List ℕ) (place : ℕ) : Type 0 where
  pub front : List ℕ
  pub left : List ℕ
  pub parts : bytes ≡ encode_utf8_all front ++ left
  pub scalars : all_scalars front ≡ true
  pub viable : Viable L front
  pub some : 0 < length left
  pub none : NoCharacter left
  pub at : place ≡ length (encode_utf8_all front)

-- Bytes that end within a character, in UTF-8 (RFC 3629, section 4).
use Rattle.std.specs.Prelude.{◌≡◌, ℕ, List, ◌∷◌, ◌++◌, true}
use Rattle.std.specs.Char.{IsScalar, encode_utf8}
use Rattle.bye_terms.specs.Characters.{is_label_part}

-- the bytes are the beginning of the UTF-8 of a character, and not all of it (RFC 3629, section 4)
pub record BeginsCharacter (bytes : List ℕ) : Type 0 where
  pub char : ℕ
  pub scalar : IsScalar char
  pub next : ℕ
  pub more : List ℕ
  pub is : encode_utf8 char ≡ bytes ++ next ∷ more

-- no character stands whole at the front of the bytes
abbrev pub NoCharacter : List ℕ → Type 0
NoCharacter bytes = (c : ℕ) (rest : List ℕ) → IsScalar c → bytes ≡ encode_utf8 c ++ rest → ⊥

-- some character that may stand within a label begins with the bytes, and has more of them
pub record BeginsLabelPart (bytes : List ℕ) : Type 0 where
  pub begins : BeginsCharacter bytes
  pub part : is_label_part begins.char ≡ true

-- the UTF-8 of the character begins with the bytes, and has more of them
pub record HasMore (char : ℕ) (bytes : List ℕ) : Type 0 where
  pub next : ℕ
  pub more : List ℕ
  pub is : encode_utf8 char ≡ bytes ++ next ∷ more

-- the number is that of a character that may stand within a label, and that begins with the bytes and has more of them
pub record IsLabelPartFrom (char : ℕ) (bytes : List ℕ) : Type 0 where
  pub scalar : IsScalar char
  pub part : is_label_part char ≡ true
  pub more : HasMore char bytes

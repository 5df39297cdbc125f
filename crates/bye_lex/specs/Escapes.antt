-- Escapes of characters by their numbers: UCHAR (RDF 1.1 N-Triples, section 7).
use Rattle.std.specs.Prelude.{◌≡◌, ℕ, ◌+◌, ◌*◌, Bool, true, nat_lt, ◌&&◌, ◌||◌, List, [], ◌∷◌, length}
use Rattle.std.specs.Char.{digit_value}
use Rattle.std.specs.List.{AllByRecursion}

-- a Unicode scalar value: no surrogate, and none above 10FFFF
abbrev pub is_scalar : ℕ → Bool
is_scalar c = nat_lt c 0xD800 || (nat_lt 0xDFFF c && nat_lt c 0x11_0000)

-- HEX
abbrev pub IsHex : ℕ → Type 0
IsHex c = nat_lt (digit_value c) 16 ≡ true

-- the number that the digits make, after the number n
abbrev pub number : ℕ → List ℕ → ℕ
number n [] = n
number n (d ∷ ds) = number (n * 16 + digit_value d) ds

-- a character, and the text that it is spelled with
pub record Piece : Type 0 where
  pub text : List ℕ
  pub char : ℕ

-- the character stands for itself
pub record IsRaw (p : Piece) : Type 0 where
  pub text : p.text ≡ p.char ∷ []

-- a backslash, the mark, and so many digits, which make the number of the character
pub record IsEscape (p : Piece) (mark count : ℕ) : Type 0 where
  pub digits : List ℕ
  pub text : p.text ≡ 92 ∷ mark ∷ digits
  pub hex : AllByRecursion IsHex digits
  pub full : length digits ≡ count
  pub char : p.char ≡ number 0 digits
  pub scalar : is_scalar p.char ≡ true

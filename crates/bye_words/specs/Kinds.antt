-- What the value of a name has to be.
use Rattle.std.specs.Prelude.{◌≡◌, ℕ, ◌<◌, ◌≤◌, Bool, ◌||◌, ◌==◌, List, ⊤, length, get_or, IsTrue}
use Rattle.std.specs.Fmt.{decimal}
use Rattle.std.specs.List.{list_all}
use Rattle.bye_terms.specs.Characters.{is_letter_or_digit, within}
use Rattle.bye_terms.specs.Members.{In}
use Rattle.bye_words.specs.Pairs.{Word}

-- the kinds of values
pub data Kind : Type 0 where
  File : Kind
  OneOf : List Word → Kind
  Number : ℕ → ℕ → Kind
  Host : Kind
  Path : Kind
  Session : Kind

-- the word is the decimal digits of a number from one to the other, without sign and leading zero
pub record IsNumber (least greatest : ℕ) (word : Word) : Type 0 where
  pub number : ℕ
  pub digits : word ≡ decimal number
  pub low : least ≤ number
  pub high : number ≤ greatest

-- the characters of a host: letters, digits, `-` and `.`
abbrev pub is_host_char : ℕ → Bool
is_host_char c = is_letter_or_digit c || c == 45 || c == 46

-- the characters of a path: U+0021 to U+007E
abbrev pub is_path_char : ℕ → Bool
is_path_char c = within 0x21 0x7E c

-- the characters of a session's name: letters, digits, `-`, `.` and `_`
abbrev pub is_session_char : ℕ → Bool
is_session_char c = is_host_char c || c == 95

-- the word is at least one of these characters, and at most so many
pub record IsRun (is_part : ℕ → Bool) (most : ℕ) (word : Word) : Type 0 where
  pub each : IsTrue (list_all is_part word)
  pub some : 0 < length word
  pub short : length word ≤ most

-- the word is a path: it begins with `/`
pub record IsPath (word : Word) : Type 0 where
  pub run : IsRun is_path_char 4096 word
  pub slash : get_or word 0 0 ≡ 47

-- the word is a value of the kind
abbrev pub IsOfKind : Kind → Word → Type 0
IsOfKind File word = ⊤
IsOfKind (OneOf words) word = In words word
IsOfKind (Number least greatest) word = IsNumber least greatest word
IsOfKind Host word = IsRun is_host_char 255 word
IsOfKind Path word = IsPath word
IsOfKind Session word = IsRun is_session_char 64 word

-- Classes of characters (SPARQL 1.1 Query, section 19.8).
use Rattle.std.specs.Prelude.{ℕ, Bool, ◌||◌, ◌==◌}
use Rattle.bye_terms.specs.Characters.{within, is_letter_or_digit, is_digit, is_name_part}

-- WS
abbrev pub is_space : ℕ → Bool
is_space c = c == 32 || c == 9 || c == 10 || c == 13

-- what ends a comment: LF or CR
abbrev pub is_line_end : ℕ → Bool
is_line_end c = c == 10 || c == 13

-- the mark before a variable: ? or $
abbrev pub is_mark : ℕ → Bool
is_mark c = c == 63 || c == 36

-- a later character of a word: a letter, a digit or the underscore, all of ASCII
abbrev pub is_word_part : ℕ → Bool
is_word_part c = is_letter_or_digit c || c == 95

-- PN_CHARS
abbrev pub is_prefix_part : ℕ → Bool
is_prefix_part c = is_name_part c || c == 45

-- HEX
abbrev pub is_hex : ℕ → Bool
is_hex c = is_digit c || within 65 70 c || within 97 102 c

-- what may stand after the backslash of PN_LOCAL_ESC: one of _ ~ . - ! $ & ' ( ) * + , ; = / ? # @ %
abbrev pub may_be_escaped : ℕ → Bool
may_be_escaped c =
    c == 95 || c == 126 || c == 46 || c == 45 || c == 33 || c == 36 || c == 38 || c == 39 || c == 40 || c == 41
    || c == 42 || c == 43 || c == 44 || c == 59 || c == 61 || c == 47 || c == 63 || c == 35 || c == 64 || c == 37

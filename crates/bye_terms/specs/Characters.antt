-- Classes of characters, of the N-Triples grammar (RDF 1.1 N-Triples, section 7, "Grammar") and of IRIs (RFC 3986, section 3.1, for the scheme).
use Rattle.std.specs.Prelude.{ℕ, Bool, ◌&&◌, ◌||◌, not, nat_le, nat_lt, ◌==◌}

-- the character lies between the two, both included
abbrev pub within : ℕ → ℕ → ℕ → Bool
within low high c = nat_le low c && nat_le c high

-- a letter of ASCII
abbrev pub is_letter : ℕ → Bool
is_letter c = within 65 90 c || within 97 122 c

-- a digit of ASCII
abbrev pub is_digit : ℕ → Bool
is_digit c = within 48 57 c

-- a letter or a digit of ASCII
abbrev pub is_letter_or_digit : ℕ → Bool
is_letter_or_digit c = is_letter c || is_digit c

-- a character of a scheme after its first letter
abbrev pub is_scheme_char : ℕ → Bool
is_scheme_char c = is_letter c || is_digit c || c == 43 || c == 46 || c == 45

-- a character that stands raw in an IRIREF: any but U+0000 to U+0020, < > " { } | ^ ` and \
abbrev pub is_iri_char : ℕ → Bool
is_iri_char c = nat_lt 32 c && not (c == 60 || c == 62 || c == 34 || c == 123 || c == 125 || c == 124 || c == 94 || c == 96 || c == 92)

-- the lower ranges of PN_CHARS_BASE beyond ASCII
abbrev pub is_low_base : ℕ → Bool
is_low_base c = within 0xC0 0xD6 c || within 0xD8 0xF6 c || within 0xF8 0x2FF c || within 0x370 0x37D c || within 0x37F 0x1FFF c || within 0x200C 0x200D c

-- its higher ranges
abbrev pub is_high_base : ℕ → Bool
is_high_base c = within 0x2070 0x218F c || within 0x2C00 0x2FEF c || within 0x3001 0xD7FF c || within 0xF900 0xFDCF c || within 0xFDF0 0xFFFD c || within 0x10000 0xEFFFF c

-- PN_CHARS_BASE
abbrev pub is_name_base : ℕ → Bool
is_name_base c = is_letter c || is_low_base c || is_high_base c

-- the characters that PN_CHARS adds to the first ones and to digits, but for the hyphen
abbrev pub is_name_mark : ℕ → Bool
is_name_mark c = c == 0xB7 || within 0x300 0x36F c || within 0x203F 0x2040 c

-- the first character of a variable's name: PN_CHARS_BASE, the underscore or a digit
abbrev pub is_name_start : ℕ → Bool
is_name_start c = is_name_base c || c == 95 || is_digit c

-- a later character of a variable's name
abbrev pub is_name_part : ℕ → Bool
is_name_part c = is_name_start c || is_name_mark c

-- the first character of a blank node's label: as of a name, or a colon
abbrev pub is_label_start : ℕ → Bool
is_label_start c = is_name_start c || c == 58

-- a later character of a label that may also end it: PN_CHARS or a colon
abbrev pub is_label_part : ℕ → Bool
is_label_part c = is_label_start c || c == 45 || is_name_mark c

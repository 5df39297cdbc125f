-- The tokens of strings: STRING_LITERAL_QUOTE (RDF 1.1 N-Triples, section 7), the strings of a TSV document, in either quote and
-- without raw TAB (SPARQL 1.1 Query Results CSV and TSV Formats, section 4), and the four kinds of SPARQL 1.1 Query, section 19.8,
-- which have no escapes by numbers.
use Rattle.std.specs.Prelude.{◌≡◌, ◌≤◌, ℕ, Bool, true, false, cond, not, ◌==◌, ◌&&◌, ◌||◌, List, [], ◌∷◌, ◌++◌, Option, Some, None, ◌⊎◌, replicate}
use Rattle.std.specs.List.{flat_map, AllByRecursion}
use Rattle.bye_lex.specs.Escapes.{Piece, IsRaw, IsEscape}
use Rattle.bye_lex.specs.Iris.{has_numbers}
use Rattle.bye_lex.specs.declared.style.Style.{Style}
use Rattle.bye_lex.specs.declared.style.Style.TheVariants.{Triples, Tsv, Query}
use Rattle.bye_lex.specs.declared.quoting.Quote.{Quote}
use Rattle.bye_lex.specs.declared.quoting.Quote.TheVariants.{Double, Single}
use Rattle.bye_lex.specs.declared.quoting.Quoting.{Quoting}
use Rattle.bye_lex.specs.declared.quoting.Quoting.TheVariants.{Short, Long}

abbrev pub mark_of : Quote → ℕ
mark_of Double = 34
mark_of Single = 39

-- what stands before and after a string: its quote, or that three times
abbrev pub around : Quoting → List ℕ
around (Short quote) = mark_of quote ∷ []
around (Long quote) = mark_of quote ∷ mark_of quote ∷ mark_of quote ∷ []

-- the kinds of strings that a style has
abbrev pub has_quoting : Style → Quoting → Bool
has_quoting Triples (Short Double) = true
has_quoting Triples (Short Single) = false
has_quoting Triples (Long quote) = false
has_quoting Tsv (Short quote) = true
has_quoting Tsv (Long quote) = false
has_quoting Query quoting = true

abbrev pub is_tsv : Style → Bool
is_tsv Triples = false
is_tsv Tsv = true
is_tsv Query = false

-- a character that stands raw: none is the quote or a backslash, in a short string none is LF or CR, and in TSV none is TAB
abbrev pub may_stand : Style → Quoting → ℕ → Bool
may_stand style (Short quote) c = not (c == mark_of quote || c == 92 || c == 10 || c == 13 || (is_tsv style && c == 9))
may_stand style (Long quote) c = not (c == mark_of quote || c == 92)

-- the character that ECHAR stands for, by the mark after its backslash
abbrev pub named : ℕ → Option ℕ
named c =
    cond (c == 116) (Some 9) (cond (c == 98) (Some 8) (cond (c == 110) (Some 10) (cond (c == 114) (Some 13)
    (cond (c == 102) (Some 12) (cond (c == 34) (Some 34) (cond (c == 39) (Some 39) (cond (c == 92) (Some 92) None)))))))

-- ECHAR
pub record IsNamed (p : Piece) : Type 0 where
  pub mark : ℕ
  pub text : p.text ≡ 92 ∷ mark ∷ []
  pub char : named mark ≡ Some p.char

-- a character of a string
abbrev pub IsStringPiece : Style → Quoting → Piece → Type 0
IsStringPiece style quoting p = (IsRaw p × (may_stand style quoting p.char ≡ true)) ⊎ (IsNamed p ⊎ ((has_numbers style ≡ true) × (IsEscape p 117 4 ⊎ IsEscape p 85 8)))

-- in a long string, one or two quotes may stand before a character
pub record Group : Type 0 where
  pub quotes : ℕ
  pub piece : Piece

abbrev pub may_precede : Quoting → ℕ → Type 0
may_precede (Short quote) n = n ≡ 0
may_precede (Long quote) n = n ≤ 2

abbrev pub quote_of : Quoting → ℕ
quote_of (Short quote) = mark_of quote
quote_of (Long quote) = mark_of quote

abbrev pub IsGroup : Style → Quoting → Group → Type 0
IsGroup style quoting g = may_precede quoting g.quotes × IsStringPiece style quoting g.piece

abbrev pub group_text : Quoting → Group → List ℕ
group_text quoting g = replicate g.quotes (quote_of quoting) ++ g.piece.text

abbrev pub group_value : Quoting → Group → List ℕ
group_value quoting g = replicate g.quotes (quote_of quoting) ++ g.piece.char ∷ []

-- characters, and what closes the string
pub record StringTail (style : Style) (quoting : Quoting) (text value : List ℕ) : Type 0 where
  pub groups : List Group
  pub each : AllByRecursion (IsGroup style quoting) groups
  pub spelled : text ≡ flat_map (group_text quoting) groups ++ around quoting
  pub stands : value ≡ flat_map (group_value quoting) groups

-- the text is a string with what is around it, and stands for the value
pub record StringToken (style : Style) (text value : List ℕ) : Type 0 where
  pub quoting : Quoting
  pub has : has_quoting style quoting ≡ true
  pub tail : List ℕ
  pub after : StringTail style quoting tail value
  pub spelled : text ≡ around quoting ++ tail

-- A spelling as the pieces that are still to be compared.
use Rattle.std.specs.Prelude.{ℕ, List, ◌++◌}
use Rattle.bye_terms.specs.Spellings.{escaped}
use Rattle.bye_terms.specs.declared.spelling.Spelling.{Spelling}

-- the bytes that are left, the lexical form with its escapes
abbrev pub left_of : Spelling → List ℕ
left_of s = s.head.now ++ escaped s.lexical.now ++ s.middle.now ++ s.text.now ++ s.last.now

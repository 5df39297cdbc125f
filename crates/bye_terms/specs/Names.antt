-- The texts that are IRIs, labels of blank nodes, language tags and names of variables, each by its rule of the grammar
-- (RDF 1.1 N-Triples, section 7; SPARQL 1.1 Query, section 19.8). A rule that repeats is written as a recursion on the text.
use Rattle.std.specs.Prelude.{ℕ, Bool, true, false, ◌&&◌, ◌||◌, not, ◌==◌, List, [], ◌∷◌}
use Rattle.std.specs.List.{list_all}
use Rattle.bye_terms.specs.Characters.{is_letter, is_letter_or_digit, is_scheme_char, is_iri_char, is_name_start, is_name_part, is_label_start, is_label_part}

-- after a scheme's first letter: the rest of the scheme, its colon, and then characters of an IRI
abbrev pub is_after_letter : List ℕ → Bool
is_after_letter [] = false
is_after_letter (c ∷ cs) = (c == 58 && list_all is_iri_char cs) || (is_scheme_char c && is_after_letter cs)

-- an absolute IRI without its brackets: a scheme, a colon and characters of an IRI
abbrev pub is_iri : List ℕ → Bool
is_iri [] = false
is_iri (c ∷ cs) = is_letter c && is_after_letter cs

-- the rest of a label; `due` where a dot stands before it, so that it may not end here
abbrev pub is_label_rest : Bool → List ℕ → Bool
is_label_rest due [] = not due
is_label_rest due (c ∷ cs) = (is_label_part c && is_label_rest false cs) || (c == 46 && is_label_rest true cs)

-- BLANK_NODE_LABEL without its `_:`: it begins with a start, and dots stand within it alone
abbrev pub is_label : List ℕ → Bool
is_label [] = false
is_label (c ∷ cs) = is_label_start c && is_label_rest false cs

-- the subtags after a tag's first hyphen; `due` where a hyphen stands before it, so that a character has to follow
abbrev pub is_subtags : Bool → List ℕ → Bool
is_subtags due [] = not due
is_subtags due (c ∷ cs) = (is_letter_or_digit c && is_subtags false cs) || (c == 45 && not due && is_subtags true cs)

-- the rest of a tag after a letter of its first subtag
abbrev pub is_tag_rest : List ℕ → Bool
is_tag_rest [] = true
is_tag_rest (c ∷ cs) = (is_letter c && is_tag_rest cs) || (c == 45 && is_subtags true cs)

-- LANGTAG without its `@`: letters, and then subtags of letters and digits, each after a hyphen
abbrev pub is_tag : List ℕ → Bool
is_tag [] = false
is_tag (c ∷ cs) = is_letter c && is_tag_rest cs

-- VARNAME
abbrev pub is_name : List ℕ → Bool
is_name [] = false
is_name (c ∷ cs) = is_name_start c && list_all is_name_part cs

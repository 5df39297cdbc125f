-- Texts that tokens are made of.
use Rattle.std.specs.Prelude.{ℕ, Bool, true, false, ◌==◌, ◌&&◌, ◌||◌, List, [], ◌∷◌}
use Rattle.std.specs.List.{list_all}
use Rattle.bye_terms.specs.Characters.{is_letter, is_scheme_char}
use Rattle.bye_terms.specs.Names.{is_subtags}

-- a scheme (RFC 3986, section 3.1)
abbrev pub is_scheme : List ℕ → Bool
is_scheme [] = false
is_scheme (c ∷ cs) = is_letter c && list_all is_scheme_char cs

abbrev pub are_dots : List ℕ → Bool
are_dots = list_all (λ c. c == 46)

-- letters, and one subtag or more
abbrev pub has_subtags : List ℕ → Bool
has_subtags [] = false
has_subtags (c ∷ cs) = (is_letter c && has_subtags cs) || (c == 45 && is_subtags true cs)

-- a tag with one subtag or more
abbrev pub is_subtagged : List ℕ → Bool
is_subtagged [] = false
is_subtagged (c ∷ cs) = is_letter c && has_subtags cs

-- Prefixed names (SPARQL 1.1 Query, section 19.8). A rule that repeats is written as a recursion on the text.
use Rattle.std.specs.Prelude.{◌≡◌, ℕ, Bool, true, false, cond, not, ◌&&◌, ◌==◌, List, [], ◌∷◌, ◌++◌}
use Rattle.bye_terms.specs.Characters.{is_name_base, is_label_start, is_label_part}
use Rattle.bye_tokens.specs.Classes.{is_prefix_part, is_hex, may_be_escaped}

-- the rest of a prefix; `due` where a dot stands before it, so that it may not end here
abbrev pub is_prefix_rest : Bool → List ℕ → Bool
is_prefix_rest due [] = not due
is_prefix_rest due (c ∷ cs) = cond (is_prefix_part c) (is_prefix_rest false cs) (c == 46 && is_prefix_rest true cs)

-- PN_PREFIX, or nothing
abbrev pub is_prefix : List ℕ → Bool
is_prefix [] = true
is_prefix (c ∷ cs) = is_name_base c && is_prefix_rest false cs

abbrev mutual
  -- the rest of a local part: PN_CHARS, colons, dots, and PLX; `due` where a dot stands before it, so that it may not end here
  pub is_local_rest : Bool → List ℕ → Bool
  is_local_rest due [] = not due
  is_local_rest due (c ∷ cs) = cond (is_label_part c) (is_local_rest false cs) (cond (c == 46) (is_local_rest true cs) (cond (c == 37) (is_percent cs) (c == 92 && is_escape cs)))

  -- the rest after a percent sign: two of HEX have to come
  pub is_percent : List ℕ → Bool
  is_percent [] = false
  is_percent (c ∷ cs) = is_hex c && is_last_hex cs

  -- the rest after the first of the two
  pub is_last_hex : List ℕ → Bool
  is_last_hex [] = false
  is_last_hex (c ∷ cs) = is_hex c && is_local_rest false cs

  -- the rest after a backslash
  pub is_escape : List ℕ → Bool
  is_escape [] = false
  is_escape (c ∷ cs) = may_be_escaped c && is_local_rest false cs

-- PN_LOCAL, or nothing: it begins with PN_CHARS_U, a colon, a digit or PLX
abbrev pub is_local : List ℕ → Bool
is_local [] = true
is_local (c ∷ cs) = cond (is_label_start c) (is_local_rest false cs) (cond (c == 37) (is_percent cs) (c == 92 && is_escape cs))

-- a local part without the backslashes of its escapes, which are all that it has; its percent signs are kept
abbrev pub unescaped : List ℕ → List ℕ
unescaped [] = []
unescaped (c ∷ cs) = cond (c == 92) (unescaped cs) (c ∷ unescaped cs)

-- PNAME_NS or PNAME_LN: a prefix, a colon and a local part, with the prefix and the local part that they stand for
pub record PrefixedToken (text : List ℕ) (value : List ℕ × List ℕ) : Type 0 where
  pub local : List ℕ
  pub spelled : text ≡ value.0 ++ 58 ∷ local
  pub prefix : is_prefix value.0 ≡ true
  pub is : is_local local ≡ true
  pub stands : value.1 ≡ unescaped local

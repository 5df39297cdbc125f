-- The tokens that stand for themselves, but for the mark before them: labels of blank nodes and language tags (RDF 1.1
-- N-Triples, section 7), and names of variables (SPARQL 1.1 Query, section 19.8, VARNAME).
use Rattle.std.specs.Prelude.{◌≡◌, ℕ, true, List, ◌∷◌}
use Rattle.bye_terms.specs.Names.{is_label, is_tag, is_name}

-- BLANK_NODE_LABEL: `_:` and the label
abbrev pub LabelToken : List ℕ → List ℕ → Type 0
LabelToken text value = (text ≡ 95 ∷ 58 ∷ value) × (is_label value ≡ true)

-- LANGTAG: `@` and the tag
abbrev pub TagToken : List ℕ → List ℕ → Type 0
TagToken text value = (text ≡ 64 ∷ value) × (is_tag value ≡ true)

-- VARNAME
abbrev pub NameToken : List ℕ → List ℕ → Type 0
NameToken text value = (text ≡ value) × (is_name value ≡ true)

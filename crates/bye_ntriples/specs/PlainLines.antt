-- Lines whose tokens have no escapes, read from the front. Each word gives what is read and the rest of the text, and None where the
-- text does not begin so. A label and a tag end before a space or a line's end.
use Rattle.std.specs.Prelude.{ℕ, Bool, cond, ◌||◌, List, [], ◌∷◌, Option, Some, None}
use Rattle.std.specs.List.{list_all}
use Rattle.bye_terms.specs.Literals.{is_lang_string}
use Rattle.bye_terms.specs.Names.{is_label, is_tag}
use Rattle.bye_terms.specs.Reading.{◌>>=◌, after_at, until_at, iri_at}
use Rattle.bye_terms.specs.Terms.{Statement}
use Rattle.bye_terms.specs.declared.term.Term.{Term}
use Rattle.bye_terms.specs.declared.term.Term.TheVariants.{Iri, Blank}
use Rattle.bye_lex.specs.Strings.{may_stand}
use Rattle.bye_lex.specs.declared.quoting.Quote.TheVariants.{Double}
use Rattle.bye_lex.specs.declared.quoting.Quoting.TheVariants.{Short}
use Rattle.bye_lex.specs.declared.style.Style.TheVariants.{Triples}
use Rattle.bye_ntriples.specs.Lines.{is_space, is_line_end}
use Rattle.bye_ntriples.specs.Triples.{triple_of, string_of, tagged_of, typed_of}

-- what is read of the rest, where there is one, and else the other
abbrev pub read_or : {A : Type 0} → Option (List ℕ) → (List ℕ → Option A) → Option A → Option A
read_or None read other = other
read_or (Some rest) read other = read rest

-- the text after its spaces and TABs
abbrev pub after_spaces : List ℕ → List ℕ
after_spaces [] = []
after_spaces (c ∷ text) = cond (is_space c) (after_spaces text) (c ∷ text)

-- what stands before the first space or line end, and the rest from there on
abbrev pub word : List ℕ → List ℕ × List ℕ
word [] = ([], [])
word (c ∷ text) = cond (is_space c || is_line_end c) ([], c ∷ text) (c ∷ (word text).0, (word text).1)

-- the text, where it is a label, and where it is a tag
abbrev pub as_label : List ℕ → Option (List ℕ)
as_label text = cond (is_label text) (Some text) None

abbrev pub as_tag : List ℕ → Option (List ℕ)
as_tag text = cond (is_tag text) (Some text) None

-- a label, after its underscore
unfoldable pub label : List ℕ → Option (List ℕ × List ℕ)
label text = do
  inner ← after_at 58 text
  label ← as_label (word inner).0
  Some (label, (word inner).1)

abbrev pub blank_node : Option (List ℕ × List ℕ) → Option (Term × List ℕ)
blank_node None = None
blank_node (Some r) = Some (Blank r.0, r.1)

abbrev pub iri_node : Option (List ℕ × List ℕ) → Option (Term × List ℕ)
iri_node None = None
iri_node (Some r) = Some (Iri r.0, r.1)

-- a subject
abbrev pub subject : List ℕ → Option (Term × List ℕ)
subject text = read_or (after_at 95 text) (λ rest. blank_node (label rest)) (iri_node (iri_at text))

-- a character that stands for itself in a string
abbrev pub is_plain : ℕ → Bool
is_plain c = may_stand Triples (Short Double) c

abbrev pub as_plain : List ℕ → Option (List ℕ)
as_plain text = cond (list_all is_plain text) (Some text) None

-- a tag, after its mark
unfoldable pub tagged : List ℕ → List ℕ → Option (Term × List ℕ)
tagged lexical text = do
  tag ← as_tag (word text).0
  Some (tagged_of lexical tag, (word text).1)

abbrev pub as_typed : List ℕ → List ℕ → Option Term
as_typed lexical datatype = cond (is_lang_string datatype) None (Some (typed_of lexical datatype))

-- a datatype, after the first of its marks
unfoldable pub typed : List ℕ → List ℕ → Option (Term × List ℕ)
typed lexical text = do
  inner ← after_at 94 text
  iri ← iri_at inner
  literal ← as_typed lexical iri.0
  Some (literal, iri.1)

-- the literal of a string, by what follows the string
abbrev pub suffixed : List ℕ → List ℕ → Option (Term × List ℕ)
suffixed lexical text = read_or (after_at 64 text) (tagged lexical) (read_or (after_at 94 text) (typed lexical) (Some (string_of lexical, text)))

-- a literal, after its first quote
unfoldable pub literal : List ℕ → Option (Term × List ℕ)
literal text = do
  parts ← until_at 34 text
  lexical ← as_plain parts.0
  suffixed lexical parts.1

-- an object
abbrev pub object : List ℕ → Option (Term × List ℕ)
object text = read_or (after_at 34 text) literal (subject text)

-- the rest after a line's end
abbrev pub after_end : List ℕ → Option (List ℕ)
after_end [] = None
after_end (c ∷ text) = cond (is_line_end c) (Some text) None

-- a line with a triple and no comment, and its end
unfoldable pub plain_line : List ℕ → Option (Statement × List ℕ)
plain_line text = do
  s ← subject text
  p ← iri_at (after_spaces s.1)
  o ← object (after_spaces p.1)
  dotted ← after_at 46 (after_spaces o.1)
  rest ← after_end (after_spaces dotted)
  Some (triple_of s.0 p.0 o.0, rest)

-- Reading from the front of a text. Each word gives what is read and the rest of the text, and None where the text does not begin so.
use Rattle.std.specs.Prelude.{ℕ, cond, ◌==◌, List, [], ◌∷◌, Option, Some, None}
use Rattle.std.specs.Option.{option_map}
use Rattle.bye_terms.specs.Names.{is_iri}

infixl 10 ◌>>=◌
-- one reading after another
abbrev pub ◌>>=◌ : {A B : Type 0} → Option A → (A → Option B) → Option B
None >>= f = None
(Some x) >>= f = f x

-- the rest after this character
abbrev pub after_at : ℕ → List ℕ → Option (List ℕ)
after_at c [] = None
after_at c (d ∷ text) = cond (d == c) (Some text) None

-- what stands before the first such character, and the rest after it
abbrev pub until_at : ℕ → List ℕ → Option (List ℕ × List ℕ)
until_at c [] = None
until_at c (d ∷ text) = cond (d == c) (Some ([], text)) (option_map (λ r. (d ∷ r.0, r.1)) (until_at c text))

-- the text, where it is an absolute IRI
abbrev pub as_iri : List ℕ → Option (List ℕ)
as_iri text = cond (is_iri text) (Some text) None

-- an absolute IRI between `<` and `>`
unfoldable pub iri_at : List ℕ → Option (List ℕ × List ℕ)
iri_at text = do
  inner ← after_at 60 text
  parts ← until_at 62 inner
  iri ← as_iri parts.0
  Some (iri, parts.1)

-- How the canonical document is made: the lines are spelled one after another, cut apart, sorted, and joined without repeats.
use Rattle.std.specs.Prelude.{◌≡◌, ℕ, false, cond, List, [], ◌∷◌, ◌++◌, length, take, drop, map}
use Rattle.std.specs.List.{flat_map, AllByRecursion}
use Rattle.std.specs.List.Sorted.{IsPermutation}
use Rattle.std.specs.Ordering.{nat_cmp, is_lt}
use Rattle.std.specs.Cmp.Lexicographic.{slice_cmp}
use Rattle.std.specs.Str.{bytes_eq, IsCharBoundary}
use Rattle.bye_terms.specs.Terms.{Statement}
use Rattle.bye_ntriples.specs.Canonical.{line_bytes, IsStatement}

-- the line of a triple of terms was put after the text, and its length after the lengths
pub record IsAdded (triple : Statement) (text lengths new_text new_lengths : List ℕ) : Type 0 where
  pub valid : IsStatement triple
  pub line : new_text ≡ text ++ line_bytes triple
  pub long : new_lengths ≡ lengths ++ length (line_bytes triple) ∷ []

-- these triples are triples of terms, the bytes are their lines one after another, and the lines have these lengths
pub record AreSpelled (triples : List Statement) (bytes lengths : List ℕ) : Type 0 where
  pub valid : AllByRecursion IsStatement triples
  pub text : bytes ≡ flat_map line_bytes triples
  pub long : lengths ≡ map (λ t. length (line_bytes t)) triples

-- the parts of the text, from its front on, that have these lengths
abbrev pub parts : List ℕ → List ℕ → List (List ℕ)
parts [] text = []
parts (n ∷ ns) text = take n text ∷ parts ns (drop n text)

-- between these parts stands no character of the text
abbrev pub MayCut : List ℕ → List ℕ → Type 0
MayCut [] text = Unit {0}
MayCut (n ∷ ns) text = IsCharBoundary text n × MayCut ns (drop n text)

-- the lines joined after this one, without those that equal the line before them
abbrev pub joined : List ℕ → List (List ℕ) → List ℕ
joined last [] = []
joined last (line ∷ lines) = cond (bytes_eq line last) [] line ++ joined line lines

-- no line is less than the one before it; the first comes after this one
abbrev pub Ascends : List ℕ → List (List ℕ) → Type 0
Ascends last [] = Unit {0}
Ascends last (line ∷ lines) = (is_lt (slice_cmp nat_cmp line last) ≡ false) × Ascends line lines

-- the bytes are these lines, sorted and joined without repeats
pub record AreJoined (lines : List (List ℕ)) (bytes : List ℕ) : Type 0 where
  pub sorted : List (List ℕ)
  pub same : IsPermutation lines sorted
  pub ascends : Ascends [] sorted
  pub is : bytes ≡ joined [] sorted

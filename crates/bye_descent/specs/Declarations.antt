-- The declarations of prefixes by their numbers.
use Rattle.std.specs.Prelude.{◌≡◌, ℕ, List, Option, Some, None, option_map, reverse, slice_get}
use Rattle.bye_grammar.specs.Fits.{Chars, look}

-- the IRI of the declaration of this number
abbrev pub iri_at : List (Chars × Chars) → Option ℕ → Option Chars
iri_at declared None = None
iri_at declared (Some number) = option_map (λ d. d.1) (slice_get declared number)

-- For each name the number of the last declaration that it has, where it has one.
abbrev pub AreLast : List (Chars × Chars) → (Chars → Option ℕ) → Type 0
AreLast declared number = (name : Chars) → iri_at declared (number name) ≡ look (reverse declared) name

-- Triples by the numbers of their terms, and what a pattern of given numbers asks of them.
use Rattle.std.specs.Prelude.{◌≡◌, ℕ, Option, Some, None}

-- a triple by the numbers of its subject, its predicate and its object
abbrev pub Key : Type 0
Key = ℕ × ℕ × ℕ

-- the number is the given one, where one is given
abbrev pub IsGiven : Option ℕ → ℕ → Type 0
IsGiven None number = Unit {0}
IsGiven (Some given) number = number ≡ given

-- the triple has the given numbers, each in its place
abbrev pub Agrees : Option ℕ → Option ℕ → Option ℕ → Key → Type 0
Agrees s p o key = IsGiven s key.0 × IsGiven p key.1 × IsGiven o key.2

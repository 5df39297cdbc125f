-- Bytes that spellings are put at the end of.
use Rattle.std.specs.Prelude.{◌≡◌, ℕ, List, take, length}

-- what stood there still stands at the front
abbrev pub IsFront : List ℕ → List ℕ → Type 0
IsFront before after = take (length before) after ≡ before

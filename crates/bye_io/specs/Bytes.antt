-- What a read, a write or a run of them does to the bytes that are left or were sent, where those are told.
use Rattle.std.specs.Prelude.{◌≡◌, ℕ, ◌<◌, ◌≤◌, List, length, take, Option, IfSome, IsSomeAnd}
use Rattle.std.specs.Io.KnownBytes.{Appends, Consumes}

-- where the bytes that are left are told, they are these
abbrev pub AreLeft : Option (List ℕ) → List ℕ → Type 0
AreLeft left bytes = IfSome left (λ told. bytes ≡ told)

-- where the bytes that are left are told, they are more than the limit
abbrev pub IsLonger : Option (List ℕ) → ℕ → Type 0
IsLonger left limit = IfSome left (λ told. limit < length told)

-- the bytes that are left are told, and are more than the limit
abbrev pub IsToldLonger : Option (List ℕ) → ℕ → Type 0
IsToldLonger left limit = IsSomeAnd left (λ told. limit < length told)

-- the bytes that are left are told, and are at most the limit
abbrev pub IsToldWithin : Option (List ℕ) → ℕ → Type 0
IsToldWithin left limit = IsSomeAnd left (λ told. length told ≤ limit)

-- of what was left, exactly so many bytes were taken from the front
abbrev pub Loses : Option (List ℕ) → Option (List ℕ) → ℕ → Type 0
Loses before now count = (taken : List ℕ) × (length taken ≡ count) × Consumes before now taken

-- of what was left, at most so many bytes were taken from the front
abbrev pub LosesAtMost : Option (List ℕ) → Option (List ℕ) → ℕ → Type 0
LosesAtMost before now most = (taken : List ℕ) × (length taken ≤ most) × Consumes before now taken

-- what was sent grew by a front part of the bytes that is not all of them
abbrev pub AppendsPart : Option (List ℕ) → Option (List ℕ) → List ℕ → Type 0
AppendsPart before now bytes = (count : ℕ) × (count < length bytes) × Appends before now (take count bytes)

-- What a folder in memory tells.
use Rattle.std.specs.Prelude.{ℕ, List, [], ◌∷◌, cond, drop, Option, Some, None, slice_get, AllPairs, ◌≢◌}
use Rattle.std.specs.Str.{bytes_eq}
use Rattle.std.specs.declared.vec.Vec.{Vec}
use Rattle.std.specs.declared.alloc.Global.{Global}

-- the bytes of the file of that name
abbrev pub lookup : List (List ℕ × Vec ℕ Global) → List ℕ → Option (List ℕ)
lookup [] name = None
lookup (f ∷ fs) name = cond (bytes_eq f.0 name) (Some f.1.items) (lookup fs name)

-- the bytes of a file from a place on
abbrev pub bytes_from : Option (List ℕ × Vec ℕ Global) → ℕ → List ℕ
bytes_from None at = []
bytes_from (Some f) at = drop at f.1.items

-- the bytes from a place on of the file that is open, if one is
abbrev pub open_bytes : List (List ℕ × Vec ℕ Global) → Option ℕ → ℕ → List ℕ
open_bytes files None at = []
open_bytes files (Some i) at = bytes_from (slice_get files i) at

-- no two files have the same name
abbrev pub AreDistinct : List (List ℕ × Vec ℕ Global) → Type 0
AreDistinct files = AllPairs (λ f g. f.0 ≢ g.0) files

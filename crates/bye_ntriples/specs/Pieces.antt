-- A reader of graph documents that come in pieces.
use Rattle.std.specs.Prelude.{◌<◌, ◌^◌, ℕ, ◌+◌, List, ⊤}
use Rattle.bye_ntriples.specs.Feeding.{HasCome, IsRefusal, taken}
use Rattle.bye_ntriples.specs.declared.pieces.State.{State}
use Rattle.bye_ntriples.specs.declared.pieces.State.TheVariants as states

-- what a reader that has been given these bytes is
abbrev pub Came : List ℕ → State → Type 0
Came bytes (states.Reading reading) = HasCome bytes reading
Came bytes (states.Refused fault) = IsRefusal bytes fault

-- it has refused nothing
abbrev pub IsReading : State → Type 0
IsReading (states.Reading reading) = ⊤
IsReading (states.Refused fault) = ⊥

-- so many bytes more are less than 2^64 in all
abbrev pub HasRoom : State → ℕ → Type 0
HasRoom (states.Reading reading) more = taken reading + more < 2 ^ 64
HasRoom (states.Refused fault) more = ⊤

-- A reader of table documents that is given them in pieces.
use Rattle.std.specs.Prelude.{◌≡◌, ◌<◌, ◌^◌, ℕ, ◌+◌, true, false, Bool, List, ◌++◌, Some, None, length, ⊤}
use Rattle.std.specs.Str.{encode_utf8_all, all_scalars}
use Rattle.bye_lex.specs.Running.{run}
use Rattle.bye_lex.specs.Utf8.{NoCharacter}
use Rattle.bye_tsv.specs.Answers.{MayBeFront, IsRefusal}
use Rattle.bye_tsv.specs.DocSteps.{DocAt, IsSound, passed, start, step}
use Rattle.bye_tsv.specs.declared.fault.Bounds.{Bounds}
use Rattle.bye_tsv.specs.Reading.{ReadingAt, taken}
use Rattle.bye_tsv.specs.declared.fault.TsvErr.{TsvErr}
use Rattle.bye_tsv.specs.declared.fault.TsvErr.TheVariants as faults
use Rattle.bye_tsv.specs.declared.pieces.State.{State}
use Rattle.bye_tsv.specs.declared.pieces.State.TheVariants as states

-- these characters led there, and are so many bytes
pub record LedTo (bounds : Bounds) (front : List ℕ) (doc : DocAt) (place : ℕ) : Type 0 where
  pub scalars : all_scalars front ≡ true
  pub runs : run step start front ≡ Some doc
  pub within : passed bounds doc ≡ None
  pub at : place ≡ length (encode_utf8_all front)

-- these bytes have come
pub record HasCome (bounds : Bounds) (bytes : List ℕ) (reading : ReadingAt) : Type 0 where
  pub front : List ℕ
  pub led : LedTo bounds front reading.doc reading.place
  pub parts : bytes ≡ encode_utf8_all front ++ reading.left
  pub none : NoCharacter reading.left
  pub may : MayBeFront bounds bytes

-- what a reader that has been given these bytes is
abbrev pub Came : Bounds → List ℕ → State → Type 0
Came bounds bytes (states.Reading reading) = HasCome bounds bytes reading
Came bounds bytes (states.Refused fault) = IsRefusal bounds bytes fault

-- it has refused nothing
abbrev pub IsReading : State → Type 0
IsReading (states.Reading reading) = ⊤
IsReading (states.Refused fault) = ⊥

-- so many bytes more are less than 2^64 in all
abbrev pub HasRoom : State → ℕ → Type 0
HasRoom (states.Reading reading) more = taken reading + more < 2 ^ 64
HasRoom (states.Refused fault) more = ⊤

-- what it has read is sound, and bytes that have come led there, less than 2^64 of them
pub record IsLed (bounds : Bounds) (reading : ReadingAt) : Type 0 where
  pub sound : IsSound reading.doc
  pub bytes : List ℕ
  pub came : HasCome bounds bytes reading
  pub short : taken reading < 2 ^ 64

-- a reader that reads has been led to where it is
abbrev pub IsKept : Bounds → State → Type 0
IsKept bounds (states.Reading reading) = IsLed bounds reading
IsKept bounds (states.Refused fault) = ⊤

-- what is left over after whole characters lets no document go on at this place
abbrev pub CannotGoOn : Bool → ℕ → TsvErr → Type 0
CannotGoOn begins place e = (begins ≡ false) × (e ≡ faults.NotUtf8 place)

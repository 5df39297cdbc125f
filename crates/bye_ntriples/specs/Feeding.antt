-- A reader of graph documents that is given them in pieces.
use Rattle.std.specs.Prelude.{◌≡◌, ℕ, ◌+◌, true, false, List, ◌++◌, Some, length, ⊤}
use Rattle.std.specs.Str.{encode_utf8_all, all_scalars}
use Rattle.bye_lex.specs.Utf8.{NoCharacter}
use Rattle.bye_ntriples.specs.Answers.{MayBeFront, IsFault}
use Rattle.bye_ntriples.specs.DocSteps.{DocAt, start, step, is_over}
use Rattle.bye_lex.specs.Running.{run}
use Rattle.bye_ntriples.specs.declared.fault.NtErr.{NtErr}
use Rattle.bye_ntriples.specs.declared.fault.NtErr.TheVariants as faults

-- how far a document was read: its lines, the bytes of a character that has not come whole, and the place of these
pub record ReadingAt : Type 0 where
  pub doc : DocAt
  pub left : List ℕ
  pub place : ℕ

-- these characters led there, and are so many bytes
pub record LedTo (front : List ℕ) (doc : DocAt) (place : ℕ) : Type 0 where
  pub scalars : all_scalars front ≡ true
  pub runs : run step start front ≡ Some doc
  pub within : is_over doc ≡ false
  pub at : place ≡ length (encode_utf8_all front)

-- these bytes have come
pub record HasCome (bytes : List ℕ) (reading : ReadingAt) : Type 0 where
  pub front : List ℕ
  pub led : LedTo front reading.doc reading.place
  pub parts : bytes ≡ encode_utf8_all front ++ reading.left
  pub none : NoCharacter reading.left
  pub may : MayBeFront bytes

-- with whatever comes after these bytes the document is refused so, and is the front of none
abbrev pub Refuses : List ℕ → NtErr → Type 0
Refuses bytes fault = (more : List ℕ) → IsFault (bytes ++ more) fault × (MayBeFront (bytes ++ more) → ⊥)

-- such a refusal, or that memory was refused
abbrev pub IsRefusal : List ℕ → NtErr → Type 0
IsRefusal bytes (faults.Syntax place) = Refuses bytes (faults.Syntax place)
IsRefusal bytes (faults.NotUtf8 place) = Refuses bytes (faults.NotUtf8 place)
IsRefusal bytes faults.TooMany = Refuses bytes faults.TooMany
IsRefusal bytes faults.Memory = ⊤

-- the bytes that have come, by their number
abbrev pub taken : ReadingAt → ℕ
taken reading = reading.place + length reading.left

-- What the statuses say of the output.
use Rattle.std.specs.Prelude.{◌≡◌, ℕ, List, Option, Result, Ok, Err, ⊤}
use Rattle.std.specs.Str.{encode_utf8_all}
use Rattle.std.specs.Io.KnownBytes.{Appends}
use Rattle.bye_io.specs.Bytes.{AppendsPart}
use Rattle.bye_words.specs.Statuses.{status_of}
use Rattle.bye_words.specs.declared.refusal.Refusal.{Refusal}
use Rattle.bye_words.specs.declared.status.Status.{Status}
use Rattle.bye_words.specs.declared.status.Status.TheVariants as statuses
use Rattle.bye_cli.specs.declared.ending.Ending.{Ending}
use Rattle.bye_cli.specs.declared.ending.Ending.TheVariants as endings

-- how a command ended: it was answered, or why not
abbrev pub Outcome : Type 0
Outcome = Result Ending Refusal

-- the status of an outcome
abbrev pub outcome_status : Outcome → Status
outcome_status (Ok endings.Done) = statuses.Done
outcome_status (Ok endings.Refused) = statuses.Refused
outcome_status (Err refusal) = status_of refusal

-- a status at which nothing was written
abbrev pub IsSilent : Status → Type 0
IsSilent statuses.Done = ⊥
IsSilent statuses.Refused = ⊥
IsSilent statuses.WriteFault = ⊥
IsSilent _ = ⊤

-- the bytes are the UTF-8 of a text of this kind
abbrev pub InUtf8 : (List ℕ → Type 0) → List ℕ → Type 0
InUtf8 Kind bytes = (text : List ℕ) × Kind text × (bytes ≡ encode_utf8_all text)

-- bytes of this kind were appended whole
abbrev pub Sends : (List ℕ → Type 0) → Option (List ℕ) → Option (List ℕ) → Type 0
Sends Kind before now = (bytes : List ℕ) × Kind bytes × Appends before now bytes

-- a front part of bytes of this kind was appended that is not all of them
abbrev pub SendsPart : (List ℕ → Type 0) → Option (List ℕ) → Option (List ℕ) → Type 0
SendsPart Kind before now = (bytes : List ℕ) × Kind bytes × AppendsPart before now bytes

-- a status at which the question was answered, or memory was refused
abbrev pub IsAnswered : Status → Type 0
IsAnswered statuses.Done = ⊤
IsAnswered statuses.Refused = ⊤
IsAnswered statuses.Memory = ⊤
IsAnswered _ = ⊥

-- What goes to `err`: a line for each status but Done and Refused.
use Rattle.std.specs.Prelude.{◌≡◌, ℕ, List, Option, Ok, Err, ◌⊎◌}
use Rattle.std.specs.Io.KnownBytes.{Appends}
use Rattle.bye_io.specs.Bytes.{AppendsPart}
use Rattle.bye_words.specs.Lines.{err_line}
use Rattle.bye_words.specs.Pairs.{Word}
use Rattle.bye_words.specs.Statuses.{status_of}
use Rattle.bye_words.specs.declared.refusal.Refusal.{Refusal}
use Rattle.bye_words.specs.declared.status.Status.{Status}
use Rattle.bye_words.specs.declared.status.Status.TheVariants as statuses
use Rattle.bye_cli.specs.Causes.{IsReason}
use Rattle.bye_cli.specs.Documents.{Files}
use Rattle.bye_cli.specs.Statuses.{Outcome}

-- the line was sent whole; or the count of faults rose, and a front part of the line was sent that is not all of it
abbrev pub SendsLine : Type 0 → List ℕ → Option (List ℕ) → Option (List ℕ) → Type 0
SendsLine Rose line before now = Appends before now line ⊎ (Rose × AppendsPart before now line)

-- what is sent of an outcome: nothing where there is an answer, and else the line of the refusal
abbrev pub IsReport : Outcome → Type 0 → Option (List ℕ) → Option (List ℕ) → Type 0
IsReport (Ok ending) Rose before now = now ≡ before
IsReport (Err refusal) Rose before now = SendsLine Rose (err_line refusal) before now

-- the line of a refusal of this status was sent, whose cause is there: the line names the document that stops the command, and
-- what is wrong with it
pub record TellsWhy (files : Files) (words : List Word) (before now : ℕ) (status : Status) (Rose : Type 0) (sent sent_now : Option (List ℕ)) : Type 0 where
  pub refusal : Refusal
  pub status_is : status ≡ status_of refusal
  pub cause : IsReason files words before now refusal
  pub line : SendsLine Rose (err_line refusal) sent sent_now

-- what goes to `err` at each status: nothing on Done and Refused
abbrev pub IsMessage : Files → List Word → ℕ → ℕ → Status → Type 0 → Option (List ℕ) → Option (List ℕ) → Type 0
IsMessage files words before now statuses.Done Rose sent sent_now = sent_now ≡ sent
IsMessage files words before now statuses.Refused Rose sent sent_now = sent_now ≡ sent
IsMessage files words before now status Rose sent sent_now = TellsWhy files words before now status Rose sent sent_now

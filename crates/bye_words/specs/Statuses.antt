-- The statuses.
use Rattle.std.specs.Prelude.{ℕ}
use Rattle.bye_words.specs.declared.refusal.Refusal.{Refusal}
use Rattle.bye_words.specs.declared.refusal.Refusal.TheVariants as refusals
use Rattle.bye_words.specs.declared.status.Status.{Status}
use Rattle.bye_words.specs.declared.status.Status.TheVariants as statuses

-- the number of a status, with which the process ends
abbrev pub number_of : Status → ℕ
number_of statuses.Done = 0
number_of statuses.Refused = 1
number_of statuses.Words = 2
number_of statuses.Document = 3
number_of statuses.Limit = 4
number_of statuses.ReadFault = 5
number_of statuses.WriteFault = 6
number_of statuses.Memory = 7
number_of statuses.LinkFault = 8
number_of statuses.Example = 9
number_of statuses.Remote = 10

-- the status of a refusal
abbrev pub status_of : Refusal → Status
status_of refusals.Words = statuses.Words
status_of (refusals.Document role fault) = statuses.Document
status_of (refusals.Limit role count) = statuses.Limit
status_of refusals.Answers = statuses.Limit
status_of (refusals.ReadFault role) = statuses.ReadFault
status_of refusals.WriteFault = statuses.WriteFault
status_of refusals.Memory = statuses.Memory
status_of refusals.LinkFault = statuses.LinkFault
status_of (refusals.Example example) = statuses.Example
status_of (refusals.Remote remote) = statuses.Remote

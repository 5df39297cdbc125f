-- When each status comes.
use Rattle.std.specs.Prelude.{◌≡◌, ℕ, List, [], Ok, Err, ⊤, ◌⊎◌}
use Rattle.bye_io.specs.Counts.{Rose}
use Rattle.bye_io.specs.Files.{Lacks}
use Rattle.bye_terms.specs.Terms.{Statement}
use Rattle.bye_table.specs.Tables.{TableValue}
use Rattle.bye_words.specs.Pairs.{Word}
use Rattle.bye_cli.specs.Words.{Command, IsCommand, IsNoCommand, IsSomeCommand}
use Rattle.bye_cli.specs.Documents.{Files, IsTold, Kind, Document, role_of, due, Verdict, TooMany, Faulty, IsVerdict, HasVerdict, Reaches, Stops}
use Rattle.bye_cli.specs.Problem.{IsGiven, IsAsked}
use Rattle.bye_cli.specs.Converting.{IsConvertible, IsTableConvertible}
use Rattle.bye_cli.specs.Running.{IsAnswerable, IsCrowded}
use Rattle.bye_cli.specs.declared.table_form.WrittenForm.{WrittenForm}
use Rattle.bye_cli.specs.Statuses.{Outcome}
use Rattle.bye_words.specs.declared.example.Example.TheVariants as examples
use Rattle.bye_words.specs.declared.role.Role.{Role}
use Rattle.bye_words.specs.declared.fault.Fault.{Fault}
use Rattle.bye_words.specs.declared.count.Count.{Count}
use Rattle.bye_words.specs.declared.refusal.Refusal.{Refusal}
use Rattle.bye_words.specs.declared.refusal.Refusal.TheVariants as refusals

-- a document of the command in this role is reached, and has this verdict
abbrev pub IsStopped : Files → List Word → Role → Verdict → Type 0
IsStopped files words role verdict = (command : Command) × IsCommand words command × Stops files (due command) role verdict

-- a document of the command that is reached is not of its form
abbrev pub IsFaulty : Files → List Word → Type 0
IsFaulty files words = (role : Role) × (fault : Fault) × IsStopped files words role (Faulty fault)

-- a document of the command that is reached passes a limit
abbrev pub IsPast : Files → List Word → Type 0
IsPast files words = (role : Role) × (count : Count) × IsStopped files words role (TooMany count)

-- the folder tells its files and lacks a document of the command that is reached
abbrev pub IsMissing : Files → List Word → Type 0
IsMissing files words = (command : Command) × IsCommand words command × ((d : Document) × Reaches files (due command) d × Lacks files d.1)

-- a document of the command in this role is reached, and a call failed or the folder tells its files and lacks it
pub record IsUnreadable (files : Files) (words : List Word) (before now : ℕ) (role : Role) : Type 0 where
  pub command : Command
  pub is : IsCommand words command
  pub document : Document
  pub in_role : role_of document.0 ≡ role
  pub reached : Reaches files (due command) document
  pub cause : Rose before now ⊎ Lacks files document.1

-- the documents are given, and there is no wanted row
abbrev pub IsWithoutRow : Files → List Word → Type 0
IsWithoutRow files words = (graph : List Statement) × (wanted : TableValue) × IsGiven files words graph wanted × (wanted.rows ≡ [])

-- why a document is not read: it passes a limit or is not of its form, a call failed, or the folder lacks it
abbrev pub IsUnread : Files → Document → ℕ → ℕ → Refusal → Type 0
IsUnread files d before now (refusals.Document role fault) = (role_of d.0 ≡ role) × HasVerdict files d (Faulty fault)
IsUnread files d before now (refusals.Limit role count) = (role_of d.0 ≡ role) × HasVerdict files d (TooMany count)
IsUnread files d before now (refusals.ReadFault role) = (role_of d.0 ≡ role) × (Rose before now ⊎ Lacks files d.1)
IsUnread files d before now refusals.Memory = ⊤
IsUnread files d before now _ = ⊥

-- why bytes within the limit are not read as such a document: they are not of its form, they have too many of what is counted in
-- them, or memory was refused
abbrev pub IsUnfit : Kind → List ℕ → Refusal → Type 0
IsUnfit kind bytes (refusals.Document role fault) = (role_of kind ≡ role) × IsVerdict kind bytes (Faulty fault)
IsUnfit kind bytes (refusals.Limit role count) = (role_of kind ≡ role) × IsVerdict kind bytes (TooMany count)
IsUnfit kind bytes refusals.Memory = ⊤
IsUnfit kind bytes _ = ⊥

-- why there is no answer
abbrev pub IsCause : Files → List Word → ℕ → ℕ → Refusal → Type 0
IsCause files words before now refusals.Words = IsNoCommand words
IsCause files words before now (refusals.Document role fault) = IsStopped files words role (Faulty fault)
IsCause files words before now (refusals.Limit role count) = IsStopped files words role (TooMany count)
IsCause files words before now (refusals.ReadFault role) = IsUnreadable files words before now role
IsCause files words before now (refusals.Example example) = (example ≡ examples.NoWanted) × IsWithoutRow files words
IsCause files words before now refusals.Answers = IsCrowded files words
IsCause files words before now refusals.Memory = IsSomeCommand words
IsCause files words before now _ = ⊥

-- why a command fails: there is no answer, or it could not be written
abbrev pub IsReason : Files → List Word → ℕ → ℕ → Refusal → Type 0
IsReason files words before now refusal = IsCause files words before now refusal ⊎ ((refusal ≡ refusals.WriteFault) × IsSomeCommand words)

-- what an outcome says of its cause: nothing where there is an answer
abbrev pub IsFailure : Files → List Word → ℕ → ℕ → Outcome → Type 0
IsFailure files words before now (Ok ending) = ⊤
IsFailure files words before now (Err refusal) = IsReason files words before now refusal

-- the folder tells its files, and its count of faults did not rise
pub record IsQuiet (files : Files) (before now : ℕ) : Type 0 where
  pub told : IsTold files
  pub rose : Rose before now → ⊥

-- the documents are given, and to `learn` a wanted row, and to `run` a query that has no more answers than may be
abbrev pub IsAskedCase : Files → List Word → Type 0
IsAskedCase files words =
    ((graph : List Statement) × (wanted : TableValue) × IsAsked files words graph wanted)
    ⊎ (((graph : List Statement) × IsConvertible files words graph)
    ⊎ (((table : TableValue) × (to : WrittenForm) × IsTableConvertible files words table to) ⊎ IsAnswerable files words))

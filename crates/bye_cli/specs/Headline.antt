-- What is promised of the answer to a graph and a table with a row, for the class of one conjunction without conditions.
use Rattle.std.specs.Prelude.{◌≡◌, ℕ, List, [], Option, ◌⊎◌}
use Rattle.bye_terms.specs.Terms.{Statement}
use Rattle.bye_pattern.specs.Classes.{InAndPlain}
use Rattle.bye_pattern.specs.Fitting.{NoFit}
use Rattle.bye_pattern.specs.Learning.{wanted_of}
use Rattle.bye_table.specs.Tables.{TableValue}
use Rattle.bye_words.specs.Pairs.{Word}
use Rattle.bye_cli.specs.Documents.{Files, IsTold}
use Rattle.bye_cli.specs.Problem.{IsAsked, IsQueryText, IsRefusalLine}
use Rattle.bye_cli.specs.Statuses.{IsAnswered, InUtf8, Sends}
use Rattle.bye_words.specs.declared.status.Status.{Status}
use Rattle.bye_words.specs.declared.status.Status.TheVariants.{Done, Refused, Memory}

-- no query of the class has every wanted row among its answers
abbrev pub NoneFits : List Statement → TableValue → Type 0
NoneFits graph wanted = NoFit InAndPlain graph (wanted_of wanted) []

-- how a call ends that was asked for a query: `Rose` says that a count of faults rose in it
pub record IsOutcome (graph : List Statement) (wanted : TableValue) (Rose : Type 0) (before now : Option (List ℕ)) (status : Status) : Type 0 where
  -- where no count rose, the question is answered, or memory was refused
  pub answered : (Rose → ⊥) → IsAnswered status
  -- on Done the text of a query of the class was appended of which every wanted row is an answer, and which is read as this query
  pub done : status ≡ Done → Sends (InUtf8 (IsQueryText graph wanted)) before now
  -- on Refused the line of the first variable in no common pattern was appended, and no query of the class fits
  pub refused : status ≡ Refused → Sends (InUtf8 (IsRefusalLine graph wanted)) before now × NoneFits graph wanted
  -- Done comes only where some query of the class fits
  pub right : status ≡ Done → NoneFits graph wanted → ⊥
  -- where no count rose, Refused comes wherever no query of the class fits
  pub none : (Rose → ⊥) → NoneFits graph wanted → (status ≡ Refused) ⊎ (status ≡ Memory)
  -- and Done wherever it is not so that none fits
  pub some : (Rose → ⊥) → (NoneFits graph wanted → ⊥) → (status ≡ Done) ⊎ (status ≡ Memory)

-- where the folder tells its files: for each graph and table with a row that the words name and the files say
abbrev pub Headline : Files → List Word → Type 0 → Option (List ℕ) → Option (List ℕ) → Status → Type 0
Headline files words Rose before now status =
    IsTold files → (graph : List Statement) (wanted : TableValue) → IsAsked files words graph wanted → IsOutcome graph wanted Rose before now status

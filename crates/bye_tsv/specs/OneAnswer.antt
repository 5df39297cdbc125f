-- That a table document has one answer.
use Rattle.std.specs.Prelude.{◌≡◌, ℕ, List, Result, Ok, Err, ◌⊎◌}
use Rattle.bye_table.specs.Tables.{TableValue}
use Rattle.bye_tsv.specs.Answers.{IsRead, IsFault}
use Rattle.bye_tsv.specs.declared.fault.Bounds.{Bounds}
use Rattle.bye_tsv.specs.declared.fault.TsvErr.{TsvErr}
use Rattle.bye_tsv.specs.declared.fault.TsvErr.TheVariants as faults

-- what a reader of tables may answer
abbrev pub TsvAnswer : Bounds → List ℕ → Result TableValue TsvErr → Type 0
TsvAnswer bounds bytes (Ok table) = IsRead bounds bytes table
TsvAnswer bounds bytes (Err fault) = IsFault bounds bytes fault

-- but for want of memory a document has one answer
abbrev pub TsvAnswersOnce : Type 0
TsvAnswersOnce =
    (bounds : Bounds) (bytes : List ℕ) (a b : Result TableValue TsvErr) → TsvAnswer bounds bytes a → TsvAnswer bounds bytes b
    → (a ≡ Err faults.Memory) ⊎ ((b ≡ Err faults.Memory) ⊎ (a ≡ b))

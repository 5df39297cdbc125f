-- The faults of rows.
use Rattle.std.proofs.Common.{◌≡◌, ℕ, ◌+◌, ◌<◌, List, length, get_or, take, map, IsSome}
use Rattle.serde_json.specs.View.{view}
use Rattle.serde_json.specs.declared.value.Value.{Value}
use Rattle.bye_table.specs.Mappings.{Name}
use Rattle.bye_json.specs.Answers.{IsBadRow, IsUnlisted}
use Rattle.bye_json.specs.Documents.{row_of}
use Rattle.bye_json.specs.PartFaults.{IsRowFault, IsRowsFault, in_row}
use Rattle.bye_json.specs.Trees.{collect}
use Rattle.bye_json.specs.declared.row_err.RowErr.{RowErr}
use Rattle.bye_json.specs.declared.row_err.RowErr.TheVariants as row_faults
use Rattle.bye_json.proofs.Steps.{first_of}

-- where a binding after rows is none, it is the first
pub rows_fault : (vars : List Name) (bindings : List Value) (i : ℕ) (binding : Value) (fault : RowErr) → i < length bindings → binding ≡ get_or bindings i binding
    → IsSome (collect (row_of vars) (map view (take i bindings))) → IsRowFault vars (view binding) fault → IsRowsFault vars (map view bindings) (in_row (i + 1) fault)
rows_fault vars bindings i binding row_faults.Unlisted l is before wrong = first_of view (IsUnlisted vars) bindings i binding l is (before, wrong)
rows_fault vars bindings i binding (row_faults.BadTerm number) l is before wrong = first_of view (IsBadRow vars number) bindings i binding l is (before, wrong.0, wrong.1)
rows_fault vars bindings i binding row_faults.Memory l is before wrong = tt

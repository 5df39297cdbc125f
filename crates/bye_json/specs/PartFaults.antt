-- What the parts of a reader of results may refuse; for private clauses.
use Rattle.std.specs.Prelude.{◌≡◌, ℕ, true, false, List, ⊤}
use Rattle.serde_json.specs.Data.{Data}
use Rattle.bye_table.specs.Mappings.{Name}
use Rattle.bye_json.specs.Answers.{IsBadRow, IsFirst, IsNoName, IsNoTerm, IsUnlisted}
use Rattle.bye_json.specs.Documents.{is_listed}
use Rattle.bye_json.specs.declared.json_err.JsonErr.{JsonErr}
use Rattle.bye_json.specs.declared.json_err.JsonErr.TheVariants as faults
use Rattle.bye_json.specs.declared.row_err.RowErr.{RowErr}
use Rattle.bye_json.specs.declared.row_err.RowErr.TheVariants as row_faults

-- why values are no names
abbrev pub IsVarsFault : List Data → JsonErr → Type 0
IsVarsFault ds faults.NotJson = ⊥
IsVarsFault ds faults.NotBindings = ⊥
IsVarsFault ds (faults.BadVariable i) = IsFirst IsNoName ds i
IsVarsFault ds (faults.Unlisted row) = ⊥
IsVarsFault ds (faults.BadTerm row i) = ⊥
IsVarsFault ds faults.TooManyVars = ⊥
IsVarsFault ds faults.TooManyRows = ⊥
IsVarsFault ds faults.Memory = ⊤

-- why a binding is no row
abbrev pub IsRowFault : List Name → Data → RowErr → Type 0
IsRowFault vars binding row_faults.Unlisted = is_listed vars binding ≡ false
IsRowFault vars binding (row_faults.BadTerm i) = (is_listed vars binding ≡ true) × IsFirst (IsNoTerm binding) vars i
IsRowFault vars binding row_faults.Memory = ⊤

-- why bindings are no rows
abbrev pub IsRowsFault : List Name → List Data → JsonErr → Type 0
IsRowsFault vars ds faults.NotJson = ⊥
IsRowsFault vars ds faults.NotBindings = ⊥
IsRowsFault vars ds (faults.BadVariable i) = ⊥
IsRowsFault vars ds (faults.Unlisted row) = IsFirst (IsUnlisted vars) ds row
IsRowsFault vars ds (faults.BadTerm row i) = IsFirst (IsBadRow vars i) ds row
IsRowsFault vars ds faults.TooManyVars = ⊥
IsRowsFault vars ds faults.TooManyRows = ⊥
IsRowsFault vars ds faults.Memory = ⊤

-- the fault of a row, with the row's number
abbrev pub in_row : ℕ → RowErr → JsonErr
in_row row row_faults.Unlisted = faults.Unlisted row
in_row row (row_faults.BadTerm i) = faults.BadTerm row i
in_row row row_faults.Memory = faults.Memory

-- What a reader that has gone so far may answer.
use Rattle.std.proofs.Common.{◌≡◌, ℕ, ◌<◌, ◌≤◌, List, length, Some, sym, subst, arith}
use Rattle.std.specs.Result.{IsErrAnd}
use Rattle.std.specs.declared.result.Result.{Result}
use Rattle.std.specs.declared.result.Result.TheVariants.{Ok, Err}
use Rattle.serde_json.specs.Data.{Data}
use Rattle.bye_table.specs.Mappings.{Name}
use Rattle.bye_table.specs.Tables.{IsTable, TableValue}
use Rattle.bye_json.specs.Answers.{HasManyRows, HasManyVars, HasNames, IsFault, IsResults, JsonAnswer}
use Rattle.bye_json.specs.PartFaults.{IsRowsFault, IsVarsFault}
use Rattle.bye_json.specs.Documents.{AreNames, Lists, lists_of, row_of}
use Rattle.bye_json.specs.Trees.{IsJson, collect}
use Rattle.bye_json.specs.declared.json_err.JsonErr.{JsonErr}
use Rattle.bye_json.specs.declared.json_err.JsonErr.TheVariants as faults
use Rattle.bye_json.proofs.Cells.{rows_once, rows_over}
use Rattle.bye_json.proofs.Steps.{collected_length}

-- a fault that is handed on
pub handed : (bytes : List ℕ) (vars rows : ℕ) (r : Result TableValue JsonErr) (e : JsonErr) → IsErrAnd r (λ x. x ≡ e) → IsFault bytes vars rows e → JsonAnswer bytes vars rows r
handed bytes vars rows (Ok table) e is fault = absurd is
handed bytes vars rows (Err x) e is fault = subst (IsFault bytes vars rows) (sym is) fault

-- the lists were found
pub record Found (bytes : List ℕ) (d : Data) (lists : Lists) : Type 0 where
  pub json : IsJson bytes d
  pub has : lists_of d ≡ Some lists

pub many_vars : (bytes : List ℕ) (d : Data) (lists : Lists) (vars : ℕ) → Found bytes d lists → vars < length lists.vars → HasManyVars bytes vars
many_vars bytes d lists vars found many = record { lists = lists; has = record { tree = d; json = found.json; has = found.has }; many = many }

pub vars_fault : (bytes : List ℕ) (d : Data) (lists : Lists) (vars rows : ℕ) (e : JsonErr) → Found bytes d lists → length lists.vars ≤ vars → IsVarsFault lists.vars e → IsFault bytes vars rows e
vars_fault bytes d lists vars rows faults.NotJson found within wrong = absurd wrong
vars_fault bytes d lists vars rows faults.NotBindings found within wrong = absurd wrong
vars_fault bytes d lists vars rows (faults.BadVariable i) found within wrong =
    record { lists = lists; has = record { tree = d; json = found.json; has = found.has }; within = within; first = wrong }
vars_fault bytes d lists vars rows (faults.Unlisted row) found within wrong = absurd wrong
vars_fault bytes d lists vars rows (faults.BadTerm row i) found within wrong = absurd wrong
vars_fault bytes d lists vars rows faults.TooManyVars found within wrong = absurd wrong
vars_fault bytes d lists vars rows faults.TooManyRows found within wrong = absurd wrong
vars_fault bytes d lists vars rows faults.Memory found within wrong = tt

-- and the names were read
pub names_are : (bytes : List ℕ) (d : Data) (lists : Lists) (vars : ℕ) (names : List Name) → Found bytes d lists → length lists.vars ≤ vars → AreNames lists.vars names → HasNames bytes vars lists names
names_are bytes d lists vars names found within are = record { has = record { tree = d; json = found.json; has = found.has }; within = within; are = are }

pub many_rows : (bytes : List ℕ) (lists : Lists) (vars rows : ℕ) (names : List Name) → HasNames bytes vars lists names → rows < length lists.bindings → HasManyRows bytes vars rows
many_rows bytes lists vars rows names are many = record { lists = lists; names = names; are = are; many = many }

pub rows_fault : (bytes : List ℕ) (lists : Lists) (vars rows : ℕ) (names : List Name) (e : JsonErr) → HasNames bytes vars lists names → length lists.bindings ≤ rows → IsRowsFault names lists.bindings e
    → IsFault bytes vars rows e
rows_fault bytes lists vars rows names faults.NotJson are within wrong = absurd wrong
rows_fault bytes lists vars rows names faults.NotBindings are within wrong = absurd wrong
rows_fault bytes lists vars rows names (faults.BadVariable i) are within wrong = absurd wrong
rows_fault bytes lists vars rows names (faults.Unlisted row) are within wrong = record { lists = lists; names = names; are = are; within = within; first = wrong }
rows_fault bytes lists vars rows names (faults.BadTerm row i) are within wrong = record { lists = lists; names = names; are = are; within = within; first = wrong }
rows_fault bytes lists vars rows names faults.TooManyVars are within wrong = absurd wrong
rows_fault bytes lists vars rows names faults.TooManyRows are within wrong = absurd wrong
rows_fault bytes lists vars rows names faults.Memory are within wrong = tt

-- and the rows
pub is_table : (lists : Lists) (table : TableValue) → AreNames lists.vars table.vars → collect (row_of table.vars) lists.bindings ≡ Some table.rows → IsTable table
is_table lists table are rows = record { once = are.1; over = rows_over table.vars lists.bindings table.rows rows; rows = rows_once table.vars lists.bindings table.rows are.1 rows }

pub is_results : (bytes : List ℕ) (d : Data) (lists : Lists) (vars rows : ℕ) (table : TableValue) → Found bytes d lists → length lists.vars ≤ vars → length lists.bindings ≤ rows
    → AreNames lists.vars table.vars → collect (row_of table.vars) lists.bindings ≡ Some table.rows → IsResults bytes vars rows table
is_results bytes d lists vars rows table found vars_within rows_within are read =
    let vars_length : length table.vars ≡ length lists.vars = collected_length _ lists.vars table.vars are.0 in
    let rows_length : length table.rows ≡ length lists.bindings = collected_length _ lists.bindings table.rows read in
    record {
      doc = record { tree = d; json = found.json; shape = record { lists = lists; has = found.has; names = are; rows = read } };
      vars_within = omega arith;
      rows_within = omega arith;
    }

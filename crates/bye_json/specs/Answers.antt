-- What a reader of results may answer: the table, or the first fault, in the order in which they are looked for.
use Rattle.std.specs.Prelude.{◌≡◌, ◌≤◌, ◌<◌, ℕ, suc, true, false, List, ◌∷◌, ◌++◌, length, Result, Ok, Err, None, Some, IsSome, ⊤}
use Rattle.serde_json.specs.Data.{Data}
use Rattle.bye_terms.specs.Members.{In}
use Rattle.bye_table.specs.Mappings.{Name}
use Rattle.bye_table.specs.Tables.{TableValue}
use Rattle.bye_json.specs.Trees.{IsJson, collect}
use Rattle.bye_json.specs.Documents.{AreNames, JsonDoc, Lists, cell_of, is_listed, lists_of, name_of, pairs_of, row_of}
use Rattle.bye_json.specs.declared.json_err.JsonErr.{JsonErr}
use Rattle.bye_json.specs.declared.json_err.JsonErr.TheVariants as faults

-- the element of this number, counted from 1, is wrong after those before it
pub record IsFirst {X : Type 0} (Wrong : List X → X → Type 0) (xs : List X) (number : ℕ) : Type 0 where
  pub front : List X
  pub one : X
  pub rest : List X
  pub parts : xs ≡ front ++ one ∷ rest
  pub at : number ≡ suc (length front)
  pub wrong : Wrong front one

-- after names, a value that is no string, no name or a repeat
abbrev pub IsNoName : List Data → Data → Type 0
IsNoName front d = (vars : List Name) × AreNames front vars × ((v : Name) → name_of d ≡ Some v → In vars v)

-- after rows, one that has a name which is no variable
abbrev pub IsUnlisted : List Name → List Data → Data → Type 0
IsUnlisted vars front binding = IsSome (collect (row_of vars) front) × (is_listed vars binding ≡ false)

-- after variables with terms or without, one whose value is no term object
abbrev pub IsNoTerm : Data → List Name → Name → Type 0
IsNoTerm binding front v = IsSome (pairs_of front binding) × (cell_of binding v ≡ None)

-- after rows, one that has such a variable of this number, and the names of variables alone
abbrev pub IsBadRow : List Name → ℕ → List Data → Data → Type 0
IsBadRow vars number front binding = IsSome (collect (row_of vars) front) × (is_listed vars binding ≡ true) × IsFirst (IsNoTerm binding) vars number

-- the bytes are JSON of a tree with these lists
pub record HasLists (bytes : List ℕ) (lists : Lists) : Type 0 where
  pub tree : Data
  pub json : IsJson bytes tree
  pub has : lists_of tree ≡ Some lists

-- they are JSON of a tree that has none
pub record HasNone (bytes : List ℕ) : Type 0 where
  pub tree : Data
  pub json : IsJson bytes tree
  pub none : lists_of tree ≡ None

-- the document has more variables than are allowed
pub record HasManyVars (bytes : List ℕ) (vars : ℕ) : Type 0 where
  pub lists : Lists
  pub has : HasLists bytes lists
  pub many : vars < length lists.vars

-- it has so many variables at most, and the one of this number is the first bad one
pub record HasBadVariable (bytes : List ℕ) (vars number : ℕ) : Type 0 where
  pub lists : Lists
  pub has : HasLists bytes lists
  pub within : length lists.vars ≤ vars
  pub first : IsFirst IsNoName lists.vars number

-- it has so many variables at most, which are these
pub record HasNames (bytes : List ℕ) (vars : ℕ) (lists : Lists) (names : List Name) : Type 0 where
  pub has : HasLists bytes lists
  pub within : length lists.vars ≤ vars
  pub are : AreNames lists.vars names

-- and it has more rows than are allowed
pub record HasManyRows (bytes : List ℕ) (vars rows : ℕ) : Type 0 where
  pub lists : Lists
  pub names : List Name
  pub are : HasNames bytes vars lists names
  pub many : rows < length lists.bindings

-- or so many rows at most, and the one of this number is the first wrong one
pub record HasBadRow (Wrong : List Name → List Data → Data → Type 0) (bytes : List ℕ) (vars rows number : ℕ) : Type 0 where
  pub lists : Lists
  pub names : List Name
  pub are : HasNames bytes vars lists names
  pub within : length lists.bindings ≤ rows
  pub first : IsFirst (Wrong names) lists.bindings number

-- a document of these results within the bounds
pub record IsResults (bytes : List ℕ) (vars rows : ℕ) (table : TableValue) : Type 0 where
  pub doc : JsonDoc bytes table
  pub vars_within : length table.vars ≤ vars
  pub rows_within : length table.rows ≤ rows

-- why the bytes are none
abbrev pub IsFault : List ℕ → ℕ → ℕ → JsonErr → Type 0
IsFault bytes vars rows faults.NotJson = (d : Data) → IsJson bytes d → ⊥
IsFault bytes vars rows faults.NotBindings = HasNone bytes
IsFault bytes vars rows faults.TooManyVars = HasManyVars bytes vars
IsFault bytes vars rows (faults.BadVariable i) = HasBadVariable bytes vars i
IsFault bytes vars rows faults.TooManyRows = HasManyRows bytes vars rows
IsFault bytes vars rows (faults.Unlisted row) = HasBadRow IsUnlisted bytes vars rows row
IsFault bytes vars rows (faults.BadTerm row i) = HasBadRow (λ names. IsBadRow names i) bytes vars rows row
IsFault bytes vars rows faults.Memory = ⊤

-- what the bytes are read as
abbrev pub JsonAnswer : List ℕ → ℕ → ℕ → Result TableValue JsonErr → Type 0
JsonAnswer bytes vars rows (Ok table) = IsResults bytes vars rows table
JsonAnswer bytes vars rows (Err fault) = IsFault bytes vars rows fault

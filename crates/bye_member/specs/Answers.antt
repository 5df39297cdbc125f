-- The answers of a query by numbers of terms: the places of selected variables, the rows, and what a row of terms asks of them.
use Rattle.std.specs.Prelude.{◌≡◌, ℕ, ◌≤◌, ◌<◌, ◌⊎◌, true, List, [], ◌∷◌, Some, None, length, map, slice_get}
use Rattle.bye_terms.specs.declared.term.Term.{Term}
use Rattle.bye_terms.specs.Members.{In, EachOnce}
use Rattle.bye_terms.specs.Terms.{Statement}
use Rattle.bye_table.specs.Mappings.{Binds, Mapping, Name}
use Rattle.bye_table.specs.Sorted.{mappings}
use Rattle.bye_table.specs.Tables.{TableValue}
use Rattle.bye_pattern.specs.Algebra.{IsAnswer, IsRow}
use Rattle.bye_pattern.specs.Trees.{Select, Tree, alg}
use Rattle.bye_tree.specs.Exprs.{expr_of}
use Rattle.bye_tree.specs.declared.expr.Expr.{Expr}
use Rattle.bye_graph.specs.Graphs.{GraphValue, statements}
use Rattle.bye_node.specs.Envs.{Cells}
use Rattle.bye_node.specs.Steps.{IsEnv, decode}
use Rattle.bye_node.specs.declared.pin.Pin.{Pin}
use Rattle.bye_node.specs.declared.pin.Pin.TheVariants.{Free, Must, Never}
use Rattle.bye_member.specs.declared.answering.AnsErr.{AnsErr}
use Rattle.bye_member.specs.declared.answering.AnsErr.TheVariants as errors
use Rattle.bye_member.specs.declared.lines.Stop.{Stop}
use Rattle.bye_member.specs.declared.lines.Stop.TheVariants as stops
use Rattle.bye_member.specs.Downs.{DescendsBy}
use Rattle.bye_member.specs.Lines.{project}
use Rattle.bye_member.specs.Searches.{IsPinned, Task}

-- how many rows a table of answers has at most
abbrev pub most_rows : ℕ
most_rows = 1048576

-- the table has the selected variables, and the answers of the query (SPARQL 1.1 Query, section 18.5), each once
pub record AreAnswers (g : List Statement) (q : Select) (t : TableValue) : Type 0 where
  pub vars : t.vars ≡ q.vars
  pub only : (m : Mapping) → In (mappings t) m → IsAnswer g q.vars (alg q) m
  pub whole : (m : Mapping) → IsAnswer g q.vars (alg q) m → In (mappings t) m
  pub once : EachOnce (mappings t)
  pub few : length t.rows ≤ most_rows

-- the query has more answers than that
abbrev pub HasMore : List Statement → Select → Type 0
HasMore g q = (ms : List Mapping) × EachOnce ms × (most_rows < length ms) × ((m : Mapping) → In ms m → IsAnswer g q.vars (alg q) m)

-- the place of a variable among those that have numbers; that of any other variable is past their end
abbrev pub IsPlaceOf : List Name → Name → ℕ → Type 0
IsPlaceOf vs v i = (slice_get vs i ≡ Some v) ⊎ ((In vs v → ⊥) × (length vs ≤ i))

abbrev pub ArePlaces : List Name → List Name → List ℕ → Type 0
ArePlaces vs [] [] = Unit {0}
ArePlaces vs [] (i ∷ places) = ⊥
ArePlaces vs (v ∷ sel) [] = ⊥
ArePlaces vs (v ∷ sel) (i ∷ places) = IsPlaceOf vs v i × ArePlaces vs sel places

-- these are the mappings by numbers that are rows of the query, and each row is one of them
pub record AreRowsBy (vs : List Name) (g : GraphValue) (q : Select) (Y : Cells → Type 0) : Type 0 where
  pub env : (y : Cells) → Y y → IsEnv vs g y
  pub row : (y : Cells) → Y y → IsRow (statements g) (alg q) (decode vs g.terms y)
  pub whole : (m : Mapping) → IsRow (statements g) (alg q) m → (y : Cells) × Y y × (m ≡ decode vs g.terms y)

-- each of these is one of these mappings on the selected variables
abbrev pub AreOf : List ℕ → (Cells → Type 0) → List Cells → Type 0
AreOf places Y rows = (r : Cells) → In rows r → (y : Cells) × Y y × (r ≡ project places y)

-- what a mapping says of a variable, where it is selected: it has this term, or it is unbound
abbrev pub IsPinOf : List Term → List Name → Mapping → Name → Pin → Type 0
IsPinOf terms sel m v Free = In sel v → ⊥
IsPinOf terms sel m v (Must n) = In sel v × (t : Term) × (m v ≡ Some t) × (slice_get terms n ≡ Some t)
IsPinOf terms sel m v Never = In sel v × (m v ≡ None)

-- and of each of these variables
abbrev pub ArePins : List Term → List Name → Mapping → List Name → List Pin → Type 0
ArePins terms sel m [] [] = Unit {0}
ArePins terms sel m [] (pin ∷ pins) = ⊥
ArePins terms sel m (v ∷ vs) [] = ⊥
ArePins terms sel m (v ∷ vs) (pin ∷ pins) = IsPinOf terms sel m v pin × ArePins terms sel m vs pins

-- the mapping gives the variable a term that is none of these
abbrev pub IsForeign : List Term → Mapping → Name → Type 0
IsForeign terms m v = (t : Term) × (m v ≡ Some t) × (In terms t → ⊥)

-- and it gives some variable such a term
abbrev pub HasForeign : List Term → Mapping → Type 0
HasForeign terms m = (v : Name) × IsForeign terms m v

-- the mapping binds selected variables that have numbers alone, and the pins are what it says of the variables
pub record Asks (terms : List Term) (vs sel : List Name) (m : Mapping) (pins : List Pin) : Type 0 where
  pub are : ArePins terms sel m vs pins
  pub known : (v : Name) → Binds m v → In sel v × In vs v

-- some variable that it binds is not selected, or has no number, or it gives one a term that is none of these
abbrev pub IsNoRow : List Term → List Name → List Name → Mapping → Type 0
IsNoRow terms vs sel m = ((v : Name) → Binds m v → In sel v × In vs v × ((t : Term) → m v ≡ Some t → In terms t)) → ⊥

-- what is searched in: a tree, and the further expressions of its root's FILTERs
abbrev pub over : Tree → List Expr → Select
over t outer = record { distinct = true; vars = []; tree = t; outer = map expr_of outer }

-- a way down the tree to a mapping by numbers that has what is wanted
pub record IsWay (task : Task) (t : Tree) (y : Cells) : Type 0 where
  pub down : DescendsBy task.vars task.graph (over t task.outer) y
  pub pinned : IsPinned task.pins y

-- more rows than so many, each that of such a way
abbrev pub HasOver : Task → Tree → ℕ → Type 0
HasOver task t limit = (rows : List Cells) × EachOnce rows × (limit < length rows) × AreOf task.selected (IsWay task t) rows

-- the error that a stop becomes
abbrev pub IsStop : Stop → AnsErr → Type 0
IsStop stops.Full e = e ≡ errors.TooManyRows
IsStop stops.Memory e = e ≡ errors.Memory

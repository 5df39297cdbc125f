-- What a search goes through, and the rows that it leads to.
use Rattle.std.specs.Prelude.{◌≡◌, ℕ, Bool, true, false, List, Option, Some, None, length, map, ◌⊎◌}
use Rattle.bye_terms.specs.Members.{In}
use Rattle.bye_table.specs.Mappings.{Name, nothing}
use Rattle.bye_pattern.specs.Conditions.{AllHoldExpr}
use Rattle.bye_pattern.specs.Trees.{Forest, Tree, more}
use Rattle.bye_laws.specs.Reaching.{children}
use Rattle.bye_tree.specs.Exprs.{expr_of}
use Rattle.bye_tree.specs.declared.expr.Expr.{Expr}
use Rattle.bye_graph.specs.Graphs.{GraphValue}
use Rattle.bye_node.specs.Envs.{Cells, blank, cell}
use Rattle.bye_node.specs.declared.pin.Pin.{Pin}
use Rattle.bye_node.specs.Pins.{AgreesWith, pin_at}
use Rattle.bye_node.specs.declared.pin.Pin.TheVariants.{Free, Must, Never}
use Rattle.bye_node.specs.Steps.{IsStepBy, decode}
use Rattle.bye_member.specs.Downs.{DownBy}
use Rattle.bye_member.specs.Lines.{project}

-- what is asked of a graph: the variables by their numbers, the further expressions of the root's FILTERs, what is wanted of each
-- variable, and the variables that are selected
pub record Task : Type 0 where
  pub graph : GraphValue
  pub vars : List Name
  pub outer : List Expr
  pub pins : List Pin
  pub selected : List ℕ

-- a variable has the number that is wanted, or none where none is wanted
abbrev pub Keeps : Pin → Option ℕ → Type 0
Keeps Free number = Unit {0}
Keeps (Must wanted) number = number ≡ Some wanted
Keeps Never number = number ≡ None

-- each number of the mapping is allowed, and each that has to be there is
pub record IsPinned (pins : List Pin) (y : Cells) : Type 0 where
  pub agrees : AgreesWith pins y
  pub bound : (i n : ℕ) → pin_at pins i ≡ Must n → cell y i ≡ Some n

-- the mapping is what is wanted, and the further expressions hold on it
pub record IsWanted (task : Task) (y : Cells) : Type 0 where
  pub pinned : IsPinned task.pins y
  pub outer : AllHoldExpr (map expr_of task.outer) (decode task.vars task.graph.terms y)

-- the row is that of a wanted mapping to which the way down through these groups leads from z
pub record LeadsTo (task : Task) (f : Forest) (z : Cells) (r : Cells) : Type 0 where
  pub y : Cells
  pub down : DownBy task.vars task.graph z f y
  pub wanted : IsWanted task y
  pub row : r ≡ project task.selected y

-- and from some of these mappings
abbrev pub Reached : Task → Forest → (Cells → Type 0) → Cells → Type 0
Reached task f Z r = (z : Cells) × Z z × LeadsTo task f z r

-- rows were added, none but these
pub record Adds (old new : List Cells) (P : Cells → Type 0) : Type 0 where
  pub kept : (r : Cells) → In old r → In new r
  pub only : (r : Cells) → In new r → In old r ⊎ P r

-- each of these is there
abbrev pub HasAll : List Cells → (Cells → Type 0) → Type 0
HasAll rows P = (r : Cells) → P r → In rows r

-- whether there was one of these mappings; without, there is none that agrees with the pins
pub record Tells (pins : List Pin) (Z : Cells → Type 0) (found : Bool) : Type 0 where
  pub some : found ≡ true → (z : Cells) × Z z
  pub none : found ≡ false → (z : Cells) → Z z → AgreesWith pins z → ⊥

-- whether there is one of these mappings
pub record Has (Z : Cells → Type 0) (found : Bool) : Type 0 where
  pub some : found ≡ true → (z : Cells) × Z z
  pub none : found ≡ false → (z : Cells) → Z z → ⊥

-- The rows of the way through this group are all there, or the group has no values.
pub record Enters (task : Task) (t : Tree) (f : Forest) (e : Cells) (rows : List Cells) (entered : Bool) : Type 0 where
  pub all : entered ≡ true → HasAll rows (LeadsTo task (more t f) e)
  pub none : entered ≡ false → (z : Cells) → IsStepBy nothing task.vars task.graph e t z → ⊥

-- the row is that of a wanted mapping to which the way down through the tree leads
abbrev pub IsRowOf : Task → Tree → Cells → Type 0
IsRowOf task t r = Reached task (children t) (IsStepBy nothing task.vars task.graph (blank (length task.vars)) t) r

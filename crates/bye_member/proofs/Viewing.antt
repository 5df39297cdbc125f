-- What is said of a graph with its variables and of no row beside them, said of a task.
use Rattle.std.proofs.Common.{◌≡◌, Bool, true, false, List, [], Option, Some, None, MatchOption, option_map, ◌↔◌, map, subst}
use Rattle.bye_table.specs.Mappings.{Name, Pairs, nothing, row_mapping}
use Rattle.bye_pattern.specs.declared.cond.Cond.{Cond}
use Rattle.bye_pattern.specs.Conditions.{AllHoldExpr}
use Rattle.bye_pattern.specs.Patterns.{Pattern}
use Rattle.bye_tree.specs.Exprs.{expr_of}
use Rattle.bye_tree.specs.declared.expr.Expr.{Expr}
use Rattle.bye_graph.specs.Graphs.{GraphValue}
use Rattle.bye_node.specs.declared.env.Shape.{Shape}
use Rattle.bye_node.specs.Conds.{Fits}
use Rattle.bye_node.specs.Envs.{Cells, IsFirst}
use Rattle.bye_node.specs.Steps.{AreShapes, HasLost, beside, decode, pattern_in}
use Rattle.bye_member.specs.Searches.{Has, Task}

-- the parts of the view are those of the task
pub record IsView (vars : List Name) (graph : GraphValue) (vs : List Name) (g : GraphValue) (row : Pairs) : Type 0 where
  pub names : vs ≡ vars
  pub graphs : g ≡ graph
  pub rows : row ≡ []

-- a fact of the view is one of the task
of_view : (P : List Name → GraphValue → Pairs → Type 0) (vars : List Name) (graph : GraphValue) (vs : List Name) (g : GraphValue) (row : Pairs) → IsView vars graph vs g row → P vs g row → P vars graph []
of_view P vars graph vs g row is h =
    subst (λ vs. P vs graph []) is.names (subst (λ g. P vs g []) is.graphs (subst (λ row. P vs g row) is.rows h))

pub truth_of : (task : Task) (vs : List Name) (g : GraphValue) (row : Pairs) (outer : List Expr) (e : Cells) (b : Bool) → IsView task.vars task.graph vs g row → outer ≡ task.outer
    → (b ≡ true) ↔ AllHoldExpr (map expr_of outer) (beside (row_mapping row) vs g.terms e) → (b ≡ true) ↔ AllHoldExpr (map expr_of task.outer) (decode task.vars task.graph.terms e)
truth_of task vs g row outer e b is same h =
    of_view (λ vs g row. (b ≡ true) ↔ AllHoldExpr (map expr_of task.outer) (beside (row_mapping row) vs g.terms e)) task.vars task.graph vs g row is
    (subst (λ outer. (b ≡ true) ↔ AllHoldExpr (map expr_of outer) (beside (row_mapping row) vs g.terms e)) same h)

-- whether there are values
has_first : (task : Task) (conds : List Cond) (shapes : List Shape) (e z : Cells) (b : Bool) → IsFirst (Fits nothing task.vars task.graph conds shapes e) e b z → Has (Fits nothing task.vars task.graph conds shapes e) b
has_first task conds shapes e z true h = record { some = λ t. (z, h); none = λ t. cc }
has_first task conds shapes e z false h = record { some = λ t. cc; none = λ t. h.1 }

pub has_of : (task : Task) (vs : List Name) (g : GraphValue) (row : Pairs) (conds : List Cond) (shapes : List Shape) (e copy z : Cells) (b : Bool) → IsView task.vars task.graph vs g row → copy ≡ e
    → IsFirst (Fits (row_mapping row) vs g conds shapes copy) copy b z → Has (Fits nothing task.vars task.graph conds shapes e) b
has_of task vs g row conds shapes e copy z b is same h =
    has_first task conds shapes e z b
    (subst (λ e. IsFirst (Fits nothing task.vars task.graph conds shapes e) e b z) same
    (of_view (λ vs g row. IsFirst (Fits (row_mapping row) vs g conds shapes copy) copy b z) task.vars task.graph vs g row is h))

-- the shapes that were made
match_items : {X : Type 0} (P : Type 0) (Q : List Shape → Type 0) (items : X → List Shape) (o : Option X) → MatchOption o P (λ x. Q (items x)) → MatchOption (option_map items o) P Q
match_items P Q items None h = h
match_items P Q items (Some x) h = h

pub shapes_of : {X : Type 0} (vars : List Name) (graph : GraphValue) (vs : List Name) (g : GraphValue) (row : Pairs) (ps qs : List Pattern) (items : X → List Shape) (o : Option X) → IsView vars graph vs g row → qs ≡ ps
    → MatchOption o (HasLost vs g.terms (map (pattern_in (row_mapping row)) qs)) (λ x. AreShapes vs g.terms (map (pattern_in (row_mapping row)) qs) (items x))
    → MatchOption (option_map items o) (HasLost vars graph.terms (map (pattern_in nothing) ps)) (AreShapes vars graph.terms (map (pattern_in nothing) ps))
shapes_of vars graph vs g row ps qs items o is same h =
    match_items _ (AreShapes vars graph.terms (map (pattern_in nothing) ps)) items o
    (of_view (λ vs g row. MatchOption o (HasLost vs g.terms (map (pattern_in (row_mapping row)) ps)) (λ x. AreShapes vs g.terms (map (pattern_in (row_mapping row)) ps) (items x))) vars graph vs g row is
    (subst (λ ps. MatchOption o (HasLost vs g.terms (map (pattern_in (row_mapping row)) ps)) (λ x. AreShapes vs g.terms (map (pattern_in (row_mapping row)) ps) (items x))) same h))

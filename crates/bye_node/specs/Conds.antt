-- Conditions as tests, and the mappings by numbers that fit shapes and conditions.
use Rattle.std.specs.Prelude.{◌≡◌, Bool, true, false, List, Option, Some, None}
use Rattle.std.specs.List.{list_all}
use Rattle.bye_table.specs.Mappings.{Mapping, Name}
use Rattle.bye_pattern.specs.declared.cond.Cond.{Cond}
use Rattle.bye_pattern.specs.Conditions.{cond_expr, value}
use Rattle.bye_graph.specs.Graphs.{GraphValue}
use Rattle.bye_node.specs.Envs.{Cells, Fills, Shape}
use Rattle.bye_node.specs.Steps.{beside}

-- whether there is a truth value, and it is true
abbrev pub is_true : Option Bool → Bool
is_true None = false
is_true (Some b) = b

-- whether the condition is true of the mapping: an error is not
abbrev pub holds : Mapping → Cond → Bool
holds m c = is_true (value m (cond_expr c))

-- whether all the conditions are
abbrev pub all_hold : Mapping → List Cond → Bool
all_hold m cs = list_all (holds m) cs

-- z is e with numbers for holes of the shapes, each shape under it is a triple, and the conditions hold on the row and it
pub record Fits (row : Mapping) (vs : List Name) (g : GraphValue) (cs : List Cond) (shapes : List Shape) (e z : Cells) : Type 0 where
  pub fills : Fills g.keys e shapes z
  pub hold : all_hold (beside row vs g.terms z) cs ≡ true

-- The parts of a written group.
use Rattle.std.specs.Prelude.{◌≡◌, List, [], ◌∷◌}
use Rattle.bye_pattern.specs.Patterns.{Pattern}
use Rattle.bye_pattern.specs.Conditions.{Expr}
use Rattle.bye_pattern.specs.Trees.{Tree}
use Rattle.bye_pattern.specs.Nodes.{forest_of}
use Rattle.bye_pattern.specs.Written.{Group, filters, triples}
use Rattle.bye_pattern.specs.Gathered.{optionals}

-- the triples of its blocks, the expressions of its FILTERs, and the trees of its OPTIONALs
pub record IsParts (g : Group) (ps : List Pattern) (es : List Expr) (ts : List Tree) : Type 0 where
  pub triples_are : ps ≡ triples g
  pub tests_are : es ≡ filters g
  pub children_are : forest_of ts ≡ optionals g

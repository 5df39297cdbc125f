-- The way down a tree of OPTIONAL groups by numbers: a group's values are found beside what is bound above it, and a group that
-- has none leaves the mapping as it is (SPARQL 1.1 Query, section 18.5, "LeftJoin").
use Rattle.std.specs.Prelude.{◌≡◌, ℕ, List, [], ◌∷◌, ◌++◌, length, ◌⊎◌}
use Rattle.bye_table.specs.Mappings.{Name, nothing}
use Rattle.bye_pattern.specs.Conditions.{AllHoldExpr}
use Rattle.bye_pattern.specs.Trees.{Forest, Select, Tree, leaf, more, node}
use Rattle.bye_laws.specs.Reaching.{children}
use Rattle.bye_graph.specs.Graphs.{GraphValue}
use Rattle.bye_node.specs.Envs.{Cells, blank}
use Rattle.bye_node.specs.Steps.{IsStepBy, decode}

-- what one child makes of the mapping e: where it has a step, what a step and then its own children make of e; where it has none,
-- e itself. And what all children make of e, one after another.
abbrev mutual
  pub DownChildBy : List Name → GraphValue → Cells → Tree → Cells → Type 0
  DownChildBy vs g e (node ps cs f) y =
      ((z : Cells) × IsStepBy nothing vs g e (node ps cs f) z × DownBy vs g z f y) ⊎ ((y ≡ e) × ((z : Cells) → IsStepBy nothing vs g e (node ps cs f) z → ⊥))

  pub DownBy : List Name → GraphValue → Cells → Forest → Cells → Type 0
  DownBy vs g e leaf z = z ≡ e
  DownBy vs g e (more t f) z = (y : Cells) × DownChildBy vs g e t y × DownBy vs g y f z

-- what a step at the root from the blank mapping, and then the root's children, make, where the further expressions of the root
-- hold on it
abbrev pub DescendsBy : List Name → GraphValue → Select → Cells → Type 0
DescendsBy vs g q y =
    (x : Cells) × IsStepBy nothing vs g (blank (length vs)) q.tree x × DownBy vs g x (children q.tree) y × AllHoldExpr q.outer (decode vs g.terms y)

-- a tree in preorder: each node with the number of nodes below it
abbrev mutual
  pub flat_tree : Tree → List (Tree × ℕ)
  flat_tree (node ps cs f) = (node ps cs f, length (flat f)) ∷ flat f

  pub flat : Forest → List (Tree × ℕ)
  flat leaf = []
  flat (more t f) = flat_tree t ++ flat f

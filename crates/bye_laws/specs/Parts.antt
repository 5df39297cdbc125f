-- Parts of lists and of trees.
use Rattle.std.specs.Prelude.{List}
use Rattle.bye_terms.specs.Members.{In}
use Rattle.bye_pattern.specs.Trees.{Tree, node, Forest, leaf, more}

-- each element of the first list is one of the second
abbrev pub Within : {X : Type 0} → List X → List X → Type 0
Within {X} xs ys = (x : X) → In xs x → In ys x

-- the same for trees of one shape, node by node: the second tree without some of its conjuncts
abbrev mutual
  pub WithinTree : Tree → Tree → Type 0
  WithinTree (node ps cs f) (node qs ds e) = Within ps qs × Within cs ds × WithinForest f e

  pub WithinForest : Forest → Forest → Type 0
  WithinForest leaf leaf = Unit {0}
  WithinForest leaf (more u e) = ⊥
  WithinForest (more t f) leaf = ⊥
  WithinForest (more t f) (more u e) = WithinTree t u × WithinForest f e

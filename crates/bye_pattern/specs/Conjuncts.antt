-- Conjuncts of a tree: each place of one triple pattern or condition at one node.
use Rattle.std.specs.Prelude.{◌≡◌, List, [], ◌∷◌, ◌⊎◌}
use Rattle.bye_pattern.specs.declared.cond.Cond.{Cond}
use Rattle.bye_table.specs.Mappings.{Name, Mapping, Binds}
use Rattle.bye_pattern.specs.Patterns.{Pattern}
use Rattle.bye_pattern.specs.Conditions.{Holds, cond_vars}
use Rattle.bye_pattern.specs.Trees.{Tree, node, Forest, leaf, more, Select}
use Rattle.bye_terms.specs.Members.{In}

-- the mapping binds each variable of the condition, and the condition is true
abbrev pub MeetsCond : Mapping → Cond → Type 0
MeetsCond m c = ((v : Name) → In (cond_vars c) v → Binds m v) × Holds m c

-- the list without one of its elements
abbrev pub Less : {X : Type 0} → List X → List X → Type 0
Less [] ys = ⊥
Less {X} (x ∷ xs) ys = (ys ≡ xs) ⊎ ((zs : List X) × Less xs zs × (ys ≡ x ∷ zs))

-- the tree without one of its conjuncts
abbrev mutual
  pub Drops : Tree → Tree → Type 0
  Drops (node ps cs f) u =
      ((qs : List Pattern) × Less ps qs × (u ≡ node qs cs f)) ⊎ (((ds : List Cond) × Less cs ds × (u ≡ node ps ds f)) ⊎ ((e : Forest) × DropsIn f e × (u ≡ node ps cs e)))

  pub DropsIn : Forest → Forest → Type 0
  DropsIn leaf e = ⊥
  DropsIn (more t f) e = ((u : Tree) × Drops t u × (e ≡ more u f)) ⊎ ((g : Forest) × DropsIn f g × (e ≡ more t g))

-- the query without one of the conjuncts of its tree
abbrev pub DropsConjunct : Select → Select → Type 0
DropsConjunct q r = (t : Tree) × Drops q.tree t × (r ≡ record { distinct = q.distinct; vars = q.vars; tree = t; outer = q.outer })

-- Well-designed trees (after Pérez, Arenas and Gutierrez, "Semantics and Complexity of SPARQL", section 4), by four rules for each node.
use Rattle.std.specs.Prelude.{◌≡◌, ℕ, ◌+◌, List, [], ◌∷◌, ◌++◌, ◌⊎◌}
use Rattle.std.specs.List.{AllByRecursion}
use Rattle.bye_terms.specs.Members.{In}
use Rattle.bye_pattern.specs.declared.cond.Cond.{Cond}
use Rattle.bye_pattern.specs.declared.rule.Rule.{Rule}
use Rattle.bye_pattern.specs.declared.rule.Rule.TheVariants.{NoTriples, NoNewVariable, NotWellDesigned, UnsafeCondition}
use Rattle.bye_table.specs.Mappings.{Name}
use Rattle.bye_pattern.specs.Patterns.{Pattern, all_vars}
use Rattle.bye_pattern.specs.Conditions.{cond_vars}
use Rattle.bye_pattern.specs.Trees.{Tree, node, Forest, leaf, more, tree_vars}

-- a variable of the node's triples that is in no ancestor's triples
abbrev pub IsNew : List Name → List Pattern → Name → Type 0
IsNew above ps v = In (all_vars ps) v × (In above v → ⊥)

-- each variable of a condition occurs in the node's own triples or in its parent's
abbrev pub IsSafe : List Name → List Pattern → Cond → Type 0
IsSafe parent ps c = (v : Name) → In (cond_vars c) v → In (all_vars ps) v ⊎ In parent v

-- A rule at a node. Of other nodes it sees the variables of the triples: those of its parent, those of all its ancestors
-- (above), and those of the earlier nodes in preorder that are no ancestors (beside).
abbrev pub Keeps : List Name → List Name → List Name → List Pattern → List Cond → Rule → Type 0
-- it has a triple pattern
Keeps parent above beside ps cs NoTriples = ps ≡ [] → ⊥
-- it has a new variable
Keeps parent above beside ps cs NoNewVariable = (v : Name) × IsNew above ps v
-- each variable of its triples that is not new occurs in its parent's triples, and no new one in an earlier node that is no ancestor
Keeps parent above beside ps cs NotWellDesigned =
    ((v : Name) → In (all_vars ps) v → In above v → In parent v) × ((v : Name) → IsNew above ps v → In beside v → ⊥)
-- its conditions are safe
Keeps parent above beside ps cs UnsafeCondition = AllByRecursion (IsSafe parent ps) cs

abbrev mutual
  pub IsDesigned : List Name → List Name → List Name → Tree → Type 0
  IsDesigned parent above beside (node ps cs f) =
      ((rule : Rule) → Keeps parent above beside ps cs rule) × AreDesigned (all_vars ps) (above ++ all_vars ps) beside f

  pub AreDesigned : List Name → List Name → List Name → Forest → Type 0
  AreDesigned parent above beside leaf = Unit {0}
  AreDesigned parent above beside (more t f) = IsDesigned parent above beside t × AreDesigned parent above (beside ++ tree_vars t) f

-- each node keeps each rule
abbrev pub IsWellDesigned : Tree → Type 0
IsWellDesigned t = IsDesigned [] [] [] t

-- the first rule of these that is broken
abbrev pub IsFirstBroken : (Rule → Type 0) → List Rule → Rule → Type 0
IsFirstBroken Kept [] rule = ⊥
IsFirstBroken Kept (r ∷ rs) rule = ((r ≡ rule) × (Kept r → ⊥)) ⊎ (Kept r × IsFirstBroken Kept rs rule)

-- the rules in the order in which they are judged
abbrev pub rules : List Rule
rules = NoTriples ∷ NoNewVariable ∷ NotWellDesigned ∷ UnsafeCondition ∷ []

-- the first node in preorder that breaks a rule, by the numbers of the children on its path from the root, and its first broken rule
abbrev mutual
  pub BreaksAt : List Name → List Name → List Name → Tree → List ℕ → Rule → Type 0
  BreaksAt parent above beside (node ps cs f) path rule =
      ((path ≡ []) × IsFirstBroken (Keeps parent above beside ps cs) rules rule)
      ⊎ (((r : Rule) → Keeps parent above beside ps cs r) × BreaksIn (all_vars ps) (above ++ all_vars ps) beside 1 f path rule)

  pub BreaksIn : List Name → List Name → List Name → ℕ → Forest → List ℕ → Rule → Type 0
  BreaksIn parent above beside n leaf path rule = ⊥
  BreaksIn parent above beside n (more t f) path rule =
      ((rest : List ℕ) × (path ≡ n ∷ rest) × BreaksAt parent above beside t rest rule)
      ⊎ (IsDesigned parent above beside t × BreaksIn parent above (beside ++ tree_vars t) (n + 1) f path rule)

-- the tree breaks this rule first, at the node of this path
abbrev pub IsBroken : Tree → List ℕ → Rule → Type 0
IsBroken t path rule = BreaksAt [] [] [] t path rule

-- The four rules at once, where `seen` are the variables of all earlier nodes.
pub record IsGroup (parent seen : List Name) (ps : List Pattern) (cs : List Cond) : Type 0 where
  pub shared : (v : Name) → In (all_vars ps) v → In seen v → In parent v
  pub new : (v : Name) × In (all_vars ps) v × (In seen v → ⊥)
  pub safe : AllByRecursion (IsSafe parent ps) cs

abbrev mutual
  pub IsTree : List Name → List Name → Tree → Type 0
  IsTree parent seen (node ps cs f) = IsGroup parent seen ps cs × IsForest (all_vars ps) (seen ++ all_vars ps) f

  pub IsForest : List Name → List Name → Forest → Type 0
  IsForest parent seen leaf = Unit {0}
  IsForest parent seen (more t f) = IsTree parent seen t × IsForest parent (seen ++ tree_vars t) f

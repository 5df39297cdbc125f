-- A tree compiled for a graph: its groups in preorder, each with its patterns by numbers.
use Rattle.std.specs.Prelude.{◌≡◌, ℕ, ◌+◌, List, [], ◌∷◌, Option, Some, None, MatchOption, length, map}
use Rattle.bye_terms.specs.declared.term.Term.{Term}
use Rattle.bye_table.specs.Mappings.{Name, nothing}
use Rattle.bye_pattern.specs.declared.cond.Cond.{Cond}
use Rattle.bye_pattern.specs.Trees.{Forest, Tree, forest_vars, own_conds, own_triples}
use Rattle.bye_graph.specs.Graphs.{GraphValue}
use Rattle.bye_node.specs.declared.env.Shape.{Shape}
use Rattle.bye_node.specs.Steps.{AreListed, AreShapes, HasLost, pattern_in}
use Rattle.bye_member.specs.Downs.{flat}

-- a group: its patterns by numbers, where each of their terms has one, its conditions, and how many groups are below it
pub record Planned : Type 0 where
  pub shapes : Option (List Shape)
  pub conds : List Cond
  pub below : ℕ

-- what is compiled of a group that has so many groups below it
pub record IsPlanned (vs : List Name) (terms : List Term) (t : Tree) (count : ℕ) (p : Planned) : Type 0 where
  pub shapes : MatchOption p.shapes (HasLost vs terms (map (pattern_in nothing) (own_triples t))) (AreShapes vs terms (map (pattern_in nothing) (own_triples t)))
  pub conds : p.conds ≡ own_conds t
  pub below : p.below ≡ count

-- and of groups, each with the number of those below it
abbrev pub ArePlanned : List Name → List Term → List (Tree × ℕ) → List Planned → Type 0
ArePlanned vs terms [] [] = Unit {0}
ArePlanned vs terms [] (p ∷ ps) = ⊥
ArePlanned vs terms (t ∷ ts) [] = ⊥
ArePlanned vs terms (t ∷ ts) (p ∷ ps) = IsPlanned vs terms t.0 t.1 p × ArePlanned vs terms ts ps

-- the plan of groups one beside another, all of whose variables are listed
pub record IsPlan (vs : List Name) (g : GraphValue) (f : Forest) (plan : List Planned) : Type 0 where
  pub listed : AreListed nothing vs (forest_vars f)
  pub entries : ArePlanned vs g.terms (flat f) plan

-- how many shapes a group has
abbrev pub count : Option (List Shape) → ℕ
count None = 0
count (Some shapes) = length shapes

-- how many shapes there are in all
abbrev pub room : List Planned → ℕ
room [] = 0
room (p ∷ ps) = count p.shapes + room ps

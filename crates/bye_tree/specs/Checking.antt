-- What the walk over a tree or a written group answers.
use Rattle.std.specs.Prelude.{◌≡◌, ℕ, ◌+◌, List, [], ◌∷◌, ◌++◌, reverse}
use Rattle.bye_table.specs.Mappings.{Name}
use Rattle.bye_pattern.specs.declared.rule.Rule.{Rule}
use Rattle.bye_pattern.specs.Trees.{Tree}
use Rattle.bye_pattern.specs.Designed.{IsDesigned, BreaksAt}
use Rattle.bye_tree.specs.declared.shape.ShapeErr.{ShapeErr}
use Rattle.bye_tree.specs.declared.shape.ShapeErr.TheVariants.{Broken, Memory}
use Rattle.bye_tree.specs.Judging.{Stands}

-- the refusal names such a path and rule
abbrev pub Names : (List ℕ → Rule → Type 0) → ShapeErr → Type 0
Names P (Broken s) = P s.path.items s.rule
Names P Memory = Unit {0}

-- the same of a refusal whose path is written from the group up
abbrev pub NamesUp : (List ℕ → Rule → Type 0) → ShapeErr → Type 0
NamesUp P (Broken s) = P (reverse s.path.items) s.rule
NamesUp P Memory = Unit {0}

-- the refusal of a group, said of its parent: the path has one number more, which counts from 1
abbrev pub IsUnder : ℕ → ShapeErr → ShapeErr → Type 0
IsUnder index (Broken s) (Broken t) = (t.path.items ≡ s.path.items ++ (index + 1) ∷ []) × (t.rule ≡ s.rule)
IsUnder index Memory (Broken t) = ⊥
IsUnder index e Memory = Unit {0}

-- the refusal from the root down of one that is written from the group up
abbrev pub IsTurned : ShapeErr → ShapeErr → Type 0
IsTurned (Broken s) (Broken t) = (t.path.items ≡ reverse s.path.items) × (t.rule ≡ s.rule)
IsTurned Memory (Broken t) = ⊥
IsTurned e Memory = Unit {0}

-- each node of the tree keeps each rule, wherever the code's lists stand for those of the definitions
abbrev pub IsDesignedHere : List Name → List Name → List Name → Tree → Type 0
IsDesignedHere parent above seen t = (p a b : List Name) → Stands parent above seen p a b → IsDesigned p a b t

-- the tree breaks the rule first at this path
abbrev pub BreaksHere : List Name → List Name → List Name → Tree → List ℕ → Rule → Type 0
BreaksHere parent above seen t path rule = (p a b : List Name) → Stands parent above seen p a b → BreaksAt p a b t path rule

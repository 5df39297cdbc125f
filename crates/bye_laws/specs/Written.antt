-- What is said of written queries: that they are read as well-designed trees, with the same answers, or name a broken rule.
use Rattle.bye_pattern.specs.Selects.{IsSelect}
use Rattle.bye_pattern.specs.Optional.{InOptional}
use Rattle.bye_pattern.specs.Classes.{InAnd}
use Rattle.bye_pattern.specs.declared.level.Level.{Level}
use Rattle.std.specs.Prelude.{◌≡◌, ℕ, List, None, ◌⊎◌, ◌↔◌, [], Some, false}
use Rattle.std.specs.List.{AllByRecursion}
use Rattle.bye_terms.specs.Terms.{Statement}
use Rattle.bye_terms.specs.Members.{EachOnce, In}
use Rattle.bye_table.specs.Mappings.{Mapping, Name}
use Rattle.bye_pattern.specs.declared.rule.Rule.{Rule}
use Rattle.bye_pattern.specs.Algebra.{IsAnswer}
use Rattle.bye_pattern.specs.Trees.{Select, alg, own_vars, tree_vars}
use Rattle.bye_pattern.specs.Designed.{IsWellDesigned}
use Rattle.bye_pattern.specs.Written.{Written}
use Rattle.bye_pattern.specs.Gathered.{HasPlainOptionals, IsBrokenEarly, IsDesignedEarly, IsOuter, IsWrittenAnswer, gather}
use Rattle.bye_pattern.specs.AsWritten.{as_written}

-- a written query that keeps the rules, by what stands before each OPTIONAL, has a well-designed tree
abbrev pub EarlyIsDesigned : Type 0
EarlyIsDesigned = (w : Written) → IsDesignedEarly w → IsWellDesigned (gather w).tree

-- its answers, by its own algebra in the order of the text, are those of the select that it is read as, over every graph
abbrev pub WrittenAnswers : Type 0
WrittenAnswers = (g : List Statement) (w : Written) (m : Mapping) → IsDesignedEarly w → HasPlainOptionals w.group
    → IsWrittenAnswer g w m ↔ IsAnswer g (gather w).vars (alg (gather w)) m

-- a written query keeps these rules, or some node is the first that breaks one; not both, and of the latter one
pub record BrokenOrDesignedEarly : Type 0 where
  pub either : (w : Written) → IsDesignedEarly w ⊎ ((path : List ℕ) × (rule : Rule) × IsBrokenEarly w path rule)
  pub one : (w : Written) (path : List ℕ) (rule : Rule) → IsDesignedEarly w → IsBrokenEarly w path rule → ⊥
  pub first : (w : Written) (path other : List ℕ) (rule next : Rule) → IsBrokenEarly w path rule → IsBrokenEarly w other next → (path ≡ other) × (rule ≡ next)

-- what a written query selects, and the outer expressions of the select that it is read as
pub record GatheredSelects : Type 0 where
  -- `*` selects each variable of the tree's triples, once
  pub once : (w : Written) → w.vars ≡ None → EachOnce (gather w).vars
  pub all : (w : Written) (v : Name) → w.vars ≡ None → In (gather w).vars v ↔ In (tree_vars (gather w).tree) v
  -- each outer expression is one conjunct, and no plain condition whose variables all occur in the root's triples
  pub outer : (w : Written) → AllByRecursion (IsOuter (own_vars (gather w).tree)) (gather w).outer

-- the query as which a SELECT of the program is written is read as this SELECT, and keeps the rules; its FILTERs are of the grammar's form
pub record ReadBack : Type 0 where
  pub gathers : (q : Select) → IsSelect q → gather (as_written q) ≡ q
  pub designed : (q : Select) → IsSelect q → IsDesignedEarly (as_written q)
  pub plain : (q : Select) → HasPlainOptionals (as_written q).group

-- what is learned, and what a written query that keeps the rules is read as, is a SELECT of the program: it selects a variable and
-- none twice, and all of the tree's without DISTINCT
pub record ReadAsSelects : Type 0 where
  pub conjunction : (level : Level) (q : Select) → InAnd level q → IsSelect q
  pub optional : (level : Level) (rows : List Mapping) (q : Select) → InOptional level rows q → IsSelect q
  pub written : (w : Written) → IsDesignedEarly w → ((vs : List Name) → w.vars ≡ Some vs → (vs ≡ [] → ⊥) × EachOnce vs)
      → (w.distinct ≡ false → (v : Name) → In (tree_vars (gather w).tree) v → In (gather w).vars v) → IsSelect (gather w)

-- The select that a written query is read as: each group becomes a node with the triples of all its blocks (SPARQL 1.1 Query, section
-- 18.2.2, collects the FILTERs of a group in the same way), and the four rules of well-designed trees for groups as they are written.
use Rattle.std.specs.Prelude.{◌≡◌, ℕ, ◌+◌, not, cond, List, [], ◌∷◌, ◌++◌, Option, Some, None, IsSome, is_some, ◌⊎◌}
use Rattle.std.specs.List.{AllByRecursion, filter, filter_map, flat_map, list_all}
use Rattle.std.specs.Str.{bytes_eq}
use Rattle.bye_terms.specs.Members.{In}
use Rattle.bye_terms.specs.Terms.{Statement}
use Rattle.bye_table.specs.Mappings.{Name, Mapping, is_in}
use Rattle.bye_pattern.specs.declared.slot.Slot.TheVariants.{Var, Const}
use Rattle.bye_pattern.specs.declared.cond.Cond.{Cond}
use Rattle.bye_pattern.specs.declared.cond.Cond.TheVariants as conds
use Rattle.bye_pattern.specs.declared.rule.Rule.{Rule}
use Rattle.bye_pattern.specs.Patterns.{Pattern, all_vars}
use Rattle.bye_pattern.specs.Conditions.{Expr, IsBound, Same, KindOf, And, cond_vars}
use Rattle.bye_pattern.specs.Algebra.{IsAnswer}
use Rattle.bye_pattern.specs.Trees.{Tree, node, Forest, leaf, more, Select, tree_vars}
use Rattle.bye_pattern.specs.Designed.{Keeps, IsFirstBroken, rules}
use Rattle.bye_pattern.specs.Written.{Group, Block, Optional, Filter, done, also, Written, triples, filters, written_alg}

-- the plain condition that an expression is, where it is one; sameTerm has its constant on either side
abbrev pub plain : Expr → Option Cond
plain (IsBound v) = Some (conds.Bound v)
plain (KindOf kind (Var v)) = Some (conds.KindOf kind v)
plain (Same (Var v) (Var w)) = Some (conds.SameVar v w)
plain (Same (Var v) (Const c)) = Some (conds.SameConst v c)
plain (Same (Const c) (Var v)) = Some (conds.SameConst v c)
plain _ = None

-- the conjuncts of an expression, split at its outermost `&&`
abbrev pub conjuncts : Expr → List Expr
conjuncts (And d e) = conjuncts d ++ conjuncts e
conjuncts e = e ∷ []

-- the conjuncts of the group's own FILTERs, in order
abbrev pub tests : Group → List Expr
tests g = flat_map conjuncts (filters g)

-- the conditions of an OPTIONAL group's node: all its conjuncts, which are plain by the grammar
abbrev pub plain_tests : Group → List Cond
plain_tests g = filter_map plain (tests g)

-- the OPTIONALs of a group as the children of its node, in order
abbrev pub optionals : Group → Forest
optionals done = leaf
optionals (also (Block ps) g) = optionals g
optionals (also (Optional h) g) = more (node (triples h) (plain_tests h) (optionals h)) (optionals g)
optionals (also (Filter e) g) = optionals g

-- the node of an OPTIONAL group, with all below it
abbrev pub optional_tree : Group → Tree
optional_tree h = node (triples h) (plain_tests h) (optionals h)

-- the condition, where its variables are all among these
abbrev pub within : List Name → Option Cond → Option Cond
within own None = None
within own (Some c) = cond (list_all (is_in own) (cond_vars c)) (Some c) None

-- the condition of the root that a conjunct of the outermost group's FILTERs is: a plain one over the root's own variables
abbrev pub root_test : List Name → Expr → Option Cond
root_test own e = within own (plain e)

-- the conditions of the root
abbrev pub root_tests : Group → List Cond
root_tests g = filter_map (root_test (all_vars (triples g))) (tests g)

-- the other conjuncts are outer expressions
abbrev pub outer_tests : Group → List Expr
outer_tests g = filter (λ e. not (is_some (root_test (all_vars (triples g)) e))) (tests g)

-- an outer expression is one conjunct, and no plain condition whose variables are all the root's own
abbrev pub IsOuter : List Name → Expr → Type 0
IsOuter own e = (conjuncts e ≡ e ∷ []) × ((c : Cond) → plain e ≡ Some c → ((v : Name) → In (cond_vars c) v → In own v) → ⊥)

-- the tree of the outermost group
abbrev pub gathered_tree : Group → Tree
gathered_tree g = node (triples g) (root_tests g) (optionals g)

-- each name once, where it stands first
abbrev pub firsts : List Name → List Name
firsts [] = []
firsts (v ∷ vs) = v ∷ filter (λ w. not (bytes_eq v w)) (firsts vs)

-- the selected variables: those that are named, or else those of the tree's triples in order of first occurrence, node by node in preorder
abbrev pub selected : Option (List Name) → Tree → List Name
selected None t = firsts (tree_vars t)
selected (Some vs) t = vs

-- the select that a written query is read as
abbrev pub gather : Written → Select
gather w = record {
  distinct = w.distinct;
  vars = selected w.vars (gathered_tree w.group);
  tree = gathered_tree w.group;
  outer = outer_tests w.group;
}

-- the answers of a written query: the rows of its own algebra, restricted to the selected variables
abbrev pub IsWrittenAnswer : List Statement → Written → Mapping → Type 0
IsWrittenAnswer g w m = IsAnswer g (gather w).vars (written_alg w) m

-- each FILTER of an OPTIONAL group is a conjunction of plain conditions, as the grammar has it
abbrev pub HasPlainOptionals : Group → Type 0
HasPlainOptionals done = Unit {0}
HasPlainOptionals (also (Block ps) g) = HasPlainOptionals g
HasPlainOptionals (also (Optional h) g) = AllByRecursion (λ e. IsSome (plain e)) (tests h) × HasPlainOptionals h × HasPlainOptionals g
HasPlainOptionals (also (Filter e) g) = HasPlainOptionals g

-- each rule is kept at a node
abbrev pub KeepsEach : List Name → List Name → List Name → List Pattern → List Cond → Type 0
KeepsEach parent above beside ps cs = (rule : Rule) → Keeps parent above beside ps cs rule

-- The four rules at the OPTIONALs of a group and below them. In place of its parent's triples each sees the early ones alone: those of
-- its parent's blocks that stand before it. All other nodes it sees with their whole triples (above, beside), as in a tree.
abbrev pub AreDesignedEarly : List Name → List Name → List Name → Group → Type 0
AreDesignedEarly early above beside done = Unit {0}
AreDesignedEarly early above beside (also (Block ps) g) = AreDesignedEarly (early ++ all_vars ps) above beside g
AreDesignedEarly early above beside (also (Optional h) g) =
    KeepsEach early above beside (triples h) (plain_tests h) × AreDesignedEarly [] (above ++ all_vars (triples h)) beside h
    × AreDesignedEarly early above (beside ++ tree_vars (optional_tree h)) g
AreDesignedEarly early above beside (also (Filter e) g) = AreDesignedEarly early above beside g

-- each node keeps each rule, by what stands before it
pub record IsDesignedEarly (w : Written) : Type 0 where
  pub root : KeepsEach [] [] [] (triples w.group) (root_tests w.group)
  pub below : AreDesignedEarly [] (all_vars (triples w.group)) [] w.group

-- the path ends at this node, and the rule is the first that it breaks
abbrev pub BreaksHere : List Name → List Name → List Name → List Pattern → List Cond → List ℕ → Rule → Type 0
BreaksHere parent above beside ps cs path rule = (path ≡ []) × IsFirstBroken (Keeps parent above beside ps cs) rules rule

-- the first node below a group that breaks a rule, by the numbers of the OPTIONALs on its path, and its first broken rule
abbrev pub BreaksEarly : List Name → List Name → List Name → ℕ → Group → List ℕ → Rule → Type 0
BreaksEarly early above beside n done path rule = ⊥
BreaksEarly early above beside n (also (Block ps) g) path rule = BreaksEarly (early ++ all_vars ps) above beside n g path rule
BreaksEarly early above beside n (also (Optional h) g) path rule =
    ((rest : List ℕ) × (path ≡ n ∷ rest)
    × (BreaksHere early above beside (triples h) (plain_tests h) rest rule
    ⊎ (KeepsEach early above beside (triples h) (plain_tests h) × BreaksEarly [] (above ++ all_vars (triples h)) beside 1 h rest rule)))
    ⊎ (KeepsEach early above beside (triples h) (plain_tests h) × AreDesignedEarly [] (above ++ all_vars (triples h)) beside h
    × BreaksEarly early above (beside ++ tree_vars (optional_tree h)) (n + 1) g path rule)
BreaksEarly early above beside n (also (Filter e) g) path rule = BreaksEarly early above beside n g path rule

-- the written query breaks this rule first, at the node of this path
abbrev pub IsBrokenEarly : Written → List ℕ → Rule → Type 0
IsBrokenEarly w path rule =
    BreaksHere [] [] [] (triples w.group) (root_tests w.group) path rule
    ⊎ (KeepsEach [] [] [] (triples w.group) (root_tests w.group) × BreaksEarly [] (all_vars (triples w.group)) [] 1 w.group path rule)

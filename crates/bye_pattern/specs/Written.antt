-- Written queries: the elements of a group in the order of the text (SPARQL 1.1 Query, sections 5.2 and 6), and their translation to
-- the algebra (section 18.2.2).
use Rattle.std.specs.Prelude.{Bool, List, [], ◌∷◌, ◌++◌, Option}
use Rattle.bye_table.specs.Mappings.{Name}
use Rattle.bye_pattern.specs.Patterns.{Pattern}
use Rattle.bye_pattern.specs.Conditions.{Expr}
use Rattle.bye_pattern.specs.Algebra.{Alg, Bgp, Join, LeftJoin}
use Rattle.bye_pattern.specs.Algebra as algebra

-- an element is a block of triple patterns, an OPTIONAL with its group, or a FILTER with its expression
mutual
  pub data Element : Type 0 where
    Block : List Pattern → Element
    Optional : Group → Element
    Filter : Expr → Element

  pub data Group : Type 0 where
    done : Group
    also : Element → Group → Group

-- the group of these elements
abbrev pub group_of : List Element → Group
group_of [] = done
group_of (e ∷ es) = also e (group_of es)

-- SELECT, with DISTINCT or without, of these variables, or of all where there are none (`*`), over this group
pub record Written : Type 0 where
  pub distinct : Bool
  pub vars : Option (List Name)
  pub group : Group

-- the triple patterns of all blocks of the group, in order
abbrev pub triples : Group → List Pattern
triples done = []
triples (also (Block ps) g) = ps ++ triples g
triples (also (Optional h) g) = triples g
triples (also (Filter e) g) = triples g

-- the expressions of the group's own FILTERs, in order
abbrev pub filters : Group → List Expr
filters done = []
filters (also (Block ps) g) = filters g
filters (also (Optional h) g) = filters g
filters (also (Filter e) g) = e ∷ filters g

-- what stands before a block, joined with it; nothing is joined where no block stands
abbrev pub with_block : Alg → List Pattern → Alg
with_block a [] = a
with_block a (p ∷ ps) = Join a (Bgp (p ∷ ps))

-- The rest of a group, where a is what stands before and ps is the block that is not at its end yet: blocks between which only
-- FILTERs stand are one block. An OPTIONAL is a LeftJoin with its group, under the expressions of that group's FILTERs.
abbrev pub walk_on : Alg → List Pattern → Group → Alg
walk_on a ps done = with_block a ps
walk_on a ps (also (Block qs) g) = walk_on a (ps ++ qs) g
walk_on a ps (also (Optional h) g) = walk_on (LeftJoin (with_block a ps) (walk_on (Bgp []) [] h) (filters h)) [] g
walk_on a ps (also (Filter e) g) = walk_on a ps g

-- a group without its FILTERs, beginning with the pattern of no triples
abbrev pub walk : Group → Alg
walk g = walk_on (Bgp []) [] g

-- the FILTERs of the outermost group are applied to the whole
abbrev pub written_alg : Written → Alg
written_alg w = algebra.Filter (filters w.group) (walk w.group)

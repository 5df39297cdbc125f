-- Which variables the rows of a tree's algebra bind.
use Rattle.std.proofs.Common.{List, [], ◌++◌, map, inl, inr, ⊎_elim, subst}
use Rattle.bye_terms.specs.Terms.{Statement}
use Rattle.bye_terms.specs.Members.{In}
use Rattle.bye_terms.proofs.Members.{in_cases, in_left, in_right}
use Rattle.bye_table.specs.Mappings.{Name, Mapping, Binds}
use Rattle.bye_pattern.specs.Patterns.{all_vars}
use Rattle.bye_pattern.specs.Conditions.{cond_expr}
use Rattle.bye_pattern.specs.Algebra.{Alg, Bgp, LeftJoin, IsRow, IsAnswer}
use Rattle.bye_pattern.specs.Trees.{Tree, node, Forest, leaf, more, body, joined, tree_vars, forest_vars, own_conds, Select, alg}
use Rattle.bye_table.proofs.Merging.{merge_bound, restrict_binds}
use Rattle.bye_pattern.proofs.Solutions.{row_meets}

-- the rows bind variables of this list alone
unfoldable pub Stays : List Statement → Alg → List Name → Type 0
Stays g a vs = (m : Mapping) (v : Name) → IsRow g a m → Binds m v → In vs v

mutual
  unfolding Stays

  pub body_stays : (g : List Statement) (t : Tree) → Stays g (body t) (tree_vars t)
  body_stays g (node ps cs f) = joined_stays g (Bgp ps) (all_vars ps) f (λ m v row h. ((row_meets g ps m row).0 v).0 h)

  joined_stays : (g : List Statement) (a : Alg) (vs : List Name) (f : Forest) → Stays g a vs → Stays g (joined a f) (vs ++ forest_vars f)
  joined_stays g a vs leaf stays m v row h = in_left vs [] v (stays m v row h)
  joined_stays g a vs (more t f) stays m v row h =
      ⊎_elim
      (λ k. ⊎_elim (λ k. in_left vs (forest_vars (more t f)) v k) (λ k. in_right vs (forest_vars (more t f)) v (in_left (tree_vars t) (forest_vars f) v k)) (in_cases vs (tree_vars t) v k))
      (λ k. in_right vs (forest_vars (more t f)) v (in_right (tree_vars t) (forest_vars f) v k))
      (in_cases (vs ++ tree_vars t) (forest_vars f) v
      (joined_stays g (LeftJoin a (body t) (map cond_expr (own_conds t))) (vs ++ tree_vars t) f (left_stays g a vs t stays (body_stays g t)) m v row h))

  left_stays : (g : List Statement) (a : Alg) (vs : List Name) (t : Tree) → Stays g a vs → Stays g (body t) (tree_vars t)
      → Stays g (LeftJoin a (body t) (map cond_expr (own_conds t))) (vs ++ tree_vars t)
  left_stays g a vs (node ps cs f) stays below m v (x, row, inl (b, extra, same, all, e)) h =
      ⊎_elim (λ k. in_left vs _ v (stays x v row k)) (λ k. in_right vs _ v (below b v extra k)) (merge_bound x b v (subst (λ m. Binds m v) e h))
  left_stays g a vs (node ps cs f) stays below m v (x, row, inr (e, none)) h = in_left vs _ v (stays x v row (subst (λ m. Binds m v) e h))

pub answer_binds : (g : List Statement) (q : Select) (m : Mapping) (v : Name) → IsAnswer g q.vars (alg q) m → Binds m v → In q.vars v × In (tree_vars q.tree) v
unfolding Stays
answer_binds g q m v (n, row, e) h =
    let w = restrict_binds q.vars n v (subst (λ m. Binds m v) e h) in
    (w.0, body_stays g q.tree n v row.0 w.1)

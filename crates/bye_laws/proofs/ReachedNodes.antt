-- The rows of a well-designed tree, node by node.
use Rattle.std.proofs.Common.{refl, List, [], ◌∷◌, map, ◌⊎◌, inl, inr, ⊎_elim, sym, subst}
use Rattle.std.specs.List.{AllByRecursion}
use Rattle.bye_terms.specs.Members.{In}
use Rattle.bye_terms.specs.Terms.{Statement}
use Rattle.bye_terms.proofs.Lists.{all_join, all_parts}
use Rattle.bye_pattern.specs.Algebra.{IsRow}
use Rattle.bye_pattern.specs.Conditions.{AllHoldExpr, HoldsExpr, cond_expr}
use Rattle.bye_pattern.specs.Conjuncts.{MeetsCond}
use Rattle.bye_pattern.specs.Designed.{IsTree, IsWellDesigned}
use Rattle.bye_table.specs.Mappings.{Binds, Mapping, Name}
use Rattle.bye_pattern.specs.Trees.{Forest, Select, Tree, alg, leaf, more, node, own_conds, own_vars}
use Rattle.bye_pattern.proofs.FourRules.{at_once}
use Rattle.bye_table.proofs.Merging.{not_bound, some_or_none}
use Rattle.bye_laws.specs.Reaching.{BindsAll, IsChild, IsReached, IsReachedIn, MeetsNode, NoValues, Reaches, children}
use Rattle.bye_laws.proofs.Reached.{BelowForest, BelowTree, InReached, InReachedForest, Reached, complete_tree, sound_tree}
use Rattle.bye_laws.proofs.Telling.{all_hold_expr, all_meet_expr}

-- the root is reached
pub self_reached : (m : Mapping) (t : Tree) → IsReached m t t
self_reached m (node ps cs f) = inl refl

-- a child of a reached node is reached where its variables are bound
child_reached : (m : Mapping) (f : Forest) (c : Tree) → IsChild f c → BindsAll m c → IsReachedIn m f c
child_reached m leaf c child all = absurd child
child_reached m (more t f) c (inl e) all = inl (subst (BindsAll m) e all, subst (IsReached m t) (sym e) (self_reached m t))
child_reached m (more t f) c (inr h) all = inr (child_reached m f c h all)

-- the same from anywhere in the tree
mutual
  reached_child : (m : Mapping) (t u c : Tree) → IsReached m t u → IsChild (children u) c → BindsAll m c → IsReached m t c
  reached_child m (node ps cs f) u c (inl e) child all = inr (child_reached m f c (subst (λ u. IsChild (children u) c) e child) all)
  reached_child m (node ps cs f) u c (inr h) child all = inr (reached_child_in m f u c h child all)

  reached_child_in : (m : Mapping) (f : Forest) (u c : Tree) → IsReachedIn m f u → IsChild (children u) c → BindsAll m c → IsReachedIn m f c
  reached_child_in m leaf u c h child all = absurd h
  reached_child_in m (more t f) u c (inl (every, h)) child all = inl (every, reached_child m t u c h child all)
  reached_child_in m (more t f) u c (inr h) child all = inr (reached_child_in m f u c h child all)

-- the variables of reached nodes, with the node and without
mutual
  node_of : (m : Mapping) (t : Tree) (v : Name) → InReached m t v → (u : Tree) × IsReached m t u × In (own_vars u) v
  node_of m (node ps cs f) v (inl h) = (node ps cs f, inl refl, h)
  node_of m (node ps cs f) v (inr h) = let w = node_in m f v h in (w.0, inr w.1, w.2)

  node_in : (m : Mapping) (f : Forest) (v : Name) → InReachedForest m f v → (u : Tree) × IsReachedIn m f u × In (own_vars u) v
  node_in m leaf v h = absurd h
  node_in m (more t f) v (inl (every, h)) = let w = node_of m t v h in (w.0, inl (every, w.1), w.2)
  node_in m (more t f) v (inr h) = let w = node_in m f v h in (w.0, inr w.1, w.2)

-- a variable of a reached node
mutual
  of_node : (m : Mapping) (t u : Tree) (v : Name) → IsReached m t u → In (own_vars u) v → InReached m t v
  of_node m (node ps cs f) u v (inl e) h = inl (subst (λ u. In (own_vars u) v) e h)
  of_node m (node ps cs f) u v (inr k) h = inr (of_node_in m f u v k h)

  of_node_in : (m : Mapping) (f : Forest) (u : Tree) (v : Name) → IsReachedIn m f u → In (own_vars u) v → InReachedForest m f v
  of_node_in m leaf u v k h = absurd k
  of_node_in m (more t f) u v (inl (every, k)) h = inl (every, of_node m t u v k h)
  of_node_in m (more t f) u v (inr k) h = inr (of_node_in m f u v k h)

-- what the mapping says at a reached node
record Here (g : List Statement) (m : Mapping) (t : Tree) : Type 0 where
  meets : MeetsNode g m t
  below : BelowTree g m t

-- what is said at each reached node
mutual
  here_at : (g : List Statement) (m : Mapping) (t : Tree) → Here g m t → (u : Tree) → IsReached m t u → Here g m u
  here_at g m (node ps cs f) here u (inl e) = subst (Here g m) (sym e) here
  here_at g m (node ps cs f) here u (inr h) = here_in g m f here.below u h

  here_in : (g : List Statement) (m : Mapping) (f : Forest) → BelowForest g m f → (u : Tree) → IsReachedIn m f u → Here g m u
  here_in g m leaf below u h = absurd h
  here_in g m (more t f) below u (inl (every, h)) =
      ⊎_elim (λ k. here_at g m t (record { meets = k.1; below = k.2 }) u h) (λ k. absurd (k.0 every)) below.0
  here_in g m (more t f) below u (inr h) = here_in g m f below.1 u h

-- a child that is not reached has no values
pub child_below : (g : List Statement) (m : Mapping) (f : Forest) (c : Tree) → BelowForest g m f → IsChild f c → (BindsAll m c → ⊥) → NoValues g m c
child_below g m leaf c below h shut = absurd h
child_below g m (more t f) c below (inl e) shut =
    ⊎_elim (λ k. absurd (shut (subst (BindsAll m) (sym e) k.0))) (λ k. subst (NoValues g m) (sym e) k.1) below.0
child_below g m (more t f) c below (inr h) shut = child_below g m f c below.1 h shut

-- what holds below the children
pub tree_below : (g : List Statement) (m : Mapping) (t : Tree) → BelowTree g m t → BelowForest g m (children t)
tree_below g m (node ps cs f) below = below

-- by recursion, then node by node
of_reached : (g : List Statement) (t : Tree) (m : Mapping) → Reached g t m → AllByRecursion (MeetsCond m) (own_conds t) → Reaches g t m
of_reached g t m r conds =
    let here : Here g m t = record { meets = (r.own, conds); below = r.below } in
    record {
      within = λ v h. node_of m t v (r.binds v h);
      binds = λ u k v h. r.bound v (of_node m t u v k h);
      meets = λ u k. (here_at g m t here u k).meets;
      none = λ u c k child shut. child_below g m (children u) c (tree_below g m u (here_at g m t here u k).below) child shut;
    }

-- whether all of these are bound
pub names_bound : (m : Mapping) (vs : List Name) → ((v : Name) → In vs v → Binds m v) ⊎ (((v : Name) → In vs v → Binds m v) → ⊥)
names_bound m [] = inl (λ v h. absurd h)
names_bound m (w ∷ vs) =
    ⊎_elim
    (λ b. ⊎_elim (λ all. inl (λ v h. ⊎_elim (λ e. subst (λ v. Binds m v) e b) (λ k. all v k) h)) (λ shut. inr (λ all. shut (λ v h. all v (inr h)))) (names_bound m vs))
    (λ e. inr (λ all. not_bound (m w) e (all w (inl refl)))) (some_or_none (m w))

-- node by node, then by recursion
mutual
  below_from : (g : List Statement) (root : Tree) (m : Mapping) → Reaches g root m → (t : Tree) → IsReached m root t → BelowTree g m t
  below_from g root m r (node ps cs f) here = below_in g root m r (node ps cs f) here f (λ c h. h)

  below_in : (g : List Statement) (root : Tree) (m : Mapping) → Reaches g root m → (u : Tree) → IsReached m root u → (f : Forest) → ((c : Tree) → IsChild f c → IsChild (children u) c) → BelowForest g m f
  below_in g root m r u here leaf child = tt
  below_in g root m r u here (more t f) child = (
    ⊎_elim
        (λ every. let there = reached_child m root u t here (child t (inl refl)) every in inl (every, r.meets t there, below_from g root m r t there))
        (λ shut. inr (shut, r.none u t here (child t (inl refl)) shut))
        (names_bound m (own_vars t)),
    below_in g root m r u here f (λ c h. child c (inr h)),
  )

-- the two forms are the same
from_nodes : (g : List Statement) (t : Tree) (m : Mapping) → Reaches g t m → Reached g t m
from_nodes g t m r = record {
  binds = λ v h. let w = r.within v h in of_node m t w.0 v w.1 w.2;
  bound = λ v h. let w = node_of m t v h in r.binds w.0 w.1 v w.2;
  own = (r.meets t (self_reached m t)).0;
  below = below_from g t m r t (self_reached m t);
}

-- the root's filter, beside the rows of its body
pub row_reached : (g : List Statement) (q : Select) (m : Mapping) → IsTree [] [] q.tree → IsRow g (alg q) m
    → Reached g q.tree m × AllByRecursion (MeetsCond m) (own_conds q.tree) × AllHoldExpr q.outer m
row_reached g q m designed row =
    let parts = all_parts (HoldsExpr m) (map cond_expr (own_conds q.tree)) q.outer row.1 in
    (sound_tree g [] [] q.tree designed m row.0, all_meet_expr m (own_conds q.tree) parts.0, parts.1)

-- and back
pub reached_row : (g : List Statement) (q : Select) (m : Mapping) → IsTree [] [] q.tree → Reached g q.tree m → AllByRecursion (MeetsCond m) (own_conds q.tree) → AllHoldExpr q.outer m
    → IsRow g (alg q) m
reached_row g q m designed r conds outer =
    (complete_tree g [] [] q.tree designed m r, all_join (HoldsExpr m) (map cond_expr (own_conds q.tree)) q.outer (all_hold_expr m (own_conds q.tree) conds) outer)

-- a row, node by node
pub row_reaches : (g : List Statement) (q : Select) (m : Mapping) → IsWellDesigned q.tree → IsRow g (alg q) m → Reaches g q.tree m × AllHoldExpr q.outer m
row_reaches g q m designed row =
    let r = row_reached g q m ((at_once q.tree).0 designed) row in (of_reached g q.tree m r.0 r.1, r.2)

-- and back
pub reaches_row : (g : List Statement) (q : Select) (m : Mapping) → IsWellDesigned q.tree → Reaches g q.tree m → AllHoldExpr q.outer m → IsRow g (alg q) m
reaches_row g q m designed r outer =
    reached_row g q m ((at_once q.tree).0 designed) (from_nodes g q.tree m r) (r.meets q.tree (self_reached m q.tree)).1 outer

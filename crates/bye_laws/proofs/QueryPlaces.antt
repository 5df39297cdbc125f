-- Places in a query of the class with OPTIONAL groups: parents, and what the wanted rows say of a node's conjuncts.
use Rattle.bye_pattern.specs.declared.level.Level.{Level}
use Rattle.std.proofs.Common.{◌≡◌, refl, List, [], ◌++◌, ◌⊎◌, inl, inr, ⊎_elim, sym, subst}
use Rattle.std.specs.List.{AllByRecursion}
use Rattle.bye_terms.specs.Members.{In}
use Rattle.bye_terms.specs.Terms.{Statement}
use Rattle.bye_terms.proofs.Members.{all_from, all_in}
use Rattle.bye_pattern.specs.declared.cond.Cond.{Cond}
use Rattle.bye_pattern.specs.Classes.{IsClassCond, IsClassTriple}
use Rattle.bye_pattern.specs.Conditions.{cond_vars}
use Rattle.bye_pattern.specs.Conjuncts.{MeetsCond}
use Rattle.bye_pattern.specs.Designed.{IsForest, IsTree}
use Rattle.bye_table.specs.Domains.{IsWithin}
use Rattle.bye_table.specs.Mappings.{Binds, Mapping, Name}
use Rattle.bye_pattern.specs.Optional.{InOptional, IsAncestor, IsNewAt, IsNode, IsNodeIn}
use Rattle.bye_pattern.specs.Patterns.{Meets, Pattern, all_vars}
use Rattle.bye_pattern.specs.Starting.{IsCommonAt, IsCommonCondAt}
use Rattle.bye_pattern.specs.Trees.{Forest, Select, Tree, leaf, more, node, own_conds, own_triples, own_vars, tree_vars}
use Rattle.bye_table.proofs.Merging.{in_or_not}
use Rattle.bye_pattern.proofs.OneGroup.{all_vars_in}
use Rattle.bye_laws.specs.Nodes.{BindsNew, ByNode}
use Rattle.bye_laws.specs.Reaching.{IsChild, MeetsNode, children}
use Rattle.bye_laws.proofs.ByNodes.{Answers, by_nodes, class_at, once_designed, order_at, self_node}
use Rattle.bye_laws.proofs.Withins.{within_row, within_trans}

-- a variable of a node's parent is new at some node around it
mutual
  above : (parent : List Name) (t : Tree) (p : List Name) (u : Tree) (v : Name) → IsNode parent t p u → In p v
      → In parent v ⊎ ((r : List Name) × (w : Tree) × IsNode parent t r w × IsNewAt r w v × IsAncestor w p u)
  above parent (node ps cs f) p u v (inl k) h = inl (subst (λ p. In p v) k.0 h)
  above parent (node ps cs f) p u v (inr k) h =
      ⊎_elim (λ i. ⊎_elim (λ j. inl j) (λ out. inr (parent, node ps cs f, inl (refl, refl), (i, out), k)) (in_or_not parent v))
      (λ w. inr (w.0, w.1, inr w.2, w.3, w.4)) (above_in (all_vars ps) f p u v k h)

  above_in : (parent : List Name) (f : Forest) (p : List Name) (u : Tree) (v : Name) → IsNodeIn parent f p u → In p v
      → In parent v ⊎ ((r : List Name) × (w : Tree) × IsNodeIn parent f r w × IsNewAt r w v × IsAncestor w p u)
  above_in parent leaf p u v k h = absurd k
  above_in parent (more t f) p u v (inl k) h = ⊎_elim (λ j. inl j) (λ w. inr (w.0, w.1, inl w.2, w.3, w.4)) (above parent t p u v k h)
  above_in parent (more t f) p u v (inr k) h = ⊎_elim (λ j. inl j) (λ w. inr (w.0, w.1, inr w.2, w.3, w.4)) (above_in parent f p u v k h)

-- a node is the root or a child
mutual
  pub parent_of : (parent : List Name) (t : Tree) (p : List Name) (u : Tree) → IsNode parent t p u
      → ((p ≡ parent) × (u ≡ t)) ⊎ ((r : List Name) × (w : Tree) × IsNode parent t r w × IsChild (children w) u × (p ≡ own_vars w))
  parent_of parent (node ps cs f) p u (inl k) = inl k
  parent_of parent (node ps cs f) p u (inr k) =
      inr (⊎_elim (λ j. (parent, node ps cs f, inl (refl, refl), j.0, j.1)) (λ w. (w.0, w.1, inr w.2, w.3, w.4)) (parent_in (all_vars ps) f p u k))

  parent_in : (parent : List Name) (f : Forest) (p : List Name) (u : Tree) → IsNodeIn parent f p u
      → (IsChild f u × (p ≡ parent)) ⊎ ((r : List Name) × (w : Tree) × IsNodeIn parent f r w × IsChild (children w) u × (p ≡ own_vars w))
  parent_in parent leaf p u k = absurd k
  parent_in parent (more t f) p u (inl k) = ⊎_elim (λ j. inl (inl j.1, j.0)) (λ w. inr (w.0, w.1, inl w.2, w.3, w.4)) (parent_of parent t p u k)
  parent_in parent (more t f) p u (inr k) = ⊎_elim (λ j. inl (inr j.0, j.1)) (λ w. inr (w.0, w.1, inr w.2, w.3, w.4)) (parent_in parent f p u k)

-- a child is a node
pub child_node : (own : List Name) (f : Forest) (u : Tree) → IsChild f u → IsNodeIn own f own u
child_node own leaf u k = absurd k
child_node own (more t f) u (inl e) = inl (subst (IsNode own t own) (sym e) (self_node own t))
child_node own (more t f) u (inr k) = inr (child_node own f u k)

-- and below its parent
pub child_is_below : (w u : Tree) (p : List Name) → IsChild (children w) u → p ≡ own_vars w → IsAncestor w p u
child_is_below (node ps cs f) u p k e = subst (λ p. IsNodeIn (all_vars ps) f p u) (sym e) (child_node (all_vars ps) f u k)

-- the conditions of each node are safe
mutual
  pub safe_at : (parent seen : List Name) (t : Tree) → IsTree parent seen t → (p : List Name) (u : Tree) → IsNode parent t p u
      → AllByRecursion (λ c. (v : Name) → In (cond_vars c) v → In (own_vars u) v ⊎ In p v) (own_conds u)
  safe_at parent seen (node ps cs f) d p u (inl (e, same)) =
      subst (λ p. AllByRecursion (λ c. (v : Name) → In (cond_vars c) v → In (own_vars u) v ⊎ In p v) (own_conds u)) (sym e)
      (subst (λ u. AllByRecursion (λ c. (v : Name) → In (cond_vars c) v → In (own_vars u) v ⊎ In parent v) (own_conds u)) (sym same) d.0.safe)
  safe_at parent seen (node ps cs f) d p u (inr k) = safe_in (all_vars ps) (seen ++ all_vars ps) f d.1 p u k

  safe_in : (parent seen : List Name) (f : Forest) → IsForest parent seen f → (p : List Name) (u : Tree) → IsNodeIn parent f p u
      → AllByRecursion (λ c. (v : Name) → In (cond_vars c) v → In (own_vars u) v ⊎ In p v) (own_conds u)
  safe_in parent seen leaf d p u k = absurd k
  safe_in parent seen (more t f) d p u (inl k) = safe_at parent seen t d.0 p u k
  safe_in parent seen (more t f) d p u (inr k) = safe_in parent (seen ++ tree_vars t) f d.1 p u k

-- the variables of a node and of its parent are of greater domains than its new ones
pub parent_up : (level : Level) → (rows : List Mapping) (q : Select) → InOptional level rows q → (p : List Name) (u : Tree) → IsNode [] q.tree p u → (x : Name) → IsNewAt p u x → (v : Name) → In p v → IsWithin rows x v
parent_up level rows q class p u k x nx v h =
    ⊎_elim (λ i. absurd i) (λ w. ((order_at level rows q class w.0 w.1 p u v x w.2 k w.3 nx).0 w.4).0) (above [] q.tree p u v k h)

-- the node's own variables are around its new ones
pub own_up : (level : Level) → (rows : List Mapping) (q : Select) → InOptional level rows q → (p : List Name) (u : Tree) → IsNode [] q.tree p u → (x : Name) → IsNewAt p u x → (v : Name) → In (own_vars u) v → IsWithin rows x v
own_up level rows q class p u k x nx v h =
    ⊎_elim (λ i. parent_up level rows q class p u k x nx v i)
    (λ out. let c = class_at level rows q class p u k in within_trans rows x c.0 v ((c.2 x).0 nx).1.1 ((c.2 v).0 (h, out)).1.0) (in_or_not p v)

-- a row that binds one new variable binds all
pub binds_class : (level : Level) → (rows : List Mapping) (m : Mapping) → In rows m → (q : Select) → InOptional level rows q → (p : List Name) (u : Tree) → IsNode [] q.tree p u → (x : Name) → IsNewAt p u x → Binds m x → BindsNew m p u
binds_class level rows m row q class p u k x nx b v nv = within_row rows m x v row (own_up level rows q class p u k x nx v nv.0) b

-- each conjunct of a node is common at its new variables
pub conjuncts_common : (level : Level) → (g : List Statement) (rows : List Mapping) (q : Select) → InOptional level rows q → AllByRecursion (Answers g q) rows → (p : List Name) (u : Tree) → IsNode [] q.tree p u → (x : Name) → IsNewAt p u x
    → ((c : Pattern) → In (own_triples u) c → IsCommonAt g rows x c) × ((c : Cond) → In (own_conds u) c → IsCommonCondAt level rows x c)
conjuncts_common level g rows q class fits p u k x nx =
    let by = (by_nodes level g q rows class).0 fits in
    let met : (m : Mapping) → In rows m → Binds m x → MeetsNode g m u = λ m row b. (all_in (ByNode g q.tree) rows m by row).meets p u k (binds_class level rows m row q class p u k x nx b) in (
      λ c h. record {
        in_class = all_in IsClassTriple (own_triples u) c (class.triples p u k) h;
        over = λ v i. own_up level rows q class p u k x nx v (all_vars_in (own_triples u) c v h i);
        holds = all_from (λ m. Binds m x → Meets g m c) rows (λ m row b. all_in (Meets g m) (own_triples u) c (met m row b).0 h);
      },
      λ c h. record {
        in_class = all_in (IsClassCond level) (own_conds u) c (class.conds p u k) h;
        over = λ v i. ⊎_elim (λ j. own_up level rows q class p u k x nx v j) (λ j. parent_up level rows q class p u k x nx v j)
            (all_in (λ c. (v : Name) → In (cond_vars c) v → In (own_vars u) v ⊎ In p v) (own_conds u) c (safe_at [] [] q.tree (once_designed level rows q class) p u k) h v i);
        holds = all_from (λ m. Binds m x → MeetsCond m c) rows (λ m row b. all_in (MeetsCond m) (own_conds u) c (met m row b).1 h);
      },
    )

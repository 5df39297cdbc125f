-- A fork lets no query of the class with OPTIONAL groups fit.
use Rattle.bye_pattern.specs.declared.level.Level.{Level}
use Rattle.std.proofs.Common.{◌≡◌, List, [], ◌++◌, ◌⊎◌, inl, inr, ⊎_elim, sym, ◌∙◌, subst}
use Rattle.bye_terms.specs.Terms.{Statement}
use Rattle.bye_terms.proofs.Members.{in_right}
use Rattle.bye_pattern.specs.Certificates.{ShowsFork}
use Rattle.bye_pattern.specs.Designed.{IsForest, IsTree}
use Rattle.bye_pattern.specs.Fitting.{NoFit}
use Rattle.bye_table.specs.Mappings.{Mapping, Name}
use Rattle.bye_pattern.specs.Optional.{InOptional, IsAncestor, IsNewAt, IsNode, IsNodeIn}
use Rattle.bye_pattern.specs.Patterns.{all_vars}
use Rattle.bye_pattern.specs.Trees.{Forest, Tree, leaf, more, node, tree_vars}
use Rattle.bye_pattern.proofs.Places.{fresh_in, node_vars}
use Rattle.bye_laws.proofs.ByNodes.{once_designed, order_at}
use Rattle.bye_laws.proofs.Withins.{seen_up, within_or_not, within_trans}

-- what is below a node of a tree is in the tree
mutual
  deeper : (parent : List Name) (t : Tree) (p : List Name) (u : Tree) (r : List Name) (w : Tree) → IsNode parent t p u → IsAncestor u r w → IsNode parent t r w
  deeper parent (node ps cs f) p u r w (inl e) h = inr (subst (λ u. IsAncestor u r w) e.1 h)
  deeper parent (node ps cs f) p u r w (inr k) h = inr (deeper_in (all_vars ps) f p u r w k h)

  deeper_in : (parent : List Name) (f : Forest) (p : List Name) (u : Tree) (r : List Name) (w : Tree) → IsNodeIn parent f p u → IsAncestor u r w → IsNodeIn parent f r w
  deeper_in parent leaf p u r w k h = absurd k
  deeper_in parent (more t f) p u r w (inl k) h = inl (deeper parent t p u r w k h)
  deeper_in parent (more t f) p u r w (inr k) h = inr (deeper_in parent f p u r w k h)

-- of two nodes above a third one is above the other, or they are the same
mutual
  chain : (parent seen : List Name) (t : Tree) → IsTree parent seen t → (p : List Name) (u : Tree) (q : List Name) (v : Tree) (r : List Name) (w : Tree) (x : Name) → IsNewAt r w x
      → IsNode parent t p u → IsNode parent t q v → IsAncestor u r w → IsAncestor v r w → ((p ≡ q) × (u ≡ v)) ⊎ (IsAncestor u q v ⊎ IsAncestor v p u)
  chain parent seen (node ps cs f) d p u q v r w x n (inl a) (inl b) h k = inl (a.0 ∙ sym b.0, a.1 ∙ sym b.1)
  chain parent seen (node ps cs f) d p u q v r w x n (inl a) (inr b) h k = inr (inl (subst (λ u. IsAncestor u q v) (sym a.1) b))
  chain parent seen (node ps cs f) d p u q v r w x n (inr a) (inl b) h k = inr (inr (subst (λ v. IsAncestor v p u) (sym b.1) a))
  chain parent seen (node ps cs f) d p u q v r w x n (inr a) (inr b) h k = chain_in (all_vars ps) (seen ++ all_vars ps) f d.1 p u q v r w x n a b h k

  chain_in : (parent seen : List Name) (f : Forest) → IsForest parent seen f → (p : List Name) (u : Tree) (q : List Name) (v : Tree) (r : List Name) (w : Tree) (x : Name) → IsNewAt r w x
      → IsNodeIn parent f p u → IsNodeIn parent f q v → IsAncestor u r w → IsAncestor v r w → ((p ≡ q) × (u ≡ v)) ⊎ (IsAncestor u q v ⊎ IsAncestor v p u)
  chain_in parent seen leaf d p u q v r w x n a b h k = absurd a
  chain_in parent seen (more t f) d p u q v r w x n (inl a) (inl b) h k = chain parent seen t d.0 p u q v r w x n a b h k
  chain_in parent seen (more t f) d p u q v r w x n (inr a) (inr b) h k = chain_in parent (seen ++ tree_vars t) f d.1 p u q v r w x n a b h k
  chain_in parent seen (more t f) d p u q v r w x n (inl a) (inr b) h k =
      absurd (n.1 (fresh_in parent (seen ++ tree_vars t) f d.1 r w x (deeper_in parent f q v r w b k) n.0 (in_right seen _ x (node_vars parent t r w x (deeper parent t p u r w a h) n.0))))
  chain_in parent seen (more t f) d p u q v r w x n (inr a) (inl b) h k =
      absurd (n.1 (fresh_in parent (seen ++ tree_vars t) f d.1 r w x (deeper_in parent f p u r w a h) n.0 (in_right seen _ x (node_vars parent t r w x (deeper parent t q v r w b k) n.0))))

-- so the two domains around the fork's variable would be comparable
pub fork_none : (level : Level) → (g : List Statement) (rows unwanted : List Mapping) (x y z : Name) → ShowsFork rows x y z → NoFit (InOptional level rows) g rows unwanted
fork_none level g rows unwanted x y z claim q class fits =
    let a = class.covers x claim.seen in
    let b = class.covers y (seen_up rows x y claim.seen claim.first) in
    let c = class.covers z (seen_up rows x z claim.seen claim.second) in
    ⊎_elim (λ up. claim.first_apart (within_trans rows y x z up claim.second))
    (λ y_shut. ⊎_elim (λ up. claim.second_apart (within_trans rows z x y up claim.first))
    (λ z_shut.
    let above_y = (order_at level rows q class b.0 b.1 a.0 a.1 y x b.2 a.2 b.3 a.3).1 (claim.first, y_shut) in
    let above_z = (order_at level rows q class c.0 c.1 a.0 a.1 z x c.2 a.2 c.3 a.3).1 (claim.second, z_shut) in
    ⊎_elim
    (λ same.
    let k = class.classes b.0 b.1 b.2 in
    let l = (k.1.1 y).0 b.3 in
    let r = (k.1.1 z).0 (subst (λ u. IsNewAt b.0 u z) (sym same.1) (subst (λ p. IsNewAt p c.1 z) (sym same.0) c.3)) in
    claim.first_apart (within_trans rows y k.0 z l.1 r.0))
    (λ h. ⊎_elim (λ below. claim.second_apart ((order_at level rows q class b.0 b.1 c.0 c.1 y z b.2 c.2 b.3 c.3).0 below).0)
    (λ below. claim.first_apart ((order_at level rows q class c.0 c.1 b.0 b.1 z y c.2 b.2 c.3 b.3).0 below).0) h)
    (chain [] [] q.tree (once_designed level rows q class) b.0 b.1 c.0 c.1 a.0 a.1 x a.3 b.2 c.2 above_y above_z))
    (within_or_not rows z x)) (within_or_not rows y x)

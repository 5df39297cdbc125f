-- A query of the class with OPTIONAL groups is over each tree of variables that are new at its nodes.
use Rattle.std.proofs.Common.{refl, List, [], ◌++◌, inl, inr, ⊎_elim, sym, subst}
use Rattle.bye_terms.specs.Members.{In}
use Rattle.bye_terms.proofs.Members.{in_right}
use Rattle.bye_table.specs.Domains.{IsWithin}
use Rattle.bye_table.specs.DomainTrees.{Domain, IsLabel, IsLabelIn, Subdomains, also, domain, label, none}
use Rattle.bye_table.specs.Mappings.{Mapping, Name}
use Rattle.bye_table.proofs.Merging.{in_or_not}
use Rattle.bye_pattern.specs.declared.level.Level.{Level}
use Rattle.bye_pattern.specs.Designed.{IsForest, IsTree}
use Rattle.bye_pattern.specs.Optional.{InOptional, IsAncestor, IsNewAt, IsNode, IsNodeIn}
use Rattle.bye_pattern.specs.Patterns.{all_vars}
use Rattle.bye_pattern.specs.Trees.{Forest, Select, Tree, leaf, more, node, own_vars, tree_vars}
use Rattle.bye_pattern.proofs.Places.{fresh_in, node_vars}
use Rattle.bye_laws.specs.LocalPass.{AreOver, IsOver}
use Rattle.bye_laws.specs.QueryDomains.{AreDomains, AreNamedBy, AreNested, AreNestedIn, IsNamedBy, Selects}
use Rattle.bye_laws.proofs.ByNodes.{class_at, new_at, once_designed, order_at}
use Rattle.bye_laws.proofs.QueryPlaces.{own_up, safe_at}
use Rattle.bye_laws.proofs.Withins.{alike_trans, within_or_not, within_self, within_trans}

-- each node has a variable that is new there
mutual
  pub some_name : (level : Level) (rows : List Mapping) (q : Select) → InOptional level rows q → (parent : List Name) (t : Tree)
      → ((p : List Name) (u : Tree) → IsNode parent t p u → IsNode [] q.tree p u) → (d : Domain) × IsNamedBy parent d t
  some_name level rows q class parent (node ps cs f) at =
      let c = class_at level rows q class parent (node ps cs f) (at parent (node ps cs f) (inl (refl, refl))) in
      let below = some_names level rows q class (all_vars ps) f (λ p u k. at p u (inr k)) in
      (domain c.0 below.0, ((c.2 c.0).1 (c.1, (within_self rows c.0, within_self rows c.0)), below.1))

  some_names : (level : Level) (rows : List Mapping) (q : Select) → InOptional level rows q → (parent : List Name) (f : Forest)
      → ((p : List Name) (u : Tree) → IsNodeIn parent f p u → IsNode [] q.tree p u) → (ds : Subdomains) × AreNamedBy parent ds f
  some_names level rows q class parent leaf at = (none, tt)
  some_names level rows q class parent (more t f) at =
      let one = some_name level rows q class parent t (λ p u k. at p u (inl k)) in
      let rest = some_names level rows q class parent f (λ p u k. at p u (inr k)) in
      (also one.0 rest.0, (one.1, rest.1))

-- what names a node is new there
mutual
  pub named_node : (parent : List Name) (d : Domain) (t : Tree) → IsNamedBy parent d t → (y : Name) → IsLabel d y → (p : List Name) × (u : Tree) × IsNode parent t p u × IsNewAt p u y
  named_node parent (domain x ds) (node ps cs f) named y (inl e) = (parent, node ps cs f, inl (refl, refl), subst (IsNewAt parent (node ps cs f)) e named.0)
  named_node parent (domain x ds) (node ps cs f) named y (inr k) = let w = named_nodes (all_vars ps) ds f named.1 y k in (w.0, w.1, inr w.2, w.3)

  pub named_nodes : (parent : List Name) (ds : Subdomains) (f : Forest) → AreNamedBy parent ds f → (y : Name) → IsLabelIn ds y → (p : List Name) × (u : Tree) × IsNodeIn parent f p u × IsNewAt p u y
  named_nodes parent none f named y k = absurd k
  named_nodes parent (also d ds) leaf named y k = absurd named
  named_nodes parent (also d ds) (more t f) named y (inl k) = let w = named_node parent d t named.0 y k in (w.0, w.1, inl w.2, w.3)
  named_nodes parent (also d ds) (more t f) named y (inr k) = let w = named_nodes parent ds f named.1 y k in (w.0, w.1, inr w.2, w.3)

-- each node has its name
mutual
  node_name : (parent : List Name) (d : Domain) (t : Tree) → IsNamedBy parent d t → (p : List Name) (u : Tree) → IsNode parent t p u → (y : Name) × IsLabel d y × IsNewAt p u y
  node_name parent (domain x ds) (node ps cs f) named p u (inl (e, same)) =
      (x, inl refl, subst (λ p. IsNewAt p u x) (sym e) (subst (λ u. IsNewAt parent u x) (sym same) named.0))
  node_name parent (domain x ds) (node ps cs f) named p u (inr k) = let w = node_names (all_vars ps) ds f named.1 p u k in (w.0, inr w.1, w.2)

  node_names : (parent : List Name) (ds : Subdomains) (f : Forest) → AreNamedBy parent ds f → (p : List Name) (u : Tree) → IsNodeIn parent f p u → (y : Name) × IsLabelIn ds y × IsNewAt p u y
  node_names parent ds leaf named p u k = absurd k
  node_names parent none (more t f) named p u k = absurd named
  node_names parent (also d ds) (more t f) named p u (inl k) = let w = node_name parent d t named.0 p u k in (w.0, inl w.1, w.2)
  node_names parent (also d ds) (more t f) named p u (inr k) = let w = node_names parent ds f named.1 p u k in (w.0, inr w.1, w.2)

-- what is below a node of a tree is of the tree
mutual
  deeper : (parent : List Name) (t : Tree) (r : List Name) (w : Tree) (p : List Name) (u : Tree) → IsNode parent t r w → IsAncestor w p u → IsNode parent t p u
  deeper parent (node ps cs f) r w p u (inl (e, same)) k = inr (subst (λ w. IsAncestor w p u) same k)
  deeper parent (node ps cs f) r w p u (inr h) k = inr (deeper_in (all_vars ps) f r w p u h k)

  deeper_in : (parent : List Name) (f : Forest) (r : List Name) (w : Tree) (p : List Name) (u : Tree) → IsNodeIn parent f r w → IsAncestor w p u → IsNodeIn parent f p u
  deeper_in parent leaf r w p u h k = absurd h
  deeper_in parent (more t f) r w p u (inl h) k = inl (deeper parent t r w p u h k)
  deeper_in parent (more t f) r w p u (inr h) k = inr (deeper_in parent f r w p u h k)

-- of nodes beside one another neither domain is within the other
apart : (level : Level) (rows : List Mapping) (q : Select) → InOptional level rows q → (parent seen : List Name) (t : Tree) (f : Forest) → IsForest parent seen (more t f)
    → ((p : List Name) (u : Tree) → IsNode parent t p u → IsNode [] q.tree p u) → ((p : List Name) (u : Tree) → IsNodeIn parent f p u → IsNode [] q.tree p u)
    → (p : List Name) (u : Tree) (r : List Name) (w : Tree) (x y : Name) → IsNode parent t p u → IsNodeIn parent f r w → IsNewAt p u x → IsNewAt r w y
    → (IsWithin rows x y → ⊥) × (IsWithin rows y x → ⊥)
apart level rows q class parent seen t f designed at at_later p u r w x y h k nx ny = (
  (λ up. ⊎_elim (λ back. alike (up, back))
      (λ shut. nx.1 (fresh_in parent (seen ++ tree_vars t) f designed.1 p u x
      (deeper_in parent f r w p u k ((order_at level rows q class r w p u y x (at_later r w k) (at p u h) ny nx).1 (up, shut)))
      nx.0 (in_right seen (tree_vars t) x (node_vars parent t p u x h nx.0))))
      (within_or_not rows y x)),
  (λ back. ⊎_elim (λ up. alike (up, back))
      (λ shut. ny.1 (fresh_in parent (seen ++ tree_vars t) f designed.1 r w y k ny.0 (in_right seen (tree_vars t) y
      (node_vars parent t r w y (deeper parent t p u r w h ((order_at level rows q class p u r w x y (at p u h) (at_later r w k) nx ny).1 (back, shut))) ny.0))))
      (within_or_not rows x y)),
)
  where
    alike : IsWithin rows x y × IsWithin rows y x → ⊥
    alike same =
        let c = class_at level rows q class p u (at p u h) in
        let d = class_at level rows q class r w (at_later r w k) in
        let own = (c.2 y).1 (((d.2 y).0 ny).0, alike_trans rows c.0 x y ((c.2 x).0 nx).1 same) in
        ny.1 (fresh_in parent (seen ++ tree_vars t) f designed.1 r w y k ny.0 (in_right seen (tree_vars t) y (node_vars parent t p u y h own.0)))

-- so each node is over its domain, and the domains are nested
mutual
  over_names : (level : Level) (rows : List Mapping) (q : Select) → InOptional level rows q → (parent seen : List Name) (d : Domain) (t : Tree) → IsTree parent seen t
      → ((p : List Name) (u : Tree) → IsNode parent t p u → IsNode [] q.tree p u) → IsNamedBy parent d t → IsOver level rows parent d t × AreNested rows d
  over_names level rows q class parent seen (domain x ds) (node ps cs f) designed at named =
      let u : Tree = node ps cs f in
      let place = at parent u (inl (refl, refl)) in
      let k = class_at level rows q class parent u place in
      let mine = (k.2 x).0 named.0 in
      let below = over_names_in level rows q class (all_vars ps) (seen ++ all_vars ps) ds f designed.1 (λ p u k. at p u (inr k)) named.1 in (
        (
          record {
            over = λ v h. own_up level rows q class parent u place x named.0 v h;
            cover = λ v s same. ((k.2 v).1 (s, alike_trans rows k.0 x v mine.1 same)).0;
            rises = λ v h shut. ⊎_elim (λ j. j) (λ out. absurd (shut (within_trans rows v k.0 x ((k.2 v).0 (h, out)).1.1 mine.1.0))) (in_or_not parent v);
            safe = safe_at [] [] q.tree (once_designed level rows q class) parent u place;
            triples = class.triples parent u place;
            conds = class.conds parent u place;
          },
          below.0,
        ),
        (
          (λ y h.
              let w = named_nodes (all_vars ps) ds f named.1 y h in
              (order_at level rows q class parent u w.0 w.1 x y place (at w.0 w.1 (inr w.2)) named.0 w.3).0 w.2),
          below.1,
        ),
      )

  over_names_in : (level : Level) (rows : List Mapping) (q : Select) → InOptional level rows q → (parent seen : List Name) (ds : Subdomains) (f : Forest) → IsForest parent seen f
      → ((p : List Name) (u : Tree) → IsNodeIn parent f p u → IsNode [] q.tree p u) → AreNamedBy parent ds f → AreOver level rows parent ds f × AreNestedIn rows ds
  over_names_in level rows q class parent seen none leaf designed at named = (tt, tt)
  over_names_in level rows q class parent seen none (more t f) designed at named = absurd named
  over_names_in level rows q class parent seen (also d ds) leaf designed at named = absurd named
  over_names_in level rows q class parent seen (also d ds) (more t f) designed at named =
      let one = over_names level rows q class parent seen d t designed.0 (λ p u k. at p u (inl k)) named.0 in
      let rest = over_names_in level rows q class parent (seen ++ tree_vars t) ds f designed.1 (λ p u k. at p u (inr k)) named.1 in (
        (one.0, rest.0),
        (
          (λ x y h k.
              let a = named_node parent d t named.0 x h in
              let b = named_nodes parent ds f named.1 y k in
              apart level rows q class parent seen t f designed (λ p u k. at p u (inl k)) (λ p u k. at p u (inr k)) a.0 a.1 b.0 b.1 x y a.2 b.2 a.3 b.3),
          one.1,
          rest.1,
        ),
      )

-- the root's name is one of its variables
root_name : (d : Domain) (t : Tree) → IsNamedBy [] d t → In (own_vars t) (label d)
root_name (domain x ds) (node ps cs f) named = named.0.0

-- the query of the class selects what the rows bind
pub selects_seen : (level : Level) (rows : List Mapping) (q : Select) → InOptional level rows q → Selects rows q.vars
selects_seen level rows q class = record {
  once = class.once;
  same = λ v. (
    (λ h. ⊎_elim (λ n. absurd n) (λ w. (((class_at level rows q class w.0 w.1 w.2).2 v).0 w.3).0) (new_at [] q.tree v ((class.selects v).0 h))),
    (λ s. let w = class.covers v s in (class.selects v).1 (node_vars [] q.tree w.0 w.1 v w.2 w.3.0)),
  );
}

-- a query of the class is over any tree of names of its nodes
pub over_domains : (level : Level) (rows : List Mapping) (q : Select) (d : Domain) → InOptional level rows q → IsNamedBy [] d q.tree → AreDomains rows d × IsOver level rows [] d q.tree × Selects rows q.vars
over_domains level rows q d class named =
    let w = over_names level rows q class [] [] d q.tree (once_designed level rows q class) (λ p u k. k) named in (
      record {
        seen = λ y h. let a = named_node [] d q.tree named y h in (((class_at level rows q class a.0 a.1 a.2).2 y).0 a.3).0;
        covers = λ v s.
            let a = class.covers v s in
            let b = node_name [] d q.tree named a.0 a.1 a.2 in
            let c = class_at level rows q class a.0 a.1 a.2 in
            let y = ((c.2 b.0).0 b.2).1 in
            (b.0, b.1, alike_trans rows b.0 c.0 v (y.1, y.0) ((c.2 v).0 a.3).1);
        ordered = w.1;
        root = class.whole (label d) (root_name d q.tree named);
      },
      w.0,
      selects_seen level rows q class,
    )

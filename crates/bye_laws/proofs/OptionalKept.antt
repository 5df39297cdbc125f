-- The class with OPTIONAL groups: one pass from a right start gives a right query that is minimal.
use Rattle.bye_pattern.specs.declared.level.Level.{Level}
use Rattle.std.proofs.Common.{refl, List, [], inl, inr, ⊎_elim, ◌↔◌}
use Rattle.std.specs.List.{AllByRecursion}
use Rattle.bye_terms.specs.Members.{In}
use Rattle.bye_terms.specs.Terms.{Statement}
use Rattle.bye_terms.proofs.Members.{all_from, all_in}
use Rattle.bye_pattern.specs.declared.class.Class.TheVariants.{Optional}
use Rattle.bye_pattern.specs.Classes.{IsClassCond, IsClassTriple}
use Rattle.bye_pattern.specs.Conjuncts.{Drops}
use Rattle.bye_table.specs.Domains.{IsWithin}
use Rattle.bye_pattern.specs.Keeping.{IsRight, IsThinnedTree}
use Rattle.bye_table.specs.Mappings.{Mapping, Name}
use Rattle.bye_pattern.specs.Optional.{InOptional, IsNewAt, IsNode, IsNodeIn}
use Rattle.bye_pattern.specs.Patterns.{all_vars}
use Rattle.bye_table.specs.DomainTrees.{Domain, Subdomains, also, domain, none}
use Rattle.bye_pattern.specs.Trees.{Forest, Select, Tree, leaf, more, node, plain_select}
use Rattle.bye_table.proofs.Merging.{in_or_not}
use Rattle.bye_pattern.proofs.Places.{fresh}
use Rattle.bye_laws.specs.LocalPass.{AreOver, ByDomain, IsOver}
use Rattle.bye_laws.specs.Nodes.{ByNode}
use Rattle.bye_laws.specs.QueryDomains.{AreDomains, Selects}
use Rattle.bye_laws.specs.Reaching.{IsChild}
use Rattle.bye_laws.proofs.ByNodes.{by_nodes, class_at, once_designed, order_at}
use Rattle.bye_laws.proofs.Conjunctions.{all_vars_within, all_within}
use Rattle.bye_laws.specs.QueryDomains.{AreDomains}
use Rattle.bye_laws.proofs.Labels.{Here, HereIn, by_labels, here_down, here_first, here_rest, over_selects, root_here}
use Rattle.bye_laws.proofs.Lifts.{by_lifts, over_lifts}
use Rattle.bye_laws.proofs.Over.{over_optional}
use Rattle.bye_laws.proofs.PassMaps.{tree_map, tree_trans, within_drops, within_tree}
use Rattle.bye_laws.specs.Parts.{WithinForest, WithinTree}
use Rattle.bye_laws.proofs.Passes.{thin_tree, tree_within}
use Rattle.bye_laws.proofs.QueryPlaces.{child_node, safe_at}
use Rattle.bye_laws.proofs.Withins.{within_or_not, within_self, within_trans}

-- a query of the class within a tree over a domain tree is over it
mutual
  labels : (level : Level) → (rows : List Mapping) (q : Select) → InOptional level rows q → (high low : List Name) (d : Domain) (t u : Tree) → Here level rows high d t → WithinTree u t
      → ((p : List Name) (v : Tree) → IsNode low u p v → IsNode [] q.tree p v) → ((v : Name) → IsNewAt low u v → In high v → ⊥) → IsOver level rows low d u
  labels level rows q class high low (domain x ds) (node ps cs f) (node qs es h) here w at fresh =
      let u = node qs es h in
      let place = at low u (inl (refl, refl)) in
      let k = class_at level rows q class low u place in
      let new = (k.2 k.0).1 (k.1, (within_self rows k.0, within_self rows k.0)) in
      let own : (v : Name) → In (all_vars qs) v → In (all_vars ps) v = λ v i. all_vars_within qs ps v w.0 i in
      let up : IsWithin rows x k.0 = here.over.0.over k.0 (own k.0 new.0) in
      let back : IsWithin rows k.0 x = ⊎_elim (λ i. i) (λ shut. absurd (fresh k.0 new (here.over.0.rises k.0 (own k.0 new.0) shut))) (within_or_not rows k.0 x) in (
        record {
          over = λ v i. here.over.0.over v (own v i);
          cover = λ v s same. ((k.2 v).1 (s, (within_trans rows k.0 x v back same.0, within_trans rows v x k.0 same.1 up))).0;
          rises = λ v i shut. ⊎_elim (λ j. j) (λ out. absurd (shut (within_trans rows v k.0 x ((k.2 v).0 (i, out)).1.1 back))) (in_or_not low v);
          safe = safe_at [] [] q.tree (once_designed level rows q class) low u place;
          triples = all_within IsClassTriple qs ps w.0 here.over.0.triples;
          conds = all_within (IsClassCond level) es cs w.1 here.over.0.conds;
        },
        labels_in level rows q class (all_vars ps) (all_vars qs) ds f h (here_down level rows high x ds ps cs f here) w.2 (λ p v i. at p v (inr i))
            (λ c child v nv i. ((order_at level rows q class low u (all_vars qs) c k.0 v place (at (all_vars qs) c (inr (child_node (all_vars qs) h c child))) new nv).0 (child_node (all_vars qs) h c child)).1
            (within_trans rows k.0 x v back (here.over.0.over v i))),
      )

  labels_in : (level : Level) → (rows : List Mapping) (q : Select) → InOptional level rows q → (high low : List Name) (ds : Subdomains) (f h : Forest) → HereIn level rows high ds f → WithinForest h f
      → ((p : List Name) (v : Tree) → IsNodeIn low h p v → IsNode [] q.tree p v) → ((c : Tree) → IsChild h c → (v : Name) → IsNewAt low c v → In high v → ⊥) → AreOver level rows low ds h
  labels_in level rows q class high low none leaf leaf here w at fresh = tt
  labels_in level rows q class high low none leaf (more u h) here w at fresh = absurd w
  labels_in level rows q class high low none (more t f) h here w at fresh = absurd here.over
  labels_in level rows q class high low (also d ds) leaf h here w at fresh = absurd here.over
  labels_in level rows q class high low (also d ds) (more t f) leaf here w at fresh = absurd w
  labels_in level rows q class high low (also d ds) (more t f) (more u h) here w at fresh = (
    labels level rows q class high low d t u (here_first level rows high d ds t f here) w.0 (λ p v i. at p v (inl i)) (fresh u (inl refl)),
    labels_in level rows q class high low ds f h (here_rest level rows high d ds t f here) w.1 (λ p v i. at p v (inr i)) (λ c k. fresh c (inr k)),
  )

-- right by the variables of domains
pub record ByLabels (level : Level) (g : List Statement) (rows : List Mapping) (d : Domain) (u : Tree) : Type 0 where
  pub over : IsOver level rows [] d u
  pub by : AllByRecursion (λ m. ByDomain g m d u) rows

-- over the domains, of the class
pub over_of_class : (level : Level) → (rows : List Mapping) (vs : List Name) (d : Domain) (u : Tree) → Selects rows vs → AreDomains rows d → IsOver level rows [] d u → InOptional level rows (plain_select vs u)
over_of_class level rows vs d u selects tree over =
    let all = over_selects level rows d u tree over in
    over_optional level rows d vs u tree over selects.once (λ v. ((λ h. (all v).0 ((selects.same v).0 h)), (λ h. (selects.same v).1 ((all v).1 h))))

-- right, said by the variables of domains
pub from_labels : (level : Level) → (g : List Statement) (rows : List Mapping) (vs : List Name) (d : Domain) (u : Tree) → Selects rows vs → AreDomains rows d → ByLabels level g rows d u → IsRight Optional level g rows [] (plain_select vs u)
from_labels level g rows vs d u selects tree b =
    let class = over_of_class level rows vs d u selects tree b.over in
    record {
      in_class = class;
      fits = record {
        all = (by_nodes level g (plain_select vs u) rows class).1 (all_from (ByNode g u) rows (λ m row. (by_labels level g rows m d u row tree b.over).1 (all_in (λ m. ByDomain g m d u) rows m b.by row)));
        none = tt;
      };
    }

-- and the other way round, within the start
pub to_labels : (level : Level) → (g : List Statement) (rows : List Mapping) (vs : List Name) (d : Domain) (start u : Tree) → AreDomains rows d → IsOver level rows [] d start → WithinTree u start
    → IsRight Optional level g rows [] (plain_select vs u) → ByLabels level g rows d u
to_labels level g rows vs d start u tree over w right =
    let mine = labels level rows (plain_select vs u) right.in_class [] [] d start u (root_here level rows d start tree over) w (λ p v k. k) (λ v n h. absurd h) in
    record {
      over = mine;
      by = all_from (λ m. ByDomain g m d u) rows (λ m row.
          (by_labels level g rows m d u row tree mine).0 (all_in (ByNode g u) rows m ((by_nodes level g (plain_select vs u) rows right.in_class).0 right.fits.all) row));
    }

-- one pass from a right start over the domains gives what is right, and minimal
pub optional_kept : (level : Level) → (g : List Statement) (rows : List Mapping) (vs : List Name) (d : Domain) (start t : Tree) → Selects rows vs → AreDomains rows d → IsOver level rows [] d start
    → IsRight Optional level g rows [] (plain_select vs start) → IsThinnedTree (λ u. IsRight Optional level g rows [] (plain_select vs u)) start t
    → IsRight Optional level g rows [] (plain_select vs t) × ((u : Tree) → Drops t u → IsRight Optional level g rows [] (plain_select vs u) → ⊥)
optional_kept level g rows vs d start t selects tree over right kept =
    let R : Tree → Type 0 = λ u. IsRight Optional level g rows [] (plain_select vs u) in
    let S : Tree → Type 0 = λ u. ByLabels level g rows d u in
    let both : (u : Tree) → WithinTree u start → R u ↔ S u = λ u w. ((λ h. to_labels level g rows vs d start u tree over w h), (λ h. from_labels level g rows vs d u selects tree h)) in
    let done = thin_tree S start t
    (λ a b c tried sc sa. record {
      over = over_lifts level rows [] [] d a b c (λ v h. h) tried sc.over sa.over;
      by = all_from (λ m. ByDomain g m d b) rows (λ m row. by_lifts level g rows m row [] d a b c tried sa.over (all_in (λ m. ByDomain g m d c) rows m sc.by row) (all_in (λ m. ByDomain g m d a) rows m sa.by row));
    })
    ((both start (tree_within start)).0 right) (tree_map R S start t both kept) in
    let w = within_tree R start t kept in
    ((both t w).1 done.right, λ u drop h. done.minimal u drop ((both u (tree_trans u t start (within_drops t u drop) w)).0 h))

-- Trees over a tree of domains are of the class with OPTIONAL groups.
use Rattle.bye_pattern.specs.declared.level.Level.{Level}
use Rattle.std.proofs.Common.{refl, List, [], ◌++◌, inl, inr, ⊎_elim, sym, subst, ◌↔◌}
use Rattle.bye_terms.specs.Members.{EachOnce, In}
use Rattle.bye_terms.proofs.Members.{all_from, all_in, in_cases, in_left, in_right}
use Rattle.bye_pattern.specs.Designed.{IsForest, IsTree}
use Rattle.bye_table.specs.Domains.{AreAlike, IsSeen, IsWithin}
use Rattle.bye_table.specs.Mappings.{Binds, Mapping, Name}
use Rattle.bye_pattern.specs.Optional.{InOptional, IsAncestor, IsNewAt, IsNode, IsNodeIn}
use Rattle.bye_pattern.specs.Patterns.{all_vars}
use Rattle.bye_table.specs.DomainTrees.{Domain, IsLabel, IsLabelIn, Subdomains, also, domain, label, none}
use Rattle.bye_pattern.specs.Trees.{Forest, Tree, forest_vars, leaf, more, node, own_conds, own_triples, own_vars, plain_select, tree_vars}
use Rattle.bye_pattern.proofs.FourRules.{at_once}
use Rattle.bye_laws.specs.LocalPass.{AreOver, IsGroupOf, IsOver}
use Rattle.bye_laws.proofs.ByNodes.{new_at}
use Rattle.bye_laws.specs.QueryDomains.{AreDomains, AreNested, AreNestedIn}
use Rattle.bye_laws.proofs.Withins.{seen_up, within_or_not, within_row, within_self, within_trans}

-- a variable of the tree is around a variable of some domain, and the class of each domain is in the tree
mutual
  pub vars_label : (level : Level) → (rows : List Mapping) (parent : List Name) (d : Domain) (t : Tree) → IsOver level rows parent d t → (v : Name) → In (tree_vars t) v → (y : Name) × IsLabel d y × IsWithin rows y v
  vars_label level rows parent (domain x ds) (node ps cs f) over v h =
      ⊎_elim (λ k. (x, inl refl, over.0.over v k)) (λ k. let w = vars_label_in level rows (all_vars ps) ds f over.1 v k in (w.0, inr w.1, w.2)) (in_cases (all_vars ps) _ v h)

  vars_label_in : (level : Level) → (rows : List Mapping) (parent : List Name) (ds : Subdomains) (f : Forest) → AreOver level rows parent ds f → (v : Name) → In (forest_vars f) v → (y : Name) × IsLabelIn ds y × IsWithin rows y v
  vars_label_in level rows parent none leaf over v h = absurd h
  vars_label_in level rows parent none (more t f) over v h = absurd over
  vars_label_in level rows parent (also d ds) leaf over v h = absurd over
  vars_label_in level rows parent (also d ds) (more t f) over v h =
      ⊎_elim (λ k. let w = vars_label level rows parent d t over.0 v k in (w.0, inl w.1, w.2)) (λ k. let w = vars_label_in level rows parent ds f over.1 v k in (w.0, inr w.1, w.2)) (in_cases (tree_vars t) _ v h)

-- each class is in the tree
mutual
  pub label_vars : (level : Level) → (rows : List Mapping) (parent : List Name) (d : Domain) (t : Tree) → IsOver level rows parent d t → (x v : Name) → IsLabel d x → IsSeen rows v → AreAlike rows x v → In (tree_vars t) v
  label_vars level rows parent (domain x ds) (node ps cs f) over y v (inl e) seen same = in_left _ _ v (over.0.cover v seen (subst (λ x. AreAlike rows x v) (sym e) same))
  label_vars level rows parent (domain x ds) (node ps cs f) over y v (inr h) seen same = in_right (all_vars ps) _ v (label_vars_in level rows (all_vars ps) ds f over.1 y v h seen same)

  label_vars_in : (level : Level) → (rows : List Mapping) (parent : List Name) (ds : Subdomains) (f : Forest) → AreOver level rows parent ds f → (x v : Name) → IsLabelIn ds x → IsSeen rows v → AreAlike rows x v → In (forest_vars f) v
  label_vars_in level rows parent none f over y v h seen same = absurd h
  label_vars_in level rows parent (also d ds) leaf over y v h seen same = absurd over
  label_vars_in level rows parent (also d ds) (more t f) over y v (inl h) seen same = in_left _ _ v (label_vars level rows parent d t over.0 y v h seen same)
  label_vars_in level rows parent (also d ds) (more t f) over y v (inr h) seen same = in_right (tree_vars t) _ v (label_vars_in level rows parent ds f over.1 y v h seen same)

-- such a tree is well-designed
mutual
  over_tree : (level : Level) → (rows : List Mapping) (parent seen : List Name) (d : Domain) (t : Tree) → ((x : Name) → IsLabel d x → IsSeen rows x) → AreNested rows d → IsOver level rows parent d t
      → ((x : Name) → IsLabel d x → (v : Name) → In seen v → IsWithin rows v x → ⊥) → IsTree parent seen t
  over_tree level rows parent seen (domain x ds) (node ps cs f) known order over apart = (
    record {
      shared = λ v h s. over.0.rises v h (λ up. apart x (inl refl) v s up);
      new = (x, over.0.cover x (known x (inl refl)) (within_self rows x, within_self rows x), λ s. apart x (inl refl) x s (within_self rows x));
      safe = over.0.safe;
    },
    over_forest level rows (all_vars ps) (seen ++ all_vars ps) ds f (λ y h. known y (inr h)) order.1 over.1
        (λ y h v k up. ⊎_elim (λ k. apart y (inr h) v k up) (λ k. (order.0 y h).1 (within_trans rows x v y (over.0.over v k) up)) (in_cases seen _ v k)),
  )

  over_forest : (level : Level) → (rows : List Mapping) (parent seen : List Name) (ds : Subdomains) (f : Forest) → ((x : Name) → IsLabelIn ds x → IsSeen rows x) → AreNestedIn rows ds → AreOver level rows parent ds f
      → ((x : Name) → IsLabelIn ds x → (v : Name) → In seen v → IsWithin rows v x → ⊥) → IsForest parent seen f
  over_forest level rows parent seen none leaf known order over apart = tt
  over_forest level rows parent seen none (more t f) known order over apart = absurd over
  over_forest level rows parent seen (also d ds) leaf known order over apart = absurd over
  over_forest level rows parent seen (also d ds) (more t f) known order over apart = (
    over_tree level rows parent seen d t (λ x h. known x (inl h)) order.1 over.0 (λ x h. apart x (inl h)),
    over_forest level rows parent (seen ++ tree_vars t) ds f (λ x h. known x (inr h)) order.2 over.1
        (λ y h v k up. ⊎_elim (λ k. apart y (inr h) v k up)
        (λ k. let w = vars_label level rows parent d t over.0 v k in (order.0 w.0 y w.1 h).0 (within_trans rows w.0 v y w.2 up)) (in_cases seen _ v k)),
  )

-- the label of a node
pub record Named (level : Level) (rows : List Mapping) (p : List Name) (u : Tree) (x : Name) : Type 0 where
  pub group : IsGroupOf level rows p x (own_triples u) (own_conds u)
  pub apart : (v : Name) → In p v → IsWithin rows v x → ⊥

-- each node has its variable of a domain
mutual
  named : (level : Level) → (rows : List Mapping) (parent : List Name) (d : Domain) (t : Tree) → AreNested rows d → IsOver level rows parent d t → ((x : Name) → IsLabel d x → (v : Name) → In parent v → IsWithin rows v x → ⊥)
      → (p : List Name) (u : Tree) → IsNode parent t p u → (x : Name) × IsLabel d x × Named level rows p u x
  named level rows parent (domain x ds) (node ps cs f) order over apart p u (inl (e, same)) =
      (x, inl refl, subst (λ p. Named level rows p u x) (sym e) (subst (λ u. Named level rows parent u x) (sym same) (record { group = over.0; apart = apart x (inl refl) })))
  named level rows parent (domain x ds) (node ps cs f) order over apart p u (inr k) =
      let w = named_in level rows (all_vars ps) ds f order.1 over.1 (λ y h v k up. (order.0 y h).1 (within_trans rows x v y (over.0.over v k) up)) p u k in (w.0, inr w.1, w.2)

  named_in : (level : Level) → (rows : List Mapping) (parent : List Name) (ds : Subdomains) (f : Forest) → AreNestedIn rows ds → AreOver level rows parent ds f → ((x : Name) → IsLabelIn ds x → (v : Name) → In parent v → IsWithin rows v x → ⊥)
      → (p : List Name) (u : Tree) → IsNodeIn parent f p u → (x : Name) × IsLabelIn ds x × Named level rows p u x
  named_in level rows parent none leaf order over apart p u k = absurd k
  named_in level rows parent none (more t f) order over apart p u k = absurd over
  named_in level rows parent (also d ds) leaf order over apart p u k = absurd k
  named_in level rows parent (also d ds) (more t f) order over apart p u (inl k) =
      let w = named level rows parent d t order.1 over.0 (λ x h. apart x (inl h)) p u k in (w.0, inl w.1, w.2)
  named_in level rows parent (also d ds) (more t f) order over apart p u (inr k) =
      let w = named_in level rows parent ds f order.2 over.1 (λ x h. apart x (inr h)) p u k in (w.0, inr w.1, w.2)

-- the new variables of a node are the class of its label
pub named_new : (level : Level) → (rows : List Mapping) (p : List Name) (u : Tree) (x : Name) → IsSeen rows x → Named level rows p u x → (v : Name) → IsNewAt p u v ↔ (IsSeen rows v × AreAlike rows x v)
named_new level rows p u x seen n v = (
  λ new.
      let up = n.group.over v new.0 in
      (seen_up rows x v seen up, (up, ⊎_elim (λ h. h) (λ no. absurd (new.1 (n.group.rises v new.0 no))) (within_or_not rows v x))),
  λ (s, same). (n.group.cover v s same, λ h. n.apart v h same.1),
)

-- domains below one another, by variables of their classes
under : (rows : List Mapping) (a b x y : Name) → AreAlike rows a x → AreAlike rows b y → IsWithin rows b a × (IsWithin rows a b → ⊥) → IsWithin rows y x × (IsWithin rows x y → ⊥)
under rows a b x y ax by h = (
  within_trans rows y b x by.1 (within_trans rows b a x h.0 ax.0),
  λ up. h.1 (within_trans rows a x b ax.0 (within_trans rows x y b up by.1)),
)

-- a node properly below another one is of a smaller domain
mutual
  below_under : (level : Level) → (rows : List Mapping) (parent : List Name) (d : Domain) (t : Tree) → ((x : Name) → IsLabel d x → IsSeen rows x) → AreNested rows d → IsOver level rows parent d t
      → ((x : Name) → IsLabel d x → (v : Name) → In parent v → IsWithin rows v x → ⊥)
      → (p : List Name) (u : Tree) (r : List Name) (w : Tree) (x y : Name) → IsNode parent t p u → IsNewAt p u x → IsNewAt r w y → IsAncestor u r w → IsWithin rows y x × (IsWithin rows x y → ⊥)
  below_under level rows parent (domain z ds) (node ps cs f) known order over apart p u r w x y (inl (e, same)) nx ny below =
      let here : Named level rows parent (node ps cs f) z = record { group = over.0; apart = apart z (inl refl) } in
      let a = named_new level rows parent (node ps cs f) z (known z (inl refl)) here x in
      let there = named_in level rows (all_vars ps) ds f order.1 over.1 (λ y h v k up. (order.0 y h).1 (within_trans rows z v y (over.0.over v k) up)) r w (subst (λ u. IsAncestor u r w) same below) in
      let b = named_new level rows r w there.0 (known there.0 (inr there.1)) there.2 y in
      under rows z there.0 x y (a.0 (subst (λ p. IsNewAt p (node ps cs f) x) e (subst (λ u. IsNewAt p u x) same nx))).1 (b.0 ny).1 (order.0 there.0 there.1)
  below_under level rows parent (domain z ds) (node ps cs f) known order over apart p u r w x y (inr k) nx ny below =
      below_under_in level rows (all_vars ps) ds f (λ x h. known x (inr h)) order.1 over.1 (λ y h v k up. (order.0 y h).1 (within_trans rows z v y (over.0.over v k) up)) p u r w x y k nx ny below

  below_under_in : (level : Level) → (rows : List Mapping) (parent : List Name) (ds : Subdomains) (f : Forest) → ((x : Name) → IsLabelIn ds x → IsSeen rows x) → AreNestedIn rows ds → AreOver level rows parent ds f
      → ((x : Name) → IsLabelIn ds x → (v : Name) → In parent v → IsWithin rows v x → ⊥)
      → (p : List Name) (u : Tree) (r : List Name) (w : Tree) (x y : Name) → IsNodeIn parent f p u → IsNewAt p u x → IsNewAt r w y → IsAncestor u r w → IsWithin rows y x × (IsWithin rows x y → ⊥)
  below_under_in level rows parent none leaf known order over apart p u r w x y k nx ny below = absurd k
  below_under_in level rows parent none (more t f) known order over apart p u r w x y k nx ny below = absurd over
  below_under_in level rows parent (also d ds) leaf known order over apart p u r w x y k nx ny below = absurd k
  below_under_in level rows parent (also d ds) (more t f) known order over apart p u r w x y (inl k) nx ny below =
      below_under level rows parent d t (λ x h. known x (inl h)) order.1 over.0 (λ x h. apart x (inl h)) p u r w x y k nx ny below
  below_under_in level rows parent (also d ds) (more t f) known order over apart p u r w x y (inr k) nx ny below =
      below_under_in level rows parent ds f (λ x h. known x (inr h)) order.2 over.1 (λ x h. apart x (inr h)) p u r w x y k nx ny below

-- and the other way round
mutual
  under_below : (level : Level) → (rows : List Mapping) (parent : List Name) (d : Domain) (t : Tree) → ((x : Name) → IsLabel d x → IsSeen rows x) → AreNested rows d → IsOver level rows parent d t
      → ((x : Name) → IsLabel d x → (v : Name) → In parent v → IsWithin rows v x → ⊥)
      → (p : List Name) (u : Tree) (r : List Name) (w : Tree) (x y : Name) → IsNode parent t p u → IsNode parent t r w → IsNewAt p u x → IsNewAt r w y → IsWithin rows y x → (IsWithin rows x y → ⊥) → IsAncestor u r w
  under_below level rows parent (domain z ds) (node ps cs f) known order over apart p u r w x y (inl a) (inl b) nx ny up shut =
      let here : Named level rows parent (node ps cs f) z = record { group = over.0; apart = apart z (inl refl) } in
      let c = (((named_new level rows parent (node ps cs f) z (known z (inl refl)) here x)).0 (subst (λ p. IsNewAt p (node ps cs f) x) a.0 (subst (λ u. IsNewAt p u x) a.1 nx))).1 in
      let d = (((named_new level rows parent (node ps cs f) z (known z (inl refl)) here y)).0 (subst (λ p. IsNewAt p (node ps cs f) y) b.0 (subst (λ u. IsNewAt r u y) b.1 ny))).1 in
      absurd (shut (within_trans rows x z y c.1 d.0))
  under_below level rows parent (domain z ds) (node ps cs f) known order over apart p u r w x y (inl a) (inr b) nx ny up shut = subst (λ u. IsAncestor u r w) (sym a.1) b
  under_below level rows parent (domain z ds) (node ps cs f) known order over apart p u r w x y (inr a) (inl b) nx ny up shut =
      let here : Named level rows parent (node ps cs f) z = record { group = over.0; apart = apart z (inl refl) } in
      let d = (((named_new level rows parent (node ps cs f) z (known z (inl refl)) here y)).0 (subst (λ p. IsNewAt p (node ps cs f) y) b.0 (subst (λ u. IsNewAt r u y) b.1 ny))).1 in
      let there = named_in level rows (all_vars ps) ds f order.1 over.1 (λ y h v k up. (order.0 y h).1 (within_trans rows z v y (over.0.over v k) up)) p u a in
      let c = ((named_new level rows p u there.0 (known there.0 (inr there.1)) there.2 x).0 nx).1 in
      absurd (shut (within_trans rows x there.0 y c.1 (within_trans rows there.0 z y (order.0 there.0 there.1).0 d.0)))
  under_below level rows parent (domain z ds) (node ps cs f) known order over apart p u r w x y (inr a) (inr b) nx ny up shut =
      under_below_in level rows (all_vars ps) ds f (λ x h. known x (inr h)) order.1 over.1 (λ y h v k up. (order.0 y h).1 (within_trans rows z v y (over.0.over v k) up)) p u r w x y a b nx ny up shut

  under_below_in : (level : Level) → (rows : List Mapping) (parent : List Name) (ds : Subdomains) (f : Forest) → ((x : Name) → IsLabelIn ds x → IsSeen rows x) → AreNestedIn rows ds → AreOver level rows parent ds f
      → ((x : Name) → IsLabelIn ds x → (v : Name) → In parent v → IsWithin rows v x → ⊥)
      → (p : List Name) (u : Tree) (r : List Name) (w : Tree) (x y : Name) → IsNodeIn parent f p u → IsNodeIn parent f r w → IsNewAt p u x → IsNewAt r w y → IsWithin rows y x → (IsWithin rows x y → ⊥) → IsAncestor u r w
  under_below_in level rows parent none leaf known order over apart p u r w x y a b nx ny up shut = absurd a
  under_below_in level rows parent none (more t f) known order over apart p u r w x y a b nx ny up shut = absurd over
  under_below_in level rows parent (also d ds) leaf known order over apart p u r w x y a b nx ny up shut = absurd a
  under_below_in level rows parent (also d ds) (more t f) known order over apart p u r w x y (inl a) (inl b) nx ny up shut =
      under_below level rows parent d t (λ x h. known x (inl h)) order.1 over.0 (λ x h. apart x (inl h)) p u r w x y a b nx ny up shut
  under_below_in level rows parent (also d ds) (more t f) known order over apart p u r w x y (inr a) (inr b) nx ny up shut =
      under_below_in level rows parent ds f (λ x h. known x (inr h)) order.2 over.1 (λ x h. apart x (inr h)) p u r w x y a b nx ny up shut
  under_below_in level rows parent (also d ds) (more t f) known order over apart p u r w x y (inl a) (inr b) nx ny up shut =
      let m = named level rows parent d t order.1 over.0 (λ x h. apart x (inl h)) p u a in
      let n = named_in level rows parent ds f order.2 over.1 (λ x h. apart x (inr h)) r w b in
      let c = ((named_new level rows p u m.0 (known m.0 (inl m.1)) m.2 x).0 nx).1 in
      let e = ((named_new level rows r w n.0 (known n.0 (inr n.1)) n.2 y).0 ny).1 in
      absurd ((order.0 m.0 n.0 m.1 n.1).1 (within_trans rows n.0 y m.0 e.0 (within_trans rows y x m.0 up c.1)))
  under_below_in level rows parent (also d ds) (more t f) known order over apart p u r w x y (inr a) (inl b) nx ny up shut =
      let m = named_in level rows parent ds f order.2 over.1 (λ x h. apart x (inr h)) p u a in
      let n = named level rows parent d t order.1 over.0 (λ x h. apart x (inl h)) r w b in
      let c = ((named_new level rows p u m.0 (known m.0 (inr m.1)) m.2 x).0 nx).1 in
      let e = ((named_new level rows r w n.0 (known n.0 (inl n.1)) n.2 y).0 ny).1 in
      absurd ((order.0 n.0 m.0 n.1 m.1).0 (within_trans rows n.0 y m.0 e.0 (within_trans rows y x m.0 up c.1)))

-- the root's variables are around its domain
root_up : (level : Level) → (rows : List Mapping) (parent : List Name) (d : Domain) (t : Tree) (v : Name) → IsOver level rows parent d t → In (own_vars t) v → IsWithin rows (label d) v
root_up level rows parent (domain x ds) (node ps cs f) v over h = over.0.over v h

-- a tree over a domain tree is of the class
pub over_optional : (level : Level) → (rows : List Mapping) (d : Domain) (vs : List Name) (t : Tree) → AreDomains rows d → IsOver level rows [] d t → EachOnce vs → ((v : Name) → In vs v ↔ In (tree_vars t) v) → InOptional level rows (plain_select vs t)
over_optional level rows d vs t tree over once selects =
    let apart : (x : Name) → IsLabel d x → (v : Name) → In [] v → IsWithin rows v x → ⊥ = λ x h v k up. k in
    record {
      distinct = refl;
      outer = refl;
      designed = (at_once t).1 (over_tree level rows [] [] d t tree.seen tree.ordered over apart);
      classes = λ p u k.
          let n = named level rows [] d t tree.ordered over apart p u k in
          let seen = tree.seen n.0 n.1 in (
            n.0,
            (
              seen,
              λ v. (
                (λ new. ((named_new level rows p u n.0 seen n.2 v).0 new).1),
                (λ same. (named_new level rows p u n.0 seen n.2 v).1 (seen_up rows n.0 v seen same.0, same)),
              ),
            ),
          );
      covers = λ v s.
          let x = tree.covers v s in
          ⊎_elim (λ h. absurd h) (λ at. at) (new_at [] t v (label_vars level rows [] d t over x.0 v x.1 s x.2));
      whole = λ v h. all_from (λ m. Binds m v) rows (λ m k. within_row rows m (label d) v k (root_up level rows [] d t v over h) (all_in (λ m. Binds m (label d)) rows m tree.root k));
      order = λ p u r w x y a b nx ny. (
        below_under level rows [] d t tree.seen tree.ordered over apart r w p u y x b ny nx,
        λ h. under_below level rows [] d t tree.seen tree.ordered over apart r w p u y x b a ny nx h.0 h.1,
      );
      triples = λ p u k. (named level rows [] d t tree.ordered over apart p u k).2.group.triples;
      conds = λ p u k. (named level rows [] d t tree.ordered over apart p u k).2.group.conds;
      once = once;
      selects = selects;
    }

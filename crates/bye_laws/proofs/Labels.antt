-- What rows say by nodes and by the variables of domains, over a tree of domains.
use Rattle.bye_pattern.specs.declared.level.Level.{Level}
use Rattle.std.proofs.Common.{refl, List, [], inl, inr, sym, subst, ◌↔◌}
use Rattle.bye_terms.specs.Members.{In}
use Rattle.bye_terms.specs.Terms.{Statement}
use Rattle.bye_pattern.specs.declared.cond.Cond.{Cond}
use Rattle.bye_table.specs.Domains.{AreAlike, IsSeen, IsWithin}
use Rattle.bye_table.specs.Mappings.{Binds, Mapping, Name}
use Rattle.bye_pattern.specs.Optional.{IsNewAt, IsNode, IsNodeIn}
use Rattle.bye_pattern.specs.Patterns.{Pattern, all_vars}
use Rattle.bye_table.specs.DomainTrees.{Domain, IsLabel, IsLabelIn, Subdomains, also, domain, label, none}
use Rattle.bye_pattern.specs.Trees.{Forest, Tree, leaf, more, node, own_vars, tree_vars}
use Rattle.bye_laws.specs.LocalPass.{AreOver, ByDomain, ByDomains, IsOver}
use Rattle.bye_laws.specs.Nodes.{BindsNew, ByNode}
use Rattle.bye_laws.specs.Reaching.{IsChild, MeetsNode, NoValues, children}
use Rattle.bye_laws.proofs.DomainLabels.{label_self}
use Rattle.bye_laws.specs.QueryDomains.{AreDomains, AreNested, AreNestedIn}
use Rattle.bye_laws.proofs.Over.{Named, label_vars, named_new, vars_label}
use Rattle.bye_laws.proofs.Withins.{seen_up, within_row, within_self, within_trans}

-- what is known at a node over its domain
pub record Here (level : Level) (rows : List Mapping) (parent : List Name) (d : Domain) (t : Tree) : Type 0 where
  pub known : (x : Name) → IsLabel d x → IsSeen rows x
  pub order : AreNested rows d
  pub over : IsOver level rows parent d t
  pub apart : (x : Name) → IsLabel d x → (v : Name) → In parent v → IsWithin rows v x → ⊥

-- and at nodes beside one another
pub record HereIn (level : Level) (rows : List Mapping) (parent : List Name) (ds : Subdomains) (f : Forest) : Type 0 where
  pub known : (x : Name) → IsLabelIn ds x → IsSeen rows x
  pub order : AreNestedIn rows ds
  pub over : AreOver level rows parent ds f
  pub apart : (x : Name) → IsLabelIn ds x → (v : Name) → In parent v → IsWithin rows v x → ⊥

-- from a node to those below it
pub here_down : (level : Level) → (rows : List Mapping) (parent : List Name) (x : Name) (ds : Subdomains) (ps : List Pattern) (cs : List Cond) (f : Forest) → Here level rows parent (domain x ds) (node ps cs f) → HereIn level rows (all_vars ps) ds f
here_down level rows parent x ds ps cs f h = record {
  known = λ y k. h.known y (inr k);
  order = h.order.1;
  over = h.over.1;
  apart = λ y k v i up. (h.order.0 y k).1 (within_trans rows x v y (h.over.0.over v i) up);
}

-- from nodes beside one another to the first
pub here_first : (level : Level) → (rows : List Mapping) (parent : List Name) (d : Domain) (ds : Subdomains) (t : Tree) (f : Forest) → HereIn level rows parent (also d ds) (more t f) → Here level rows parent d t
here_first level rows parent d ds t f h = record { known = λ y k. h.known y (inl k); order = h.order.1; over = h.over.0; apart = λ y k. h.apart y (inl k) }

-- and to the others
pub here_rest : (level : Level) → (rows : List Mapping) (parent : List Name) (d : Domain) (ds : Subdomains) (t : Tree) (f : Forest) → HereIn level rows parent (also d ds) (more t f) → HereIn level rows parent ds f
here_rest level rows parent d ds t f h = record { known = λ y k. h.known y (inr k); order = h.order.2; over = h.over.1; apart = λ y k. h.apart y (inr k) }

-- at the root
pub root_here : (level : Level) → (rows : List Mapping) (d : Domain) (t : Tree) → AreDomains rows d → IsOver level rows [] d t → Here level rows [] d t
root_here level rows d t tree over = record { known = tree.seen; order = tree.ordered; over = over; apart = λ x h v k up. k }

-- the node's variable names it
name_of : (level : Level) → (rows : List Mapping) (parent : List Name) (d : Domain) (t : Tree) → Here level rows parent d t → Named level rows parent t (label d)
name_of level rows parent (domain x ds) (node ps cs f) h = record { group = h.over.0; apart = h.apart x (inl refl) }

-- its new variables are the class
new_of : (level : Level) → (rows : List Mapping) (parent : List Name) (d : Domain) (t : Tree) → Here level rows parent d t → (v : Name) → IsNewAt parent t v ↔ (IsSeen rows v × AreAlike rows (label d) v)
new_of level rows parent d t h v = named_new level rows parent t (label d) (h.known (label d) (label_self d)) (name_of level rows parent d t h) v

-- the row binds the label where it binds the new variables
binds_label : (level : Level) → (rows : List Mapping) (m : Mapping) (parent : List Name) (d : Domain) (t : Tree) → Here level rows parent d t → BindsNew m parent t → Binds m (label d)
binds_label level rows m parent d t h new = new (label d) ((new_of level rows parent d t h (label d)).1 (h.known (label d) (label_self d), (within_self rows (label d), within_self rows (label d))))

-- and the other way round
binds_new : (level : Level) → (rows : List Mapping) (m : Mapping) → In rows m → (parent : List Name) (d : Domain) (t : Tree) → Here level rows parent d t → Binds m (label d) → BindsNew m parent t
binds_new level rows m row parent d t h b v new = within_row rows m (label d) v row ((new_of level rows parent d t h v).0 new).1.0 b

-- what a row says by nodes it says by variables
mutual
  by_domain : (level : Level) → (g : List Statement) (rows : List Mapping) (m : Mapping) → In rows m → (root : Tree) → ByNode g root m → (parent : List Name) (d : Domain) (t : Tree) → Here level rows parent d t
      → ((p : List Name) (u : Tree) → IsNode parent t p u → IsNode [] root p u) → ByDomain g m d t
  by_domain level g rows m row root by parent (domain x ds) (node ps cs f) h at = (
    λ b. by.meets parent (node ps cs f) (at parent (node ps cs f) (inl (refl, refl))) (binds_new level rows m row parent (domain x ds) (node ps cs f) h b),
    by_domains level g rows m row root by parent (domain x ds) (node ps cs f) h (at parent (node ps cs f) (inl (refl, refl))) ds f (here_down level rows parent x ds ps cs f h) (λ c k. k) (λ p u k. at p u (inr k)),
  )

  by_domains : (level : Level) → (g : List Statement) (rows : List Mapping) (m : Mapping) → In rows m → (root : Tree) → ByNode g root m → (parent : List Name) (d : Domain) (t : Tree) → Here level rows parent d t
      → IsNode [] root parent t → (ds : Subdomains) (f : Forest) → HereIn level rows (own_vars t) ds f → ((c : Tree) → IsChild f c → IsChild (children t) c)
      → ((p : List Name) (u : Tree) → IsNodeIn (own_vars t) f p u → IsNode [] root p u) → ByDomains g m (label d) ds f
  by_domains level g rows m row root by parent d t h here none f i child at = tt
  by_domains level g rows m row root by parent d t h here (also e ds) leaf i child at = tt
  by_domains level g rows m row root by parent d t h here (also e ds) (more c f) i child at = (
    λ b lacks. by.none parent t c here (child c (inl refl)) (binds_new level rows m row parent d t h b) (λ new. lacks (binds_label level rows m (own_vars t) e c (here_first level rows (own_vars t) e ds c f i) new)),
    by_domain level g rows m row root by (own_vars t) e c (here_first level rows (own_vars t) e ds c f i) (λ p u k. at p u (inl k)),
    by_domains level g rows m row root by parent d t h here ds f (here_rest level rows (own_vars t) e ds c f i) (λ c k. child c (inr k)) (λ p u k. at p u (inr k)),
  )

-- back: what is said at a node
record Place (level : Level) (g : List Statement) (rows : List Mapping) (m : Mapping) (p : List Name) (u : Tree) : Type 0 where
  dom : Domain
  here : Here level rows p dom u
  by : ByDomain g m dom u

-- each node with its domain
mutual
  place : (level : Level) → (g : List Statement) (rows : List Mapping) (m : Mapping) (parent : List Name) (d : Domain) (t : Tree) → Here level rows parent d t → ByDomain g m d t → (p : List Name) (u : Tree) → IsNode parent t p u → Place level g rows m p u
  place level g rows m parent (domain x ds) (node ps cs f) h by p u (inl (e, same)) =
      subst (λ p. Place level g rows m p u) (sym e) (subst (Place level g rows m parent) (sym same) (record { dom = domain x ds; here = h; by = by }))
  place level g rows m parent (domain x ds) (node ps cs f) h by p u (inr k) = place_in level g rows m (all_vars ps) x ds f (here_down level rows parent x ds ps cs f h) by.1 p u k

  place_in : (level : Level) → (g : List Statement) (rows : List Mapping) (m : Mapping) (parent : List Name) (z : Name) (ds : Subdomains) (f : Forest) → HereIn level rows parent ds f → ByDomains g m z ds f
      → (p : List Name) (u : Tree) → IsNodeIn parent f p u → Place level g rows m p u
  place_in level g rows m parent z none leaf h by p u k = absurd k
  place_in level g rows m parent z none (more t f) h by p u k = absurd h.over
  place_in level g rows m parent z (also d ds) leaf h by p u k = absurd k
  place_in level g rows m parent z (also d ds) (more t f) h by p u (inl k) = place level g rows m parent d t (here_first level rows parent d ds t f h) by.1 p u k
  place_in level g rows m parent z (also d ds) (more t f) h by p u (inr k) = place_in level g rows m parent z ds f (here_rest level rows parent d ds t f h) by.2 p u k

-- what is met at a node
met_at : (g : List Statement) (m : Mapping) (d : Domain) (u : Tree) → ByDomain g m d u → Binds m (label d) → MeetsNode g m u
met_at g m (domain x ds) (node ps cs f) by b = by.0 b

-- no values at a child
none_in : (level : Level) → (g : List Statement) (rows : List Mapping) (m : Mapping) → In rows m → (parent : List Name) (z : Name) (ds : Subdomains) (f : Forest) (c : Tree) → HereIn level rows parent ds f → ByDomains g m z ds f → IsChild f c → Binds m z
    → (BindsNew m parent c → ⊥) → NoValues g m c
none_in level g rows m row parent z none leaf c h by k b shut = absurd k
none_in level g rows m row parent z none (more t f) c h by k b shut = absurd h.over
none_in level g rows m row parent z (also d ds) leaf c h by k b shut = absurd k
none_in level g rows m row parent z (also d ds) (more t f) c h by (inl e) b shut =
    subst (NoValues g m) (sym e) (by.0 b (λ l. shut (subst (BindsNew m parent) (sym e) (binds_new level rows m row parent d t (here_first level rows parent d ds t f h) l))))
none_in level g rows m row parent z (also d ds) (more t f) c h by (inr k) b shut = none_in level g rows m row parent z ds f c (here_rest level rows parent d ds t f h) by.2 k b shut

-- the same from the child's parent
none_at : (level : Level) → (g : List Statement) (rows : List Mapping) (m : Mapping) → In rows m → (p : List Name) (d : Domain) (u c : Tree) → Here level rows p d u → ByDomain g m d u → IsChild (children u) c → Binds m (label d)
    → (BindsNew m (own_vars u) c → ⊥) → NoValues g m c
none_at level g rows m row p (domain x ds) (node ps cs f) c h by k b shut = none_in level g rows m row (all_vars ps) x ds f c (here_down level rows p x ds ps cs f h) by.1 k b shut

-- by nodes or by variables is the same
pub by_labels : (level : Level) → (g : List Statement) (rows : List Mapping) (m : Mapping) (d : Domain) (t : Tree) → In rows m → AreDomains rows d → IsOver level rows [] d t → ByNode g t m ↔ ByDomain g m d t
by_labels level g rows m d t row tree over =
    let h = root_here level rows d t tree over in (
      λ by. by_domain level g rows m row t by [] d t h (λ p u k. k),
      λ by. record {
        meets = λ p u k new. let at = place level g rows m [] d t h by p u k in met_at g m at.dom u at.by (binds_label level rows m p at.dom u at.here new);
        none = λ p u c k child new shut. let at = place level g rows m [] d t h by p u k in none_at level g rows m row p at.dom u c at.here at.by child (binds_label level rows m p at.dom u at.here new) shut;
      },
    )

-- trees over a domain tree select all variables of the rows rows
pub over_selects : (level : Level) → (rows : List Mapping) (d : Domain) (t : Tree) → AreDomains rows d → IsOver level rows [] d t → (v : Name) → IsSeen rows v ↔ In (tree_vars t) v
over_selects level rows d t tree over v = (
  λ s. let x = tree.covers v s in label_vars level rows [] d t over x.0 v x.1 s x.2,
  λ h. let y = vars_label level rows [] d t over v h in seen_up rows y.0 v (tree.seen y.0 y.1) y.2,
)

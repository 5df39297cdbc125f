-- The labels of trees of domains: which is within which.
use Rattle.std.proofs.Common.{◌≡◌, refl, ◌⊎◌, inl, inr, ⊎_elim, sym, subst}
use Rattle.bye_pattern.specs.Certificates.{ShowsFork}
use Rattle.bye_table.specs.Domains.{IsBefore, IsBelow, IsWithin, Wanted}
use Rattle.bye_table.specs.Mappings.{Name}
use Rattle.bye_table.specs.DomainTrees.{AreOrdered, Domain, IsBeside, IsDomainTree, IsLabel, IsLabelIn, IsOrdered, Subdomains, also, domain, label, none}
use Rattle.bye_laws.proofs.Withins.{seen_up, within_self, within_trans}

-- x is the label of a tree of the row of trees
abbrev pub IsTopIn : Subdomains → Name → Type 0
IsTopIn none x = ⊥
IsTopIn (also d ds) x = (label d ≡ x) ⊎ IsTopIn ds x

-- the label of a tree is one of its labels
pub label_self : (d : Domain) → IsLabel d (label d)
label_self (domain x ds) = inl refl

-- and so the label of a tree is one of those of its row
pub top_label : (ds : Subdomains) (x : Name) → IsTopIn ds x → IsLabelIn ds x
top_label none x h = h
top_label (also d ds) x (inl e) = inl (subst (IsLabel d) e (label_self d))
top_label (also d ds) x (inr h) = inr (top_label ds x h)

-- a label of a tree is that of its root or of a smaller domain
pub label_below : (w : Wanted) (d : Domain) (y : Name) → IsOrdered w d → IsLabel d y → (label d ≡ y) ⊎ IsBelow w.rows y (label d)
label_below w (domain x ds) y order (inl e) = inl e
label_below w (domain x ds) y order (inr h) = inr (order.0 y h)

-- each label of a tree is within that of its root
pub label_within : (w : Wanted) (d : Domain) (y : Name) → IsOrdered w d → IsLabel d y → IsWithin w.rows y (label d)
label_within w d y order h =
    ⊎_elim (λ e. subst (λ y. IsWithin w.rows y (label d)) e (within_self w.rows (label d))) (λ below. below.0) (label_below w d y order h)

-- each label of a row of trees is within the label of one of the trees
pub top_over : (w : Wanted) (ds : Subdomains) (y : Name) → AreOrdered w ds → IsLabelIn ds y → (t : Name) × IsTopIn ds t × ((t ≡ y) ⊎ IsBelow w.rows y t)
top_over w none y order h = absurd h
top_over w (also d ds) y order (inl h) = (label d, inl refl, label_below w d y order.1 h)
top_over w (also d ds) y order (inr h) = let r = top_over w ds y order.2 h in (r.0, inr r.1, r.2)

-- of two trees beside one another no label of one is within a label of the other
pub beside_apart : (w : Wanted) (d : Domain) (ds : Subdomains) (x y : Name) → IsBeside w d ds → IsLabel d x → IsLabelIn ds y
    → (IsWithin w.rows x y → ⊥) × (IsWithin w.rows y x → ⊥)
beside_apart w d none x y beside h k = absurd k
beside_apart w d (also e ds) x y beside h (inl k) = beside.1 x y h k
beside_apart w d (also e ds) x y beside h (inr k) = beside_apart w d ds x y beside.2 h k

-- and the label of the first stands first in the table
pub beside_before : (w : Wanted) (d : Domain) (ds : Subdomains) (t : Name) → IsBeside w d ds → IsTopIn ds t → IsBefore w.vars (label d) t
beside_before w d none t beside h = absurd h
beside_before w d (also e ds) t beside (inl h) = subst (IsBefore w.vars (label d)) h beside.0
beside_before w d (also e ds) t beside (inr h) = beside_before w d ds t beside.2 h

mutual
  -- in a tree of domains, of two domains around a third one is within the other
  chain : (w : Wanted) (d : Domain) (x y z : Name) → IsOrdered w d → IsLabel d x → IsLabel d y → IsLabel d z → IsWithin w.rows x y → IsWithin w.rows x z
      → IsWithin w.rows y z ⊎ IsWithin w.rows z y
  chain w (domain r ds) x y z order h (inl e) k a b = inr (subst (IsWithin w.rows z) e (label_within w (domain r ds) z order k))
  chain w (domain r ds) x y z order h (inr j) (inl e) a b = inl (subst (IsWithin w.rows y) e (order.0 y j).0)
  chain w (domain r ds) x y z order (inl e) (inr j) (inr k) a b = absurd ((order.0 y j).1 (subst (λ x. IsWithin w.rows x y) (sym e) a))
  chain w (domain r ds) x y z order (inr h) (inr j) (inr k) a b = chain_in w ds x y z order.1 h j k a b

  -- and in a row of trees
  chain_in : (w : Wanted) (ds : Subdomains) (x y z : Name) → AreOrdered w ds → IsLabelIn ds x → IsLabelIn ds y → IsLabelIn ds z → IsWithin w.rows x y → IsWithin w.rows x z
      → IsWithin w.rows y z ⊎ IsWithin w.rows z y
  chain_in w none x y z order h j k a b = absurd h
  chain_in w (also d ds) x y z order (inl h) (inl j) (inl k) a b = chain w d x y z order.1 h j k a b
  chain_in w (also d ds) x y z order (inl h) (inl j) (inr k) a b = absurd ((beside_apart w d ds x z order.0 h k).0 b)
  chain_in w (also d ds) x y z order (inl h) (inr j) k a b = absurd ((beside_apart w d ds x y order.0 h j).0 a)
  chain_in w (also d ds) x y z order (inr h) (inl j) k a b = absurd ((beside_apart w d ds y x order.0 j h).1 a)
  chain_in w (also d ds) x y z order (inr h) (inr j) (inl k) a b = absurd ((beside_apart w d ds z x order.0 k h).1 b)
  chain_in w (also d ds) x y z order (inr h) (inr j) (inr k) a b = chain_in w ds x y z order.2 h j k a b

-- over a tree of domains no fork shows
pub no_fork : (w : Wanted) (d : Domain) → IsDomainTree w d → (x y z : Name) → ShowsFork w.rows x y z → ⊥
no_fork w d tree x y z fork =
    let a = tree.covers x fork.seen in
    let b = tree.covers y (seen_up w.rows x y fork.seen fork.first) in
    let c = tree.covers z (seen_up w.rows x z fork.seen fork.second) in
    let first = within_trans w.rows a.0 y b.0 (within_trans w.rows a.0 x y a.2.0 fork.first) b.2.1 in
    let second = within_trans w.rows a.0 z c.0 (within_trans w.rows a.0 x z a.2.0 fork.second) c.2.1 in
    ⊎_elim
    (λ up. fork.first_apart (within_trans w.rows y c.0 z (within_trans w.rows y b.0 c.0 b.2.1 up) c.2.0))
    (λ up. fork.second_apart (within_trans w.rows z b.0 y (within_trans w.rows z c.0 b.0 c.2.1 up) b.2.0))
    (chain w d a.0 b.0 c.0 tree.ordered a.1 b.1 c.1 first second)

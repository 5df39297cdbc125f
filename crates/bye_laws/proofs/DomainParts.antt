-- The labels right below a node of a tree of domains are those of its children.
use Rattle.std.proofs.Common.{◌≡◌, refl, Bool, true, false, cond, List, [], ◌∷◌, inl, inr, ⊎_elim, sym, ◌∙◌, subst}
use Rattle.std.specs.List.{AllByRecursion, filter}
use Rattle.bye_terms.specs.Members.{In}
use Rattle.bye_terms.proofs.Lists.{filtered, in_filtered}
use Rattle.bye_terms.proofs.Members.{all_from, all_in}
use Rattle.bye_table.specs.Domains.{IsBefore, IsBelow, IsWithin, Wanted}
use Rattle.bye_table.specs.DomainTrees.{AreOrdered, Domain, IsDomainTree, IsLabel, IsLabelIn, IsOrdered, Subdomains, also, domain, label, none}
use Rattle.bye_table.specs.Mappings.{Mapping, Name}
use Rattle.bye_laws.specs.Completeness.{AreExamples}
use Rattle.bye_laws.specs.DomainNodes.{AreLabels, TellsChildren}
use Rattle.bye_laws.specs.Ordering.{IsSorted}
use Rattle.bye_laws.proofs.DomainLabels.{IsTopIn, beside_apart, beside_before, label_self, top_label, top_over}
use Rattle.bye_laws.proofs.DomainTrees.{one_first}
use Rattle.bye_laws.proofs.KeptQueries.{sorted_same}
use Rattle.bye_laws.proofs.OneDomainTree.{not_both_before}
use Rattle.bye_laws.proofs.Withins.{within_below, within_self, within_trans}

-- a tree of domains with the list of its labels, and a test of children
pub record IsListed (w : Wanted) (labels : List Name) (is_child : Name → Name → Bool) (all : Domain) : Type 0 where
  pub examples : AreExamples w
  pub tree : IsDomainTree w all
  pub names : AreLabels w labels
  pub tells : TellsChildren w.rows labels is_child

-- the labels of the trees of a row
abbrev pub tops : Subdomains → List Name
tops none = []
tops (also d ds) = label d ∷ tops ds

-- a label among them is one of a tree of the row
top_in : (ds : Subdomains) (y : Name) → In (tops ds) y → IsTopIn ds y
top_in none y h = h
top_in (also d ds) y (inl e) = inl e
top_in (also d ds) y (inr h) = inr (top_in ds y h)

-- and the other way round
in_tops : (ds : Subdomains) (y : Name) → IsTopIn ds y → In (tops ds) y
in_tops none y h = h
in_tops (also d ds) y (inl e) = inl e
in_tops (also d ds) y (inr h) = inr (in_tops ds y h)

-- no domain is below itself
pub not_below_self : (rows : List Mapping) (x y : Name) → x ≡ y → IsBelow rows y x → ⊥
not_below_self rows x y e below = below.1 (subst (λ y. IsWithin rows x y) e (within_self rows x))

-- what is below a smaller domain is below the greater one
pub below_trans : (w : Wanted) (x y z : Name) → IsBelow w.rows x y → IsBelow w.rows y z → IsBelow w.rows x z
below_trans w x y z a b = within_below w.rows x y z a.0 b

-- of two trees beside one another neither label is within the other
tops_apart : (w : Wanted) (ds : Subdomains) (y s : Name) → AreOrdered w ds → IsTopIn ds y → IsTopIn ds s → IsWithin w.rows y s → y ≡ s
tops_apart w none y s order h k up = absurd h
tops_apart w (also d ds) y s order (inl e) (inl f) up = sym e ∙ f
tops_apart w (also d ds) y s order (inl e) (inr k) up = absurd ((beside_apart w d ds (label d) s order.0 (label_self d) (top_label ds s k)).0 (subst (λ y. IsWithin w.rows y s) (sym e) up))
tops_apart w (also d ds) y s order (inr h) (inl f) up = absurd ((beside_apart w d ds (label d) y order.0 (label_self d) (top_label ds y h)).1 (subst (IsWithin w.rows y) (sym f) up))
tops_apart w (also d ds) y s order (inr h) (inr k) up = tops_apart w ds y s order.2 h k up

-- a node of the whole tree: all labels below its own are among those of its children
pub record IsPart (w : Wanted) (all : Domain) (x : Name) (ds : Subdomains) : Type 0 where
  pub ordered : IsOrdered w (domain x ds)
  pub itself : IsLabel all x
  pub inside : (y : Name) → IsLabelIn ds y → IsLabel all y
  pub below : (t : Name) → IsLabel all t → IsBelow w.rows t x → IsLabelIn ds t

-- and a row of nodes
pub record ArePart (w : Wanted) (all : Domain) (ds : Subdomains) : Type 0 where
  pub ordered : AreOrdered w ds
  pub inside : (y : Name) → IsLabelIn ds y → IsLabel all y
  pub below : (t s : Name) → IsLabel all t → IsTopIn ds s → IsBelow w.rows t s → IsLabelIn ds t

-- the root
pub whole_part : (w : Wanted) (x : Name) (ds : Subdomains) → IsOrdered w (domain x ds) → IsPart w (domain x ds) x ds
whole_part w x ds order = record {
  ordered = order;
  itself = inl refl;
  inside = λ y h. inr h;
  below = λ t h b. ⊎_elim (λ e. absurd (not_below_self w.rows x t e b)) (λ k. k) h;
}

-- from a node to its children
pub children_part : (w : Wanted) (all : Domain) (x : Name) (ds : Subdomains) → IsPart w all x ds → ArePart w all ds
children_part w all x ds p = record {
  ordered = p.ordered.1;
  inside = p.inside;
  below = λ t s h top b. p.below t h (below_trans w t s x b (p.ordered.0 s (top_label ds s top)));
}

-- from a row of nodes to the first
pub first_part : (w : Wanted) (all : Domain) (x : Name) (es ds : Subdomains) → ArePart w all (also (domain x es) ds) → IsPart w all x es
first_part w all x es ds p = record {
  ordered = p.ordered.1;
  itself = p.inside x (inl (inl refl));
  inside = λ y h. p.inside y (inl (inr h));
  below = λ t h b. ⊎_elim
      (λ k. ⊎_elim (λ e. absurd (not_below_self w.rows x t e b)) (λ j. j) k)
      (λ k. absurd ((beside_apart w (domain x es) ds x t p.ordered.0 (inl refl) k).1 b.0))
      (p.below t x h (inl refl) b);
}

-- and to the others
pub rest_part : (w : Wanted) (all d : Domain) (ds : Subdomains) → ArePart w all (also d ds) → ArePart w all ds
rest_part w all d ds p = record {
  ordered = p.ordered.2;
  inside = λ y h. p.inside y (inr h);
  below = λ t s h top b. ⊎_elim (λ k. absurd ((beside_apart w d ds t s p.ordered.0 k (top_label ds s top)).0 b.0)) (λ k. k) (p.below t s h (inr top) b);
}

-- a listed label is one of the tree
of_tree : (w : Wanted) (labels : List Name) (is_child : Name → Name → Bool) (all : Domain) → IsListed w labels is_child all → (y : Name) → In labels y → IsLabel all y
of_tree w labels is_child all l y h =
    let is = (l.names.members y).0 h in
    let c = l.tree.covers y is.seen in
    subst (IsLabel all) (one_first w l.examples c.0 y (l.tree.labels c.0 c.1) is c.2) c.1

-- and the other way round
pub to_labels : (w : Wanted) (labels : List Name) (is_child : Name → Name → Bool) (all : Domain) → IsListed w labels is_child all → (y : Name) → IsLabel all y → In labels y
to_labels w labels is_child all l y h = (l.names.members y).1 (l.tree.labels y h)

-- a label right below a node is that of a child
child_top : (w : Wanted) (labels : List Name) (is_child : Name → Name → Bool) (all : Domain) (x : Name) (ds : Subdomains) → IsListed w labels is_child all → IsPart w all x ds
    → (y : Name) → In (filter (is_child x) labels) y → In (tops ds) y
child_top w labels is_child all x ds l p y h =
    let k = filtered (is_child x) labels y h in
    let c = (l.tells x y (to_labels w labels is_child all l x p.itself) k.0).0 k.1 in
    let top = top_over w ds y p.ordered.1 (p.below y (of_tree w labels is_child all l y k.0) c.below) in
    ⊎_elim
    (λ e. in_tops ds y (subst (IsTopIn ds) e top.1))
    (λ b.
    let t = top.0 in
    let there = top_label ds t top.1 in
    absurd (c.none t (to_labels w labels is_child all l t (p.inside t there)) b (p.ordered.0 t there)))
    top.2

-- and the label of a child is right below
top_child : (w : Wanted) (labels : List Name) (is_child : Name → Name → Bool) (all : Domain) (x : Name) (ds : Subdomains) → IsListed w labels is_child all → IsPart w all x ds
    → (y : Name) → In (tops ds) y → In (filter (is_child x) labels) y
top_child w labels is_child all x ds l p y h =
    let top = top_in ds y h in
    let there = to_labels w labels is_child all l y (p.inside y (top_label ds y top)) in
    in_filtered (is_child x) labels y there
    ((l.tells x y (to_labels w labels is_child all l x p.itself) there).1 (record {
      below = p.ordered.0 y (top_label ds y top);
      none = λ t k yt tx.
          let over = top_over w ds t p.ordered.1 (p.below t (of_tree w labels is_child all l t k) tx) in
          ⊎_elim
          (λ same. not_below_self w.rows t y (sym same ∙ sym (tops_apart w ds y over.0 p.ordered.1 top over.1 (subst (IsWithin w.rows y) (sym same) yt.0))) yt)
          (λ ts. yt.1 (subst (IsWithin w.rows t) (sym (tops_apart w ds y over.0 p.ordered.1 top over.1 (within_trans w.rows y t over.0 yt.0 ts.0))) ts.0))
          over.2;
    }))

-- the labels of the trees of a row stand in the table's order
sorted_tops : (w : Wanted) (ds : Subdomains) → AreOrdered w ds → IsSorted (IsBefore w.vars) (tops ds)
sorted_tops w none order = tt
sorted_tops w (also d ds) order = (all_from (IsBefore w.vars (label d)) (tops ds) (λ y h. beside_before w d ds y order.0 (top_in ds y h)), sorted_tops w ds order.2)

-- a filtered list stays sorted
filter_step : {X : Type 0} (R : X → X → Type 0) (x : X) (ys : List X) (b : Bool) → AllByRecursion (R x) ys → IsSorted R ys → IsSorted R (cond b (x ∷ ys) ys)
filter_step R x ys true all s = (all, s)
filter_step R x ys false all s = s

pub filter_sorted : {X : Type 0} (R : X → X → Type 0) (f : X → Bool) (xs : List X) → IsSorted R xs → IsSorted R (filter f xs)
filter_sorted R f [] s = tt
filter_sorted R f (x ∷ xs) s = filter_step R x (filter f xs) (f x) (all_from (R x) (filter f xs) (λ y h. all_in (R x) xs y s.0 (filtered f xs y h).0)) (filter_sorted R f xs s.1)

-- so the labels right below a node are those of its children, in their order
pub children_are : (w : Wanted) (labels : List Name) (is_child : Name → Name → Bool) (all : Domain) (x : Name) (ds : Subdomains) → IsListed w labels is_child all → IsPart w all x ds
    → filter (is_child x) labels ≡ tops ds
children_are w labels is_child all x ds l p =
    sorted_same (IsBefore w.vars) (λ a b. not_both_before w.vars a b l.examples.once) (filter (is_child x) labels) (tops ds)
    (filter_sorted (IsBefore w.vars) (is_child x) labels l.names.sorted) (sorted_tops w ds p.ordered.1)
    (λ y. (child_top w labels is_child all x ds l p y, top_child w labels is_child all x ds l p y))

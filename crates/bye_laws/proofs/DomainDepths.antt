-- A tree of domains is the one that is made from its labels, to a depth that is enough.
use Rattle.std.proofs.Common.{◌≡◌, refl, ℕ, zero, suc, ◌+◌, ◌≤◌, ◌<◌, Bool, true, false, cond, List, [], ◌∷◌, length, map, ◌⊎◌, inl, inr, ⊎_elim, sym, ◌∙◌, ap, subst, arith}
use Rattle.std.specs.List.{count_by}
use Rattle.std.proofs.lemmas.List.Sums.{count_by-le-length, sum_by-cons}
use Rattle.bye_terms.specs.Members.{In}
use Rattle.bye_table.specs.Domains.{BindsEach, IsBelow, Wanted}
use Rattle.bye_table.specs.DomainTrees.{Domain, IsDomainTree, IsFirstOfClass, Subdomains, also, domain, label, none}
use Rattle.bye_table.specs.Mappings.{Mapping, Name}
use Rattle.bye_pattern.specs.Certificates.{ShowsFork, ShowsNoRoot}
use Rattle.bye_laws.specs.Completeness.{AreExamples}
use Rattle.bye_laws.specs.DomainNodes.{AreLabels, DomainTreesByDepth, IsChildAmong, TellsChildren, subdomains_of, tree_at}
use Rattle.bye_laws.proofs.Decided.{is_so, not_so, so_from, so_to}
use Rattle.bye_laws.proofs.DomainLabels.{IsTopIn, label_self, no_fork, top_label}
use Rattle.bye_laws.proofs.DomainNodes.{labels_one, labels_there}
use Rattle.bye_laws.proofs.DomainParts.{ArePart, IsListed, IsPart, below_trans, children_are, children_part, first_part, not_below_self, rest_part, to_labels, tops, whole_part}
use Rattle.bye_laws.proofs.DomainTrees.{domain_tree, one_first}
use Rattle.bye_laws.proofs.Withins.{below_or_not, within_each}

-- how many pass, with one more
count_step : {X : Type 0} (f : X → Bool) (x : X) (xs : List X) → count_by f (x ∷ xs) ≡ cond (f x) 1 0 + count_by f xs
count_step f x xs = sum_by-cons (λ y. cond (f y) 1 0) x xs

-- fewer pass a stricter test
one_if_less : (a b : Bool) → (a ≡ true → b ≡ true) → cond a 1 0 ≤ cond b 1 0
one_if_less true b f = subst (λ b. 1 ≤ cond b 1 0) (sym (f refl)) (omega arith)
one_if_less false true f = omega arith
one_if_less false false f = omega arith

count_up : {X : Type 0} (f h : X → Bool) (xs : List X) → ((x : X) → f x ≡ true → h x ≡ true) → count_by f xs ≤ count_by h xs
count_up f h [] imp = omega arith
count_up f h (x ∷ xs) imp =
    let a = count_step f x xs in
    let b = count_step h x xs in
    let c = one_if_less (f x) (h x) (imp x) in
    let d = count_up f h xs imp in
    omega (arith, a, b, c, d)

count_less : {X : Type 0} (f h : X → Bool) (xs : List X) (y : X) → ((x : X) → f x ≡ true → h x ≡ true) → In xs y → f y ≡ false → h y ≡ true → count_by f xs < count_by h xs
count_less f h [] y imp there out in_h = absurd there
count_less f h (x ∷ xs) y imp (inl e) out in_h =
    let a : count_by f (x ∷ xs) ≡ 0 + count_by f xs = count_step f x xs ∙ ap (λ b. cond b 1 0 + count_by f xs) (ap f e ∙ out) in
    let b : count_by h (x ∷ xs) ≡ 1 + count_by h xs = count_step h x xs ∙ ap (λ b. cond b 1 0 + count_by h xs) (ap h e ∙ in_h) in
    let d = count_up f h xs imp in
    omega (arith, a, b, d)
count_less f h (x ∷ xs) y imp (inr k) out in_h =
    let a = count_step f x xs in
    let b = count_step h x xs in
    let c = one_if_less (f x) (h x) (imp x) in
    let d = count_less f h xs y imp k out in_h in
    omega (arith, a, b, c, d)

-- where none is counted, none passes
count_zero : {X : Type 0} (f : X → Bool) (xs : List X) (y : X) → count_by f xs ≤ 0 → In xs y → f y ≡ true → ⊥
count_zero f [] y le there told = there
count_zero f (x ∷ xs) y le (inl e) told =
    let a : count_by f (x ∷ xs) ≡ 1 + count_by f xs = count_step f x xs ∙ ap (λ b. cond b 1 0 + count_by f xs) (ap f e ∙ told) in
    omega (arith, a, le)
count_zero f (x ∷ xs) y le (inr k) told =
    let a = count_step f x xs in
    count_zero f xs y (omega (arith, a, le)) k told

-- whether y is below x
abbrev is_below : List Mapping → Name → Name → Bool
is_below rows x y = is_so (below_or_not rows y x)

-- how many labels are below x
abbrev how_many : List Mapping → List Name → Name → ℕ
how_many rows labels x = count_by (is_below rows x) labels

-- fewer are below a child
fewer : (w : Wanted) (labels : List Name) (is_child : Name → Name → Bool) (all : Domain) (x : Name) (ds : Subdomains) → IsListed w labels is_child all → IsPart w all x ds
    → (t : Name) → IsTopIn ds t → how_many w.rows labels t < how_many w.rows labels x
fewer w labels is_child all x ds l p t top =
    let low = p.ordered.0 t (top_label ds t top) in
    count_less (is_below w.rows t) (is_below w.rows x) labels t
    (λ y e. so_to (below_or_not w.rows y x) (below_trans w y t x (so_from (below_or_not w.rows y t) e) low))
    (to_labels w labels is_child all l t (p.inside t (top_label ds t top)))
    (not_so (below_or_not w.rows t t) (not_below_self w.rows t t refl))
    (so_to (below_or_not w.rows t x) low)

-- a node of the tree
abbrev IsPartOf : Wanted → Domain → Domain → Type 0
IsPartOf w all (domain x ds) = IsPart w all x ds

first_of : (w : Wanted) (all d : Domain) (ds : Subdomains) → ArePart w all (also d ds) → IsPartOf w all d
first_of w all (domain y es) ds p = first_part w all y es ds p

-- each node is made, where the depth is enough
mutual
  at_tree : (w : Wanted) (labels : List Name) (is_child : Name → Name → Bool) (all : Domain) → IsListed w labels is_child all → (n : ℕ) (e : Domain) → IsPartOf w all e
      → how_many w.rows labels (label e) ≤ n → tree_at is_child labels n (label e) ≡ e
  at_tree w labels is_child all l zero (domain x none) p le = refl
  at_tree w labels is_child all l zero (domain x (also d ds)) p le =
      absurd (count_zero (is_below w.rows x) labels (label d) le (to_labels w labels is_child all l (label d) (p.inside (label d) (inl (label_self d))))
      (so_to (below_or_not w.rows (label d) x) (p.ordered.0 (label d) (inl (label_self d)))))
  at_tree w labels is_child all l (suc n) (domain x ds) p le =
      ap (domain x) (ap (λ ys. subdomains_of (map (tree_at is_child labels n) ys)) (children_are w labels is_child all x ds l p)
      ∙ at_trees w labels is_child all l n ds (children_part w all x ds p) (λ t top. let f = fewer w labels is_child all x ds l p t top in omega (arith, f, le)))

  at_trees : (w : Wanted) (labels : List Name) (is_child : Name → Name → Bool) (all : Domain) → IsListed w labels is_child all → (n : ℕ) (ds : Subdomains) → ArePart w all ds
      → ((t : Name) → IsTopIn ds t → how_many w.rows labels t ≤ n) → subdomains_of (map (tree_at is_child labels n) (tops ds)) ≡ ds
  at_trees w labels is_child all l n none p le = refl
  at_trees w labels is_child all l n (also d ds) p le =
      let one = at_tree w labels is_child all l n d (first_of w all d ds p) (le (label d) (inl refl)) in
      let rest = at_trees w labels is_child all l n ds (rest_part w all d ds p) (λ t top. le t (inr top)) in
      λ i. also (one i) (rest i)

-- the whole tree, from its own label
whole_tree : (w : Wanted) (labels : List Name) (is_child : Name → Name → Bool) (all : Domain) → IsListed w labels is_child all → (depth : ℕ) → length labels ≤ depth
    → tree_at is_child labels depth (label all) ≡ all
whole_tree w labels is_child (domain x ds) l depth le =
    let counted = count_by-le-length (is_below w.rows x) labels in
    at_tree w labels is_child (domain x ds) l depth (domain x ds) (whole_part w x ds l.tree.ordered) (omega (arith, counted, le))

-- the label of the root is the one that all rows bind
tree_made : (w : Wanted) (d : Domain) (labels : List Name) (is_child : Name → Name → Bool) (depth : ℕ) (x : Name) → AreExamples w → IsDomainTree w d → AreLabels w labels
    → TellsChildren w.rows labels is_child → length labels ≤ depth → IsFirstOfClass w x → BindsEach w.rows x → tree_at is_child labels depth x ≡ d
tree_made w d labels is_child depth x examples tree names tells le first each =
    let same : x ≡ label d = one_first w examples x (label d) first (tree.labels (label d) (label_self d)) (within_each w.rows x (label d) tree.root, within_each w.rows (label d) x each) in
    ap (tree_at is_child labels depth) same ∙ whole_tree w labels is_child d (record { examples = examples; tree = tree; names = names; tells = tells }) depth le

-- what is made from there is a tree of domains where no fork shows
tree_done : (w : Wanted) (labels : List Name) (is_child : Name → Name → Bool) (depth : ℕ) (x : Name) → AreExamples w → AreLabels w labels → TellsChildren w.rows labels is_child
    → length labels ≤ depth → IsFirstOfClass w x → BindsEach w.rows x → ((y z u : Name) → ShowsFork w.rows y z u → ⊥) → IsDomainTree w (tree_at is_child labels depth x)
tree_done w labels is_child depth x examples names tells le first each free =
    let (d, tree) = (domain_tree w examples).1 ((λ (root : ShowsNoRoot w.rows). root x each), free) in
    subst (IsDomainTree w) (sym (tree_made w d labels is_child depth x examples tree names tells le first each)) tree

-- a label lies between y and x
abbrev LiesBetween : List Mapping → Name → Name → Name → Type 0
LiesBetween rows x y t = IsBelow rows y t × IsBelow rows t x

lies_or_not : (rows : List Mapping) (x y t : Name) → LiesBetween rows x y t ⊎ (LiesBetween rows x y t → ⊥)
lies_or_not rows x y t =
    ⊎_elim
    (λ a. ⊎_elim (λ b. inl (a, b)) (λ n. inr (λ h. n h.1)) (below_or_not rows t x))
    (λ n. inr (λ h. n h.0))
    (below_or_not rows y t)

-- none of a list does, or not none
none_or_not : (rows : List Mapping) (x y : Name) (ts : List Name) → ((t : Name) → In ts t → LiesBetween rows x y t → ⊥) ⊎ (((t : Name) → In ts t → LiesBetween rows x y t → ⊥) → ⊥)
none_or_not rows x y [] = inl (λ t h k. h)
none_or_not rows x y (t ∷ ts) =
    ⊎_elim
    (λ here. inr (λ f. f t (inl refl) here))
    (λ n. ⊎_elim
    (λ f. inl (λ s h. ⊎_elim (λ e k. n (subst (LiesBetween rows x y) (sym e) k)) (λ j k. f s j k) h))
    (λ m. inr (λ f. m (λ s h. f s (inr h))))
    (none_or_not rows x y ts))
    (lies_or_not rows x y t)

-- so it is decided what is right below
child_or_not : (rows : List Mapping) (labels : List Name) (x y : Name) → IsChildAmong rows labels x y ⊎ (IsChildAmong rows labels x y → ⊥)
child_or_not rows labels x y =
    ⊎_elim
    (λ b. ⊎_elim
    (λ f. inl (record { below = b; none = λ t h a c. f t h (a, c) }))
    (λ n. inr (λ is. n (λ t h k. is.none t h k.0 k.1)))
    (none_or_not rows x y labels))
    (λ n. inr (λ is. n is.below))
    (below_or_not rows y x)

-- and there is a test of it
test_there : (rows : List Mapping) (labels : List Name) → (is_child : Name → Name → Bool) × TellsChildren rows labels is_child
test_there rows labels = ((λ x y. is_so (child_or_not rows labels x y)), λ x y h k. (so_from (child_or_not rows labels x y), so_to (child_or_not rows labels x y)))

-- the tree by its depth
pub depth_told : DomainTreesByDepth
depth_told = record {
  labels = labels_there;
  one_of_labels = labels_one;
  test = test_there;
  tree = tree_made;
  made = λ w labels is_child depth x examples names tells le first each. (no_fork w (tree_at is_child labels depth x), tree_done w labels is_child depth x examples names tells le first each);
}

-- There is a tree of domains exactly where neither noroot nor a fork shows.
use Rattle.std.proofs.Common.{◌≡◌, refl, List, [], ◌∷◌, ◌⊎◌, inl, inr, ⊎_elim, sym, subst, ◌↔◌}
use Rattle.std.specs.Str.{bytes_eq}
use Rattle.std.proofs.lemmas.Slice.Eq.{bytes_eq-Decides}
use Rattle.bye_terms.specs.Members.{EachOnce, In}
use Rattle.bye_terms.proofs.Tests.{bool_cases, not_both}
use Rattle.bye_pattern.specs.Certificates.{ShowsFork, ShowsNoRoot}
use Rattle.bye_table.specs.Domains.{AreAlike, BindsEach, IsBefore, IsSeen, Wanted}
use Rattle.bye_table.specs.Mappings.{Mapping, Name}
use Rattle.bye_table.specs.DomainTrees.{AreOrdered, Domain, IsDomainTree, IsFirstOfClass, IsLabel, IsLabelIn, IsOrdered, Subdomains, also, label, none}
use Rattle.bye_laws.specs.Completeness.{AreExamples}
use Rattle.bye_laws.proofs.DomainLabels.{beside_apart, label_self, label_within, no_fork}
use Rattle.bye_laws.proofs.GrowingDomains.{IsForkless, MayCome, added, place}
use Rattle.bye_laws.proofs.Withins.{alike_or_not, alike_trans, each_or_not, each_seen, each_up, seen_or_not, seen_up, within_each, within_self}

-- of two variables of a list that are not the same one stands first
pub one_before : (xs : List Name) (x y : Name) → In xs x → In xs y → (x ≡ y) ⊎ (IsBefore xs x y ⊎ IsBefore xs y x)
one_before [] x y h k = absurd h
one_before (v ∷ xs) x y (inl e) (inl f) = inl (subst (λ v. v ≡ y) e f)
one_before (v ∷ xs) x y (inl e) (inr k) = inr (inl (inl (e, k)))
one_before (v ∷ xs) x y (inr h) (inl f) = inr (inr (inl (f, h)))
one_before (v ∷ xs) x y (inr h) (inr k) = ⊎_elim inl (λ r. inr (⊎_elim (λ b. inl (inr b)) (λ b. inr (inr b)) r)) (one_before xs x y h k)

-- what stands after another variable is in the list
pub before_in : (xs : List Name) (x y : Name) → IsBefore xs x y → In xs y
before_in [] x y h = absurd h
before_in (v ∷ xs) x y (inl h) = inr h.1
before_in (v ∷ xs) x y (inr h) = inr (before_in xs x y h)

-- two variables of one class that are first of it are the same
pub one_first : (w : Wanted) → AreExamples w → (x y : Name) → IsFirstOfClass w x → IsFirstOfClass w y → AreAlike w.rows x y → x ≡ y
one_first w examples x y a b same =
    ⊎_elim
    (λ e. e)
    (λ r. ⊎_elim (λ before. absurd (b.first x before (same.1, same.0))) (λ before. absurd (a.first y before same)) r)
    (one_before w.vars x y (examples.within x a.seen) (examples.within y b.seen))

-- the first variable of the list that is alike v
first_alike : (rows : List Mapping) (xs : List Name) (v : Name) → EachOnce xs → (u : Name) → In xs u → AreAlike rows v u
    → (x : Name) × AreAlike rows v x × ((In xs x) × ((y : Name) → IsBefore xs y x → AreAlike rows v y → ⊥))
first_alike rows [] v once u h same = absurd h
first_alike rows (x ∷ xs) v once u h same =
    ⊎_elim
    (λ here. (x, here, (inl refl, λ y before k. ⊎_elim (λ b. once.0 b.1) (λ b. once.0 (before_in xs y x b)) before)))
    (λ no.
    let there : In xs u = ⊎_elim (λ e. absurd (no (subst (AreAlike rows v) (sym e) same))) (λ k. k) h in
    let r = first_alike rows xs v once.1 u there same in
    (r.0, r.1, (inr r.2.0, λ y before k. ⊎_elim (λ b. no (subst (AreAlike rows v) (sym b.0) k)) (λ b. r.2.1 y b k) before)))
    (alike_or_not rows v x)

-- each class of a seen variable has a first variable
pub class_first : (w : Wanted) → AreExamples w → (v : Name) → IsSeen w.rows v → (x : Name) × IsFirstOfClass w x × AreAlike w.rows x v
class_first w examples v seen =
    let r = first_alike w.rows w.vars v examples.once v (examples.within v seen) (within_self w.rows v, within_self w.rows v) in (
      r.0,
      record { seen = seen_up w.rows v r.0 seen r.1.0; first = λ y before same. r.2.1 y before (alike_trans w.rows v r.0 y r.1 same) },
      (r.1.1, r.1.0),
    )

-- two names are the same or are not
pub same_or_not : (x y : Name) → (x ≡ y) ⊎ (x ≡ y → ⊥)
same_or_not x y =
    ⊎_elim (λ e. inl ((bytes_eq-Decides x y).0 e)) (λ e. inr (λ h. not_both _ ((bytes_eq-Decides x y).1 h) e)) (bool_cases (bytes_eq x y))

-- a variable is the first of its class or is not
pub first_or_not : (w : Wanted) → AreExamples w → (x : Name) → IsFirstOfClass w x ⊎ (IsFirstOfClass w x → ⊥)
first_or_not w examples x =
    ⊎_elim
    (λ seen. let r = class_first w examples x seen in
    ⊎_elim
    (λ e. inl (subst (IsFirstOfClass w) e r.1))
    (λ no. inr (λ first. no (one_first w examples r.0 x r.1 first r.2)))
    (same_or_not r.0 x))
    (λ no. inr (λ first. no first.seen))
    (seen_or_not w.rows x)

-- trees whose labels are the variables of the list that are first of their class
record AreBuilt (w : Wanted) (xs : List Name) (ds : Subdomains) : Type 0 where
  labels : (y : Name) → IsLabelIn ds y ↔ (In xs y × IsFirstOfClass w y)
  ordered : AreOrdered w ds

-- a variable that is first of its class may come to the trees of the later ones
may_come : (w : Wanted) (x : Name) (xs : List Name) (ds : Subdomains) → ((a b : Name) → IsBefore (x ∷ xs) a b → IsBefore w.vars a b)
    → IsFirstOfClass w x → AreBuilt w xs ds → MayCome w x ds
may_come w x xs ds early first built =
    let before : (y : Name) → IsLabelIn ds y → IsBefore w.vars x y = λ y h. early x y (inl (refl, ((built.labels y).0 h).0)) in
    record {
      itself = first.seen;
      seen = λ y h. ((built.labels y).0 h).1.seen;
      before = before;
      new = λ y h same. ((built.labels y).0 h).1.first x (before y h) (same.1, same.0);
    }

-- without forks there are such trees for each end of the table's variables
built : (w : Wanted) → AreExamples w → IsForkless w → (xs : List Name) → ((a b : Name) → IsBefore xs a b → IsBefore w.vars a b) → (ds : Subdomains) × AreBuilt w xs ds
built w examples free [] early = (none, record { labels = λ y. ((λ h. absurd h), λ h. h.0); ordered = tt })
built w examples free (x ∷ xs) early =
    let r = built w examples free xs (λ a b h. early a b (inr h)) in
    ⊎_elim
    (λ first.
    let come = may_come w x xs r.0 early first r.1 in
    let add = added w free x r.0 come (place w free x r.0 come r.1.ordered) in (
      add.0,
      record {
        labels = λ y. (
          (λ h. ⊎_elim (λ e. (inl e, subst (IsFirstOfClass w) e first)) (λ k. let p = (r.1.labels y).0 k in (inr p.0, p.1)) ((add.1.labels y).0 h)),
          (λ h. ⊎_elim (λ e. (add.1.labels y).1 (inl e)) (λ k. (add.1.labels y).1 (inr ((r.1.labels y).1 (k, h.1)))) h.0),
        );
        ordered = add.1.ordered;
      },
    ))
    (λ no. (
      r.0,
      record {
        labels = λ y. (
          (λ h. let p = (r.1.labels y).0 h in (inr p.0, p.1)),
          (λ h. ⊎_elim (λ e. absurd (no (subst (IsFirstOfClass w) (sym e) h.1))) (λ k. (r.1.labels y).1 (k, h.1)) h.0),
        );
        ordered = r.1.ordered;
      },
    ))
    (first_or_not w examples x)

-- trees with a label that all rows bind are a single one
single : (w : Wanted) (ds : Subdomains) (x : Name) → AreOrdered w ds → BindsEach w.rows x → IsLabelIn ds x
    → (d : Domain) × ((IsOrdered w d × BindsEach w.rows (label d)) × ((y : Name) → IsLabelIn ds y ↔ IsLabel d y))
single w none x order each h = absurd h
single w (also d none) x order each (inl h) =
    (d, ((order.1, each_up w.rows x (label d) each (label_within w d x order.1 h)), λ y. ((λ k. ⊎_elim (λ j. j) (λ j. absurd j) k), inl)))
single w (also d none) x order each (inr h) = absurd h
single w (also d (also e es)) x order each (inl h) =
    absurd ((beside_apart w d (also e es) x (label e) order.0 h (inl (label_self e))).1 (within_each w.rows (label e) x each))
single w (also d (also e es)) x order each (inr h) =
    absurd ((beside_apart w d (also e es) (label d) x order.0 (label_self d) h).0 (within_each w.rows (label d) x each))

-- some variable of the list is bound in all rows or none is
pub some_each : (rows : List Mapping) (xs : List Name) → ((x : Name) × BindsEach rows x) ⊎ ((x : Name) → In xs x → BindsEach rows x → ⊥)
some_each rows [] = inr (λ x h each. h)
some_each rows (x ∷ xs) =
    ⊎_elim
    (λ each. inl (x, each))
    (λ n. ⊎_elim inl (λ no. inr (λ y h each. ⊎_elim (λ e. n (subst (BindsEach rows) (sym e) each)) (λ k. no y k each) h)) (some_each rows xs))
    (each_or_not rows x)

-- a variable that all rows bind, where noroot does not show
some_root : (w : Wanted) → AreExamples w → (ShowsNoRoot w.rows → ⊥) → (x : Name) × BindsEach w.rows x
some_root w examples root =
    ⊎_elim (λ r. r) (λ no. absurd (root (λ x each. no x (examples.within x (each_seen w.rows x examples.some each)) each))) (some_each w.rows w.vars)

-- without noroot and forks there is a tree of domains
tree_from : (w : Wanted) → AreExamples w → (ShowsNoRoot w.rows → ⊥) → IsForkless w → (d : Domain) × IsDomainTree w d
tree_from w examples root free =
    let r = some_root w examples root in
    let trees = built w examples free w.vars (λ a b h. h) in
    let class : (v : Name) → IsSeen w.rows v → (x : Name) × IsLabelIn trees.0 x × AreAlike w.rows x v = λ v seen.
    let c = class_first w examples v seen in (c.0, (trees.1.labels c.0).1 (examples.within c.0 c.1.seen, c.1), c.2) in
    let top = class r.0 (each_seen w.rows r.0 examples.some r.1) in
    let one = single w trees.0 top.0 trees.1.ordered (each_up w.rows r.0 top.0 r.1 top.2.1) top.1 in (
      one.0,
      record {
        labels = λ x h. ((trees.1.labels x).0 ((one.1.1 x).1 h)).1;
        covers = λ v seen. let c = class v seen in (c.0, (one.1.1 c.0).0 c.1, c.2);
        ordered = one.1.0.0;
        root = one.1.0.1;
      },
    )

-- there is a tree of domains exactly where neither noroot nor a fork shows
pub domain_tree : (w : Wanted) → AreExamples w → ((d : Domain) × IsDomainTree w d) ↔ ((ShowsNoRoot w.rows → ⊥) × ((x y z : Name) → ShowsFork w.rows x y z → ⊥))
domain_tree w examples = (
  (λ (d, tree). ((λ root. root (label d) tree.root), no_fork w d tree)),
  (λ (root, free). tree_from w examples root free),
)

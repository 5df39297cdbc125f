-- One more variable comes to a row of trees of domains.
use Rattle.std.proofs.Common.{◌≡◌, refl, ◌⊎◌, inl, inr, ⊎_elim, subst, ◌↔◌}
use Rattle.bye_terms.proofs.Tests.{second}
use Rattle.bye_pattern.specs.Certificates.{ShowsFork}
use Rattle.bye_table.specs.Domains.{AreAlike, IsBefore, IsBelow, IsSeen, IsWithin, Wanted}
use Rattle.bye_table.specs.Mappings.{Name}
use Rattle.bye_table.specs.DomainTrees.{AreOrdered, Domain, IsBeside, IsLabel, IsLabelIn, IsOrdered, Subdomains, also, domain, label, none}
use Rattle.bye_laws.proofs.DomainLabels.{IsTopIn, beside_apart, beside_before, label_self, label_within, top_label, top_over}
use Rattle.bye_laws.proofs.Withins.{below_or_not, within_below, within_or_not, within_trans}

-- no variable is within two others of which neither is within the other
abbrev pub IsForkless : Wanted → Type 0
IsForkless w = (x y z : Name) → ShowsFork w.rows x y z → ⊥

-- x stands before y, and neither is within the other
pub record IsNext (w : Wanted) (x y : Name) : Type 0 where
  pub before : IsBefore w.vars x y
  apart : IsWithin w.rows x y → ⊥
  back : IsWithin w.rows y x → ⊥

-- without forks two trees are apart where their roots are
trees_apart : (w : Wanted) → IsForkless w → (d e : Domain) → IsOrdered w d → IsOrdered w e → IsNext w (label d) (label e)
    → (x y : Name) → IsSeen w.rows x → IsSeen w.rows y → IsLabel d x → IsLabel e y → (IsWithin w.rows x y → ⊥) × (IsWithin w.rows y x → ⊥)
trees_apart w free d e first second next x y s t h k =
    let a = label_within w d x first h in
    let b = label_within w e y second k in (
      (λ up. free x (label d) (label e) (record { seen = s; first = a; second = within_trans w.rows x y (label e) up b; first_apart = next.apart; second_apart = next.back })),
      (λ up. free y (label d) (label e) (record { seen = t; first = within_trans w.rows y x (label d) up a; second = b; first_apart = next.apart; second_apart = next.back })),
    )

-- and so a tree stands beside others where its root stands beside theirs
beside_from : (w : Wanted) → IsForkless w → (d : Domain) (ds : Subdomains) → IsOrdered w d → AreOrdered w ds → ((x : Name) → IsLabel d x → IsSeen w.rows x)
    → ((x : Name) → IsLabelIn ds x → IsSeen w.rows x) → ((t : Name) → IsTopIn ds t → IsNext w (label d) t) → IsBeside w d ds
beside_from w free d none order orders seen sees next = tt
beside_from w free d (also e ds) order orders seen sees next = (
  (next (label e) (inl refl)).before,
  (λ x y h k. trees_apart w free d e order orders.1 (next (label e) (inl refl)) x y (seen x h) (sees y (inl k)) h k),
  beside_from w free d ds order orders.2 seen (λ x h. sees x (inr h)) (λ t h. next t (inr h)),
)

-- x may be added to the trees: it stands before their labels and is of none of their classes
pub record MayCome (w : Wanted) (x : Name) (ds : Subdomains) : Type 0 where
  pub itself : IsSeen w.rows x
  pub seen : (y : Name) → IsLabelIn ds y → IsSeen w.rows y
  pub before : (y : Name) → IsLabelIn ds y → IsBefore w.vars x y
  pub new : (y : Name) → IsLabelIn ds y → AreAlike w.rows x y → ⊥

-- the trees with x added
pub record IsAdded (w : Wanted) (x : Name) (ds es : Subdomains) : Type 0 where
  pub labels : (y : Name) → IsLabelIn es y ↔ ((x ≡ y) ⊎ IsLabelIn ds y)
  pub ordered : AreOrdered w es

-- the same, where x came below one of the roots
pub record IsInside (w : Wanted) (x : Name) (ds es : Subdomains) : Type 0 where
  pub added : IsAdded w x ds es
  tops : (t : Name) → IsTopIn es t → IsTopIn ds t

-- the trees in two parts: those smaller than x, and those apart from it
pub record IsParted (w : Wanted) (x : Name) (ds low high : Subdomains) : Type 0 where
  pub labels : (y : Name) → IsLabelIn ds y ↔ (IsLabelIn low y ⊎ IsLabelIn high y)
  low_ordered : AreOrdered w low
  high_ordered : AreOrdered w high
  low_tops : (t : Name) → IsTopIn low t → IsTopIn ds t × IsBelow w.rows t x
  high_tops : (t : Name) → IsTopIn high t → IsTopIn ds t × IsNext w x t

-- x above the smaller trees and beside the others
over_parts : (w : Wanted) → IsForkless w → (x : Name) (ds low high : Subdomains) → MayCome w x ds → IsParted w x ds low high → IsAdded w x ds (also (domain x low) high)
over_parts w free x ds low high come parted =
    let under : (y : Name) → IsLabelIn low y → IsBelow w.rows y x = λ y h.
    let r = top_over w low y parted.low_ordered h in
    let below = (parted.low_tops r.0 r.1).1 in
    ⊎_elim (λ e. subst (λ y. IsBelow w.rows y x) e below) (λ k. within_below w.rows y r.0 x k.0 below) r.2 in
    let seen : (y : Name) → IsLabel (domain x low) y → IsSeen w.rows y = λ y h.
    ⊎_elim (λ e. subst (IsSeen w.rows) e come.itself) (λ k. come.seen y ((parted.labels y).1 (inl k))) h in
    record {
      labels = λ y. (
        (λ h. ⊎_elim (λ k. ⊎_elim inl (λ j. inr ((parted.labels y).1 (inl j))) k) (λ k. inr ((parted.labels y).1 (inr k))) h),
        (λ h. ⊎_elim (λ e. inl (inl e)) (λ k. ⊎_elim (λ j. inl (inr j)) inr ((parted.labels y).0 k)) h),
      );
      ordered = (
        beside_from w free (domain x low) high (under, parted.low_ordered) parted.high_ordered seen
            (λ y h. come.seen y ((parted.labels y).1 (inr h))) (λ t h. (parted.high_tops t h).1),
        (under, parted.low_ordered),
        parted.high_ordered,
      );
    }

-- where x can go: below one of the roots, or over some of them
abbrev pub Place : Wanted → Name → Subdomains → Type 0
Place w x ds = ((es : Subdomains) × IsInside w x ds es) ⊎ ((low : Subdomains) × (high : Subdomains) × IsParted w x ds low high)

-- x added at its place
pub added : (w : Wanted) → IsForkless w → (x : Name) (ds : Subdomains) → MayCome w x ds → Place w x ds → (es : Subdomains) × IsAdded w x ds es
added w free x ds come (inl (es, inside)) = (es, inside.added)
added w free x ds come (inr (low, high, parted)) = (also (domain x low) high, over_parts w free x ds low high come parted)

-- what may come to a tree may come to the trees below its root
come_below : (w : Wanted) (x z : Name) (ds es : Subdomains) → MayCome w x (also (domain z ds) es) → MayCome w x ds
come_below w x z ds es come = record {
  itself = come.itself;
  seen = λ y h. come.seen y (inl (inr h));
  before = λ y h. come.before y (inl (inr h));
  new = λ y h. come.new y (inl (inr h));
}

-- and to the trees beside it
come_rest : (w : Wanted) (x : Name) (d : Domain) (ds : Subdomains) → MayCome w x (also d ds) → MayCome w x ds
come_rest w x d ds come = record {
  itself = come.itself;
  seen = λ y h. come.seen y (inr h);
  before = λ y h. come.before y (inr h);
  new = λ y h. come.new y (inr h);
}

-- x below the root of the first tree
below_first : (w : Wanted) → IsForkless w → (x z : Name) (ds es rest : Subdomains) → MayCome w x (also (domain z ds) rest) → AreOrdered w (also (domain z ds) rest)
    → IsBelow w.rows x z → IsAdded w x ds es → IsInside w x (also (domain z ds) rest) (also (domain z es) rest)
below_first w free x z ds es rest come order below add =
    let under : (y : Name) → IsLabelIn es y → IsBelow w.rows y z = λ y h.
    ⊎_elim (λ e. subst (λ y. IsBelow w.rows y z) e below) (λ k. order.1.0 y k) ((add.labels y).0 h) in
    let seen : (y : Name) → IsLabel (domain z es) y → IsSeen w.rows y = λ y h.
    ⊎_elim (λ e. come.seen y (inl (inl e))) (λ k. ⊎_elim (λ e. subst (IsSeen w.rows) e come.itself) (λ j. come.seen y (inl (inr j))) ((add.labels y).0 k)) h in
    let next : (t : Name) → IsTopIn rest t → IsNext w z t = λ t h.
    let apart = beside_apart w (domain z ds) rest z t order.0 (inl refl) (top_label rest t h) in
    record { before = beside_before w (domain z ds) rest t order.0 h; apart = apart.0; back = apart.1 } in
    record {
      added = record {
        labels = λ y. (
          (λ h. ⊎_elim (λ k. ⊎_elim (λ e. inr (inl (inl e))) (λ j. ⊎_elim inl (λ i. inr (inl (inr i))) ((add.labels y).0 j)) k) (λ k. inr (inr k)) h),
          (λ h. ⊎_elim
              (λ e. inl (inr ((add.labels y).1 (inl e))))
              (λ k. ⊎_elim (λ j. ⊎_elim (λ e. inl (inl e)) (λ i. inl (inr ((add.labels y).1 (inr i)))) j) inr k)
              h),
        );
        ordered = (beside_from w free (domain z es) rest (under, add.ordered) order.2 seen (λ y h. come.seen y (inr h)) next, (under, add.ordered), order.2);
      };
      tops = λ t h. h;
    }

-- a tree beside the same roots
beside_same : (w : Wanted) → IsForkless w → (d : Domain) (ds es : Subdomains) → IsOrdered w d → IsBeside w d ds → AreOrdered w es → ((y : Name) → IsLabel d y → IsSeen w.rows y)
    → ((y : Name) → IsLabelIn es y → IsSeen w.rows y) → ((t : Name) → IsTopIn es t → IsTopIn ds t) → IsBeside w d es
beside_same w free d ds es order beside orders seen sees tops = beside_from w free d es order orders seen sees (λ t h.
    let apart = beside_apart w d ds (label d) t beside (label_self d) (top_label ds t (tops t h)) in
    record { before = beside_before w d ds t beside (tops t h); apart = apart.0; back = apart.1 })

-- x below the root of a later tree
below_later : (w : Wanted) → IsForkless w → (x : Name) (d : Domain) (ds es : Subdomains) → MayCome w x (also d ds) → AreOrdered w (also d ds)
    → IsInside w x ds es → IsInside w x (also d ds) (also d es)
below_later w free x d ds es come order inside =
    let sees : (y : Name) → IsLabelIn es y → IsSeen w.rows y = λ y h.
    ⊎_elim (λ e. subst (IsSeen w.rows) e come.itself) (λ k. come.seen y (inr k)) ((inside.added.labels y).0 h) in
    record {
      added = record {
        labels = λ y. (
          (λ h. ⊎_elim (λ k. inr (inl k)) (λ k. ⊎_elim inl (λ j. inr (inr j)) ((inside.added.labels y).0 k)) h),
          (λ h. ⊎_elim (λ e. inr ((inside.added.labels y).1 (inl e))) (λ k. ⊎_elim inl (λ j. inr ((inside.added.labels y).1 (inr j))) k) h),
        );
        ordered = (beside_same w free d ds es order.1 order.0 inside.added.ordered (λ y h. come.seen y (inl h)) sees inside.tops, order.1, inside.added.ordered);
      };
      tops = λ t h. ⊎_elim inl (λ k. inr (inside.tops t k)) h;
    }

-- one more tree that is smaller than x
low_more : (w : Wanted) → IsForkless w → (x : Name) (d : Domain) (ds low high : Subdomains) → MayCome w x (also d ds) → AreOrdered w (also d ds)
    → IsBelow w.rows (label d) x → IsParted w x ds low high → IsParted w x (also d ds) (also d low) high
low_more w free x d ds low high come order below parted = record {
  labels = λ y. (
    (λ h. ⊎_elim (λ k. inl (inl k)) (λ k. ⊎_elim (λ j. inl (inr j)) inr ((parted.labels y).0 k)) h),
    (λ h. ⊎_elim (λ k. ⊎_elim inl (λ j. inr ((parted.labels y).1 (inl j))) k) (λ k. inr ((parted.labels y).1 (inr k))) h),
  );
  low_ordered = (
    beside_same w free d ds low order.1 order.0 parted.low_ordered (λ y h. come.seen y (inl h)) (λ y h. come.seen y (inr ((parted.labels y).1 (inl h)))) (λ t h. (parted.low_tops t h).0),
    order.1,
    parted.low_ordered,
  );
  high_ordered = parted.high_ordered;
  low_tops = λ t h. ⊎_elim (λ e. (inl e, subst (λ t. IsBelow w.rows t x) e below)) (λ k. (inr (parted.low_tops t k).0, (parted.low_tops t k).1)) h;
  high_tops = λ t h. (inr (parted.high_tops t h).0, (parted.high_tops t h).1);
}

-- one more tree that is apart from x
high_more : (w : Wanted) → IsForkless w → (x : Name) (d : Domain) (ds low high : Subdomains) → MayCome w x (also d ds) → AreOrdered w (also d ds)
    → IsNext w x (label d) → IsParted w x ds low high → IsParted w x (also d ds) low (also d high)
high_more w free x d ds low high come order next parted = record {
  labels = λ y. (
    (λ h. ⊎_elim (λ k. inr (inl k)) (λ k. ⊎_elim inl (λ j. inr (inr j)) ((parted.labels y).0 k)) h),
    (λ h. ⊎_elim (λ k. inr ((parted.labels y).1 (inl k))) (λ k. ⊎_elim inl (λ j. inr ((parted.labels y).1 (inr j))) k) h),
  );
  low_ordered = parted.low_ordered;
  high_ordered = (
    beside_same w free d ds high order.1 order.0 parted.high_ordered (λ y h. come.seen y (inl h)) (λ y h. come.seen y (inr ((parted.labels y).1 (inr h)))) (λ t h. (parted.high_tops t h).0),
    order.1,
    parted.high_ordered,
  );
  low_tops = λ t h. (inr (parted.low_tops t h).0, (parted.low_tops t h).1);
  high_tops = λ t h. ⊎_elim (λ e. (inl e, subst (IsNext w x) e next)) (λ k. (inr (parted.high_tops t k).0, (parted.high_tops t k).1)) h;
}

-- a root that x is not below is below x or apart from it
low_or_apart : (w : Wanted) (x y : Name) → IsBefore w.vars x y → (AreAlike w.rows x y → ⊥) → (IsBelow w.rows x y → ⊥) → IsBelow w.rows y x ⊎ IsNext w x y
low_or_apart w x y before new out =
    ⊎_elim
    (λ up. ⊎_elim (λ back. absurd (new (up, back))) (λ n. absurd (out (up, n))) (within_or_not w.rows y x))
    (λ n. ⊎_elim (λ back. inl (back, n)) (λ m. inr (record { before = before; apart = n; back = m })) (within_or_not w.rows y x))
    (within_or_not w.rows x y)

-- the place of x in a row of trees
pub place : (w : Wanted) → IsForkless w → (x : Name) (ds : Subdomains) → MayCome w x ds → AreOrdered w ds → Place w x ds
place w free x none come order = inr (
  none,
  none,
  record {
    labels = λ y. ((λ h. absurd h), (λ h. ⊎_elim (λ k. k) (λ k. k) h));
    low_ordered = tt;
    high_ordered = tt;
    low_tops = λ t h. absurd h;
    high_tops = λ t h. absurd h;
  },
)
place w free x (also (domain z ds) rest) come order =
    let further = come_below w x z ds rest come in
    ⊎_elim
    (λ below. let r = added w free x ds further (place w free x ds further order.1.1) in inl (also (domain z r.0) rest, below_first w free x z ds r.0 rest come order below r.1))
    (λ no. ⊎_elim
    (λ r. inl (also (domain z ds) r.0, below_later w free x (domain z ds) rest r.0 come order r.1))
    (λ r. ⊎_elim
    (λ below. inr (also (domain z ds) r.0, r.1, low_more w free x (domain z ds) rest r.0 r.1 come order below r.2))
    (λ next. inr (r.0, also (domain z ds) r.1, high_more w free x (domain z ds) rest r.0 r.1 come order next r.2))
    (low_or_apart w x z (come.before z (inl (inl refl))) (come.new z (inl (inl refl))) no))
    (place w free x rest (come_rest w x (domain z ds) rest come) order.2))
    (below_or_not w.rows x z)

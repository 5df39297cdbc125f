-- The variables and the rows of each node of a tree of domains, and the nodes above it.
use Rattle.std.proofs.Common.{◌≡◌, refl, ℕ, zero, suc, ◌<◌, List, [], ◌∷◌, map, ◌⊎◌, inl, inr, ⊎_elim, sym, ◌∙◌, ap, subst, ◌↔◌, arith}
use Rattle.std.specs.List.{AllByRecursion}
use Rattle.bye_terms.specs.Members.{In}
use Rattle.bye_terms.proofs.Lists.{in_map, map_in}
use Rattle.bye_terms.proofs.Members.{all_from, all_in}
use Rattle.bye_table.specs.Domains.{AreAlike, InE, IsBefore, IsBelow, IsRowAt, IsSeen, IsWithin, Wanted}
use Rattle.bye_table.specs.DomainTrees.{AreOrdered, Domain, IsDomainTree, IsFirstOfClass, IsLabel, IsLabelIn, IsOrdered, Subdomains, also, domain, none}
use Rattle.bye_table.specs.Mappings.{Binds, Mapping, Name}
use Rattle.bye_laws.specs.Completeness.{AreExamples}
use Rattle.bye_laws.specs.DomainNodes.{AreLabels, AreNumbersOf, AreVariablesOf, DomainNodesAreTold, StandsAbove, StandsAboveIn}
use Rattle.bye_laws.specs.Ordering.{IsSorted}
use Rattle.bye_laws.proofs.DomainLabels.{beside_apart}
use Rattle.bye_laws.proofs.DomainTrees.{first_or_not, one_first}
use Rattle.bye_laws.proofs.KeptQueries.{sorted_same}
use Rattle.bye_laws.proofs.OneDomainTree.{not_both_before}
use Rattle.bye_laws.proofs.Withins.{alike_or_not, alike_trans, binds_or_not, seen_or_not, within_self}

-- a list stays sorted where less is asked of it
sorted_for : {X : Type 0} (R S : X → X → Type 0) → ((x y : X) → R x y → S x y) → (xs : List X) → IsSorted R xs → IsSorted S xs
sorted_for R S f [] sorted = tt
sorted_for R S f (x ∷ xs) sorted = (all_from (S x) xs (λ y h. f x y (all_in (R x) xs y sorted.0 h)), sorted_for R S f xs sorted.1)

-- the names of a list of which a decided fact holds, in its order
pub chosen : (P : Name → Type 0) → ((v : Name) → P v ⊎ (P v → ⊥)) → (xs : List Name) → (vs : List Name) × IsSorted (IsBefore xs) vs × ((v : Name) → In vs v ↔ (In xs v × P v))
chosen P decide [] = ([], tt, λ v. ((λ h. absurd h), (λ h. h.0)))
chosen P decide (x ∷ xs) =
    let w = chosen P decide xs in
    let later = sorted_for (IsBefore xs) (IsBefore (x ∷ xs)) (λ a b h. inr h) w.0 w.1 in
    ⊎_elim
    (λ p. (
      x ∷ w.0,
      (all_from (IsBefore (x ∷ xs) x) w.0 (λ v h. inl (refl, ((w.2 v).0 h).0)), later),
      λ v. (
        (λ h. ⊎_elim (λ e. (inl e, subst P e p)) (λ k. let m = (w.2 v).0 k in (inr m.0, m.1)) h),
        (λ h. ⊎_elim (λ e. inl e) (λ k. inr ((w.2 v).1 (k, h.1))) h.0),
      ),
    ))
    (λ n. (
      w.0,
      later,
      λ v. (
        (λ h. let m = (w.2 v).0 h in (inr m.0, m.1)),
        (λ h. ⊎_elim (λ e. absurd (n (subst P (sym e) h.1))) (λ k. (w.2 v).1 (k, h.1)) h.0),
      ),
    ))
    (decide x)

-- a variable is seen and of the class or is not
class_or_not : (rows : List Mapping) (x v : Name) → (IsSeen rows v × AreAlike rows x v) ⊎ ((IsSeen rows v × AreAlike rows x v) → ⊥)
class_or_not rows x v =
    ⊎_elim
    (λ s. ⊎_elim (λ a. inl (s, a)) (λ n. inr (λ h. n h.1)) (alike_or_not rows x v))
    (λ n. inr (λ h. n h.0))
    (seen_or_not rows v)

-- the variables of a class
variables_there : (w : Wanted) (x : Name) → AreExamples w → (vs : List Name) × AreVariablesOf w x vs
variables_there w x examples =
    let c = chosen (λ v. IsSeen w.rows v × AreAlike w.rows x v) (class_or_not w.rows x) w.vars in
    (c.0, record { members = λ v. ((λ h. ((c.2 v).0 h).1), (λ h. (c.2 v).1 (examples.within v h.0, h))); sorted = c.1 })

-- names in the order of a list are told by their members
pub names_one : (header vs us : List Name) (P : Name → Type 0) → ((x y : Name) → IsBefore header x y → IsBefore header y x → ⊥) → IsSorted (IsBefore header) vs
    → IsSorted (IsBefore header) us → ((v : Name) → In vs v ↔ P v) → ((v : Name) → In us v ↔ P v) → vs ≡ us
names_one header vs us P apart a b first second =
    sorted_same (IsBefore header) apart vs us a b (λ v. ((λ h. (second v).1 ((first v).0 h)), (λ h. (first v).1 ((second v).0 h))))

-- so a class has one list
variables_one : (w : Wanted) (x : Name) (vs us : List Name) → AreExamples w → AreVariablesOf w x vs → AreVariablesOf w x us → vs ≡ us
variables_one w x vs us examples a b =
    names_one w.vars vs us (λ v. IsSeen w.rows v × AreAlike w.rows x v) (λ y z. not_both_before w.vars y z examples.once) a.sorted b.sorted a.members b.members

-- it begins with the first of the class
label_first : (w : Wanted) (x : Name) (vs : List Name) → IsFirstOfClass w x → AreVariablesOf w x vs → (us : List Name) × (vs ≡ x ∷ us)
label_first w x [] first are = absurd ((are.members x).1 (first.seen, (within_self w.rows x, within_self w.rows x)))
label_first w x (v ∷ vs) first are =
    ⊎_elim
    (λ e. (vs, ap (λ v. v ∷ vs) e))
    (λ h. absurd (first.first v (all_in (IsBefore w.vars v) vs x are.sorted.0 h) ((are.members v).0 (inl refl)).1))
    ((are.members x).1 (first.seen, (within_self w.rows x, within_self w.rows x)))

-- two nodes with a variable in both classes are one
node_one : (w : Wanted) (d : Domain) (x y v : Name) → AreExamples w → IsDomainTree w d → IsLabel d x → IsLabel d y → AreAlike w.rows x v → AreAlike w.rows y v → x ≡ y
node_one w d x y v examples tree h k a b = one_first w examples x y (tree.labels x h) (tree.labels y k) (alike_trans w.rows x v y a (b.1, b.0))

-- no row has the number 0
not_zero : (rows : List Mapping) (m : Mapping) → IsRowAt rows 0 m → ⊥
not_zero [] m at = at
not_zero (r ∷ rows) m at = at

-- the number of a row is 1 for the first row, and one more than among the later ones
number_parts : (r : Mapping) (rows : List Mapping) (x : Name) (i : ℕ) → InE (r ∷ rows) x i → ((1 ≡ i) × Binds r x) ⊎ ((j : ℕ) × InE rows x j × (suc j ≡ i))
number_parts r rows x zero (m, at, b) = absurd at
number_parts r rows x (suc zero) (m, at, b) = inl (refl, subst (λ (m : Mapping). Binds m x) (sym at) b)
number_parts r rows x (suc (suc i)) (m, at, b) = inr (suc i, (m, at, b), refl)

-- a later row has one more
number_later : (r : Mapping) (rows : List Mapping) (x : Name) (i : ℕ) → InE rows x i → InE (r ∷ rows) x (suc i)
number_later r rows x zero (m, at, b) = absurd (not_zero rows m at)
number_later r rows x (suc i) (m, at, b) = (m, at, b)

-- numbers that are all one more rise as they did
rising_more : (is : List ℕ) → IsSorted (λ i j. i < j) is → IsSorted (λ i j. i < j) (map suc is)
rising_more [] sorted = tt
rising_more (i ∷ is) sorted = (
  all_from (λ j. suc i < j) (map suc is) (λ j h.
      let w = in_map suc is j h in
      let less : i < w.0 = all_in (λ j. i < j) is w.0 sorted.0 w.1 in
      subst (λ j. suc i < j) w.2 (omega (arith, less))),
  rising_more is sorted.1,
)

-- the numbers of the later rows
later_numbers : (r : Mapping) (rows : List Mapping) (x : Name) (is : List ℕ) → AreNumbersOf rows x is → (i : ℕ) → In (map suc is) i ↔ ((j : ℕ) × InE rows x j × (suc j ≡ i))
later_numbers r rows x is are i = (
  (λ h. let w = in_map suc is i h in (w.0, (are.members w.0).0 w.1, w.2)),
  (λ h. subst (In (map suc is)) h.2 (map_in suc is h.0 ((are.members h.0).1 h.1))),
)

-- the first number is less
one_less : (rows : List Mapping) (x : Name) (is : List ℕ) → AreNumbersOf rows x is → AllByRecursion (λ j. 1 < j) (map suc is)
one_less rows x is are =
    all_from (λ j. 1 < j) (map suc is) (λ j h. let w = in_map suc is j h in subst (λ j. 1 < j) w.2 (positive w.0 ((are.members w.0).0 w.1)))
  where
    positive : (i : ℕ) → InE rows x i → 1 < suc i
    positive zero e = absurd (not_zero rows e.0 e.1)
    positive (suc i) e = omega arith

-- the numbers of the rows that bind a variable
numbers_there : (rows : List Mapping) (x : Name) → (is : List ℕ) × AreNumbersOf rows x is
numbers_there [] x = ([], record { members = λ i. ((λ h. absurd h), (λ h. absurd h.1)); rising = tt })
numbers_there (r ∷ rows) x =
    let (is, are) = numbers_there rows x in
    let rest = later_numbers r rows x is are in
    let more = rising_more is are.rising in
    ⊎_elim
    (λ b. (
      1 ∷ map suc is,
      record {
        members = λ i. (
          (λ h. ⊎_elim (λ e. subst (InE (r ∷ rows) x) e (r, refl, b)) (λ k. let w = (rest i).0 k in subst (InE (r ∷ rows) x) w.2 (number_later r rows x w.0 w.1)) h),
          (λ h. ⊎_elim (λ k. inl k.0) (λ k. inr ((rest i).1 k)) (number_parts r rows x i h)),
        );
        rising = (one_less rows x is are, more);
      },
    ))
    (λ n. (
      map suc is,
      record {
        members = λ i. (
          (λ h. let w = (rest i).0 h in subst (InE (r ∷ rows) x) w.2 (number_later r rows x w.0 w.1)),
          (λ h. ⊎_elim (λ k. absurd (n k.1)) (λ k. (rest i).1 k) (number_parts r rows x i h)),
        );
        rising = more;
      },
    ))
    (binds_or_not r x)

-- are one list
numbers_one : (rows : List Mapping) (x : Name) (is js : List ℕ) → AreNumbersOf rows x is → AreNumbersOf rows x js → is ≡ js
numbers_one rows x is js a b =
    sorted_same (λ i j. i < j) (λ i j l k. omega (arith, l, k)) is js a.rising b.rising (λ i. ((λ h. (b.members i).1 ((a.members i).0 h)), (λ h. (a.members i).1 ((b.members i).0 h))))

-- a node above another one is that of a greater domain
mutual
  greater : (w : Wanted) (d : Domain) (x y : Name) → IsOrdered w d → StandsAbove d y x → IsBelow w.rows x y
  greater w (domain z ds) x y order (inl (e, h)) = subst (IsBelow w.rows x) e (order.0 x h)
  greater w (domain z ds) x y order (inr h) = greater_in w ds x y order.1 h

  greater_in : (w : Wanted) (ds : Subdomains) (x y : Name) → AreOrdered w ds → StandsAboveIn ds y x → IsBelow w.rows x y
  greater_in w none x y order h = absurd h
  greater_in w (also d ds) x y order (inl h) = greater w d x y order.1 h
  greater_in w (also d ds) x y order (inr h) = greater_in w ds x y order.2 h

-- and a node of a greater domain is above
mutual
  above : (w : Wanted) (d : Domain) (x y : Name) → IsOrdered w d → IsLabel d x → IsLabel d y → IsBelow w.rows x y → StandsAbove d y x
  above w (domain z ds) x y order (inl e) (inl f) below = absurd (below.1 (subst (IsWithin w.rows y) (sym f ∙ e) (within_self w.rows y)))
  above w (domain z ds) x y order (inl e) (inr k) below = absurd (below.1 (subst (IsWithin w.rows y) e (order.0 y k).0))
  above w (domain z ds) x y order (inr h) (inl f) below = inl (f, h)
  above w (domain z ds) x y order (inr h) (inr k) below = inr (above_in w ds x y order.1 h k below)

  above_in : (w : Wanted) (ds : Subdomains) (x y : Name) → AreOrdered w ds → IsLabelIn ds x → IsLabelIn ds y → IsBelow w.rows x y → StandsAboveIn ds y x
  above_in w none x y order h k below = h
  above_in w (also d ds) x y order (inl h) (inl k) below = inl (above w d x y order.1 h k below)
  above_in w (also d ds) x y order (inl h) (inr k) below = absurd ((beside_apart w d ds x y order.0 h k).0 below.0)
  above_in w (also d ds) x y order (inr h) (inl k) below = absurd ((beside_apart w d ds y x order.0 k h).1 below.0)
  above_in w (also d ds) x y order (inr h) (inr k) below = inr (above_in w ds x y order.2 h k below)

-- the variables that are first of their class
pub labels_there : (w : Wanted) → AreExamples w → (labels : List Name) × AreLabels w labels
labels_there w examples =
    let c = chosen (IsFirstOfClass w) (first_or_not w examples) w.vars in
    (c.0, record { members = λ x. ((λ h. ((c.2 x).0 h).1), (λ first. (c.2 x).1 (examples.within x first.seen, first))); sorted = c.1 })

-- are one list
pub labels_one : (w : Wanted) (labels others : List Name) → AreExamples w → AreLabels w labels → AreLabels w others → labels ≡ others
labels_one w labels others examples a b = names_one w.vars labels others (IsFirstOfClass w) (λ x y. not_both_before w.vars x y examples.once) a.sorted b.sorted a.members b.members

-- what each node has
pub nodes_told : DomainNodesAreTold
nodes_told = record {
  variables = variables_there;
  one_of_variables = variables_one;
  first = λ w d x vs tree h are. label_first w x vs (tree.labels x h) are;
  one_node = node_one;
  numbers = numbers_there;
  one_of_numbers = numbers_one;
  above = λ w d x y tree h k. (greater w d x y tree.ordered, above w d x y tree.ordered h k);
}

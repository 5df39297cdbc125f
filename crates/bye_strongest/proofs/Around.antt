-- The shapes of the triples that have a number, and of those that have one of the row's.
use Rattle.std.proofs.Common.{◌≡◌, refl, ℕ, ◌+◌, ◌<◌, Bool, true, IsTrue, List, [], ◌∷◌, ◌++◌, Option, Some, None, inl, inr, ◌⊎◌, ⊎_elim, ◌↔◌, sym, ◌∙◌, ap, subst, length, get_or, take}
use Rattle.std.specs.List.{Contains, flat_map}
use Rattle.std.proofs.lemmas.List.{take_more}
use Rattle.bye_terms.specs.Members.{In}
use Rattle.bye_terms.proofs.Members.{contains_in, flat_in, in_cases, in_flat, in_left, in_right}
use Rattle.bye_terms.proofs.Readings.{some_same}
use Rattle.bye_graph.specs.Graphs.{AreMatches, GraphValue}
use Rattle.bye_graph.specs.Keys.{Key}
use Rattle.bye_strongest.specs.Candidates.{IsAround, of_key}
use Rattle.bye_strongest.specs.Numbers.{Cells, Shape}
use Rattle.bye_strongest.proofs.Numbering.{in_push}

abbrev Put : GraphValue → Cells → List Key → List Shape
Put g e found = flat_map (of_key g.terms e) found

-- the triples with the number as subject, as predicate and as object
pub around : (g : GraphValue) (e : Cells) (n : ℕ) (as_s as_p as_o : List Key) (old one two new : List Shape)
    → AreMatches g.keys (Some n) None None as_s → AreMatches g.keys None (Some n) None as_p → AreMatches g.keys None None (Some n) as_o
    → one ≡ old ++ flat_map (of_key g.terms e) as_s → two ≡ one ++ flat_map (of_key g.terms e) as_p → new ≡ two ++ flat_map (of_key g.terms e) as_o
    → (shape : Shape) → In new shape ↔ (In old shape ⊎ IsAround g e n shape)
around g e n as_s as_p as_o old one two new s p o first second third shape = (to, from)
  where
    of_subject : In (Put g e as_s) shape → IsAround g e n shape
    of_subject h = let (key, inside, there) = in_flat (of_key g.terms e) as_s shape h in let k = (s.exactly key).0 inside in (key, k.0, inl k.1.0, there)

    of_predicate : In (Put g e as_p) shape → IsAround g e n shape
    of_predicate h = let (key, inside, there) = in_flat (of_key g.terms e) as_p shape h in let k = (p.exactly key).0 inside in (key, k.0, inr (inl k.1.1), there)

    of_object : In (Put g e as_o) shape → IsAround g e n shape
    of_object h = let (key, inside, there) = in_flat (of_key g.terms e) as_o shape h in let k = (o.exactly key).0 inside in (key, k.0, inr (inr k.1.2), there)

    to : In new shape → In old shape ⊎ IsAround g e n shape
    to h =
        ⊎_elim
        (λ h. ⊎_elim
        (λ h. ⊎_elim (λ h. inl h) (λ h. inr (of_subject h)) (in_cases old (Put g e as_s) shape (subst (λ xs. In xs shape) first h)))
        (λ h. inr (of_predicate h))
        (in_cases one (Put g e as_p) shape (subst (λ xs. In xs shape) second h)))
        (λ h. inr (of_object h))
        (in_cases two (Put g e as_o) shape (subst (λ xs. In xs shape) third h))

    in_one : In one shape → In new shape
    in_one h = subst (λ xs. In xs shape) (sym third) (in_left two (Put g e as_o) shape (subst (λ xs. In xs shape) (sym second) (in_left one (Put g e as_p) shape h)))

    from : In old shape ⊎ IsAround g e n shape → In new shape
    from (inl h) = in_one (subst (λ xs. In xs shape) (sym first) (in_left old (Put g e as_s) shape h))
    from (inr (key, inside, inl k, there)) =
        in_one (subst (λ xs. In xs shape) (sym first) (in_right old (Put g e as_s) shape (flat_in (of_key g.terms e) as_s key shape ((s.exactly key).1 (inside, (k, tt, tt))) there)))
    from (inr (key, inside, inr (inl k), there)) =
        subst (λ xs. In xs shape) (sym third) (in_left two (Put g e as_o) shape
        (subst (λ xs. In xs shape) (sym second) (in_right one (Put g e as_p) shape (flat_in (of_key g.terms e) as_p key shape ((p.exactly key).1 (inside, (tt, k, tt))) there))))
    from (inr (key, inside, inr (inr k), there)) =
        subst (λ xs. In xs shape) (sym third) (in_right two (Put g e as_o) shape (flat_in (of_key g.terms e) as_o key shape ((o.exactly key).1 (inside, (tt, tt, k))) there))

-- those of one more number
pub around_more : {N : Type 0} (A : N → Shape → Type 0) (ns : List N) (n : N) (old new : List Shape) → ((shape : Shape) → In old shape ↔ ((m : N) × In ns m × A m shape))
    → ((shape : Shape) → In new shape ↔ (In old shape ⊎ A n shape)) → (shape : Shape) → In new shape ↔ ((m : N) × In (ns ++ n ∷ []) m × A m shape)
around_more A ns n old new all more shape = (
  (λ h. ⊎_elim
      (λ k. let w = (all shape).0 k in (w.0, (in_push ns n w.0).1 (inl w.1), w.2))
      (λ a. (n, (in_push ns n n).1 (inr refl), a))
      ((more shape).0 h)),
  (λ (m, inside, a). (more shape).1 (⊎_elim (λ k. inl ((all shape).1 (m, k, a))) (λ e. inr (subst (λ m. A m shape) (sym e) a)) ((in_push ns n m).0 inside))),
)

-- the numbers of the row, one more at each turn
pub distinct_more : (cells : Cells) (i : ℕ) (c : Option ℕ) (old new : List ℕ) → i < length cells → c ≡ get_or cells i None
    → ((n : ℕ) → In old n ↔ In (take i cells) (Some n)) → ((n : ℕ) → In new n ↔ (In old n ⊎ (c ≡ Some n))) → (n : ℕ) → In new n ↔ In (take (i + 1) cells) (Some n)
distinct_more cells i c old new l is all more n =
    subst (λ xs. In new n ↔ In xs (Some n)) (sym (take_more cells i None l ∙ ap (λ y. take i cells ++ y ∷ []) (sym is))) (
      (λ h. (in_push (take i cells) c (Some n)).1 (⊎_elim (λ k. inl ((all n).0 k)) (λ e. inr e) ((more n).0 h))),
      (λ h. (more n).1 (⊎_elim (λ k. inl ((all n).1 k)) (λ e. inr e) ((in_push (take i cells) c (Some n)).0 h))),
    )

-- a number that was there, or is put there
pub number_there : (numbers searched : List ℕ) (cell : Option ℕ) (m : ℕ) (b : Bool) → cell ≡ Some m → searched ≡ numbers → IsTrue b ↔ Contains searched m → b ≡ true → (n : ℕ) → In numbers n ↔ (In numbers n ⊎ (cell ≡ Some n))
number_there numbers searched cell m b is same found there n = (
  (λ h. inl h),
  (λ h. ⊎_elim (λ k. k) (λ e. subst (In numbers) (some_same (sym is ∙ e)) (subst (λ xs. In xs m) same (contains_in searched m (found.0 there)))) h),
)

pub number_put : (numbers new : List ℕ) (cell : Option ℕ) (m : ℕ) → cell ≡ Some m → new ≡ numbers ++ m ∷ [] → (n : ℕ) → In new n ↔ (In numbers n ⊎ (cell ≡ Some n))
number_put numbers new cell m is put n = (
  (λ h. ⊎_elim (λ k. inl k) (λ e. inr (is ∙ ap Some e)) ((in_push numbers m n).0 (subst (λ xs. In xs n) put h))),
  (λ h. subst (λ xs. In xs n) (sym put) ((in_push numbers m n).1 (⊎_elim (λ k. inl k) (λ e. inr (some_same (sym is ∙ e))) h))),
)

pub no_number : (numbers : List ℕ) (cell : Option ℕ) → cell ≡ None → (n : ℕ) → In numbers n ↔ (In numbers n ⊎ (cell ≡ Some n))
no_number numbers cell none n = ((λ h. inl h), (λ h. ⊎_elim (λ k. k) (λ e. let f : ◌≡◌ {A = Option ℕ} None (Some n) = sym none ∙ e in cc) h))

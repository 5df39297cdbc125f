-- A shape holds in all rows where it holds in their distinct restrictions to its variables.
use Rattle.std.proofs.Common.{◌≡◌, refl, ℕ, zero, suc, ◌+◌, ◌<◌, Bool, true, false, IsTrue, List, [], ◌∷◌, ◌++◌, map, inl, inr, ⊎_elim, ◌↔◌, sym, ◌∙◌, subst, length, get_or, take, arith}
use Rattle.std.specs.List.{AllByRecursion}
use Rattle.std.specs.List.Sorted.{IsPermutation}
use Rattle.std.proofs.lemmas.List.{take_more}
use Rattle.std.proofs.lemmas.List.Sorted.{Contains-permutation, IsPermutation-sym}
use Rattle.bye_terms.specs.Members.{In}
use Rattle.bye_terms.proofs.Lists.{in_map, map_in}
use Rattle.bye_terms.proofs.Members.{all_from, all_in, contains_in, in_contains}
use Rattle.bye_graph.specs.Keys.{Key}
use Rattle.bye_strongest.specs.declared.shape.Place.{Place}
use Rattle.bye_strongest.specs.declared.shape.Place.TheVariants.{Hole, Fixed}
use Rattle.bye_strongest.specs.Numbers.{Cells, MeetsEach, MeetsShape, Shape, under}
use Rattle.bye_strongest.specs.Restrictions.{Columns, Group, IsGroupOf, MeetsRestriction, Restriction, columns_of, filled, hole_of, number_at, restrict}
use Rattle.bye_strongest.proofs.Numbering.{in_push}

-- the same elements in another order
pub moved : {X : Type 0} (xs ys : List X) (x : X) → IsPermutation xs ys → In xs x → In ys x
moved xs ys x h k = contains_in ys x (Contains-permutation xs ys x h (in_contains xs x k))

pub moved_both : {X : Type 0} (xs ys : List X) → IsPermutation xs ys → (x : X) → In ys x ↔ In xs x
moved_both xs ys h x = ((λ k. moved ys xs x (IsPermutation-sym xs ys h) k), (λ k. moved xs ys x h k))

-- an element at a place
pub at_in : {X : Type 0} (xs : List X) (i : ℕ) (d : X) → i < length xs → In xs (get_or xs i d)
at_in [] i d l = absurd (omega arith)
at_in (y ∷ xs) zero d l = inl refl
at_in (y ∷ xs) (suc i) d l = inr (at_in xs i d (omega arith))

-- one that fails
pub not_all : {X : Type 0} (P : X → Type 0) (xs : List X) (i : ℕ) (d : X) (b : Bool) → i < length xs → IsTrue b ↔ P (get_or xs i d) → b ≡ false → IsTrue false ↔ AllByRecursion P xs
not_all P xs i d b l met fails = ((λ e. cc), (λ all. sym fails ∙ met.1 (all_in P xs (get_or xs i d) all (at_in xs i d l))))

-- what stands in a place
same_place : (e : Cells) (place : Place) → filled (number_at e (hole_of place)) place ≡ under e place
same_place e (Hole i) = refl
same_place e (Fixed n) = refl

restricted : (keys : List Key) (shape : Shape) (e : Cells) → MeetsRestriction keys shape (restrict (columns_of shape) e) → MeetsShape keys shape e
restricted keys shape e (key, inside, s, p, o) = (key, inside, record { s = sym (same_place e shape.s) ∙ s; p = sym (same_place e shape.p) ∙ p; o = sym (same_place e shape.o) ∙ o })

unrestricted : (keys : List Key) (shape : Shape) (e : Cells) → MeetsShape keys shape e → MeetsRestriction keys shape (restrict (columns_of shape) e)
unrestricted keys shape e (key, inside, is) = (key, inside, same_place e shape.s ∙ is.s, same_place e shape.p ∙ is.p, same_place e shape.o ∙ is.o)

each_met : (keys : List Key) (rows : List Cells) (shape : Shape) (rs : List Restriction) → ((r : Restriction) → In rs r ↔ In (map (restrict (columns_of shape)) rows) r)
    → AllByRecursion (MeetsRestriction keys shape) rs ↔ MeetsEach keys rows shape
each_met keys rows shape rs same = (
  (λ h. all_from (MeetsShape keys shape) rows (λ e k.
      restricted keys shape e (all_in (MeetsRestriction keys shape) rs (restrict (columns_of shape) e) h ((same (restrict (columns_of shape) e)).1 (map_in (restrict (columns_of shape)) rows e k))))),
  (λ h. all_from (MeetsRestriction keys shape) rs (λ r k.
      let w = in_map (restrict (columns_of shape)) rows r ((same r).0 k) in
      subst (MeetsRestriction keys shape) w.2 (unrestricted keys shape w.0 (all_in (MeetsShape keys shape) rows w.0 h w.1)))),
)

-- the test of a group
pub group_met : (keys : List Key) (rows : List Cells) (shape : Shape) (columns : Columns) (group : Group) (rs : List Restriction) (b : Bool) → columns ≡ columns_of shape → IsGroupOf columns rows group
    → rs ≡ group.restrictions.items → IsTrue b ↔ AllByRecursion (MeetsRestriction keys shape) rs → IsTrue b ↔ MeetsEach keys rows shape
group_met keys rows shape columns group rs b are of same met =
    let alike : group.columns ≡ columns_of shape = of.same ∙ are in
    let all : (r : Restriction) → In rs r ↔ In (map (restrict (columns_of shape)) rows) r = λ r. (
      (λ h. subst (λ columns. In (map (restrict columns) rows) r) alike ((of.all r).0 (subst (λ xs. In xs r) same h))),
      (λ h. subst (λ xs. In xs r) (sym same) ((of.all r).1 (subst (λ columns. In (map (restrict columns) rows) r) (sym alike) h))),
    ) in
    let e = each_met keys rows shape rs all in
    ((λ t. e.0 (met.0 t)), (λ m. met.1 (e.1 m)))

-- what is kept of a list, one more at each turn
abbrev IsKept : {X : Type 0} → (X → Type 0) → List X → List X → Type 0
IsKept {X} P xs out = (x : X) → In out x ↔ (In xs x × P x)

kept_push : {X : Type 0} (P : X → Type 0) (xs : List X) (x : X) (old : List X) → IsKept P xs old → P x → IsKept P (xs ++ x ∷ []) (old ++ x ∷ [])
kept_push P xs x old kept holds y = (
  (λ h. ⊎_elim (λ k. let w = (kept y).0 k in ((in_push xs x y).1 (inl w.0), w.1)) (λ e. ((in_push xs x y).1 (inr e), subst P e holds)) ((in_push old x y).0 h)),
  (λ h. (in_push old x y).1 (⊎_elim (λ k. inl ((kept y).1 (k, h.1))) (λ e. inr e) ((in_push xs x y).0 h.0))),
)

kept_same : {X : Type 0} (P : X → Type 0) (xs : List X) (x : X) (old : List X) → IsKept P xs old → (P x → ⊥) → IsKept P (xs ++ x ∷ []) old
kept_same P xs x old kept fails y = (
  (λ h. let w = (kept y).0 h in ((in_push xs x y).1 (inl w.0), w.1)),
  (λ h. ⊎_elim (λ k. (kept y).1 (k, h.1)) (λ e. absurd (fails (subst P (sym e) h.1))) ((in_push xs x y).0 h.0)),
)

pub kept_more : {X : Type 0} (P : X → Type 0) (xs : List X) (i : ℕ) (d : X) (old new : List X) (b : Bool) → i < length xs → IsKept P (take i xs) old → IsTrue b ↔ P (get_or xs i d) → b ≡ true
    → new ≡ old ++ get_or xs i d ∷ [] → IsKept P (take (i + 1) xs) new
kept_more P xs i d old new b l kept met holds put =
    subst (λ ys. IsKept P ys new) (sym (take_more xs i d l)) (subst (IsKept P (take i xs ++ get_or xs i d ∷ [])) (sym put) (kept_push P (take i xs) (get_or xs i d) old kept (met.0 holds)))

pub kept_less : {X : Type 0} (P : X → Type 0) (xs : List X) (i : ℕ) (d : X) (old new : List X) (b : Bool) → i < length xs → IsKept P (take i xs) old → IsTrue b ↔ P (get_or xs i d) → b ≡ false
    → new ≡ old → IsKept P (take (i + 1) xs) new
kept_less P xs i d old new b l kept met fails put =
    subst (λ ys. IsKept P ys new) (sym (take_more xs i d l))
    (subst (IsKept P (take i xs ++ get_or xs i d ∷ [])) (sym put) (kept_same P (take i xs) (get_or xs i d) old kept (λ h. let t : true ≡ false = sym (met.1 h) ∙ fails in cc)))

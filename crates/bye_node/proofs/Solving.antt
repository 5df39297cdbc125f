-- The search for the first mapping that fits, one triple after another.
use Rattle.std.proofs.Common.{◌≡◌, refl, ℕ, suc, ◌<◌, Bool, true, false, ◌==◌, List, [], ◌∷◌, ◌++◌, Some, None, ◌⊎◌, inl, inr, ⊎_elim, ◌↔◌, sym, ◌∙◌, ap, subst, length, get_or, take, drop, arith}
use Rattle.std.proofs.lemmas.Bool.{eqb-true}
use Rattle.std.specs.List.Sorted.{IsPermutation}
use Rattle.std.proofs.lemmas.List.Sorted.{Contains-permutation, IsPermutation-sym}
use Rattle.bye_terms.specs.Members.{In}
use Rattle.bye_terms.proofs.Members.{contains_in, in_contains}
use Rattle.bye_terms.proofs.Tests.{not_both}
use Rattle.bye_table.specs.Mappings.{Mapping, Name}
use Rattle.bye_pattern.specs.declared.cond.Cond.{Cond}
use Rattle.bye_graph.specs.Keys.{Agrees, Key}
use Rattle.bye_graph.specs.Graphs.{AreMatches, GraphValue}
use Rattle.bye_node.specs.Conds.{Fits, all_hold}
use Rattle.bye_node.specs.Envs.{AreReordered, Bound, Cells, Fills, Grows, HasHole, IsFirst, MeetsShape, Shape, Stands, bind_key, cell, unbound}
use Rattle.bye_node.specs.Pins.{given}
use Rattle.bye_node.specs.Steps.{beside}
use Rattle.bye_node.proofs.Cells.{agrees_free, bind_taken, can_take, fills_none, grows_more, holes_some, in_some, not_none, same_some, some_in, stands_given, under_grown}

-- shapes are this one and the rest
abbrev pub Picks : List Shape → Shape → List Shape → Type 0
Picks shapes shape rest = (q : Shape) → In shapes q ↔ ((q ≡ shape) ⊎ In rest q)

-- what fits once a triple is in the places of one shape, and what fits before
fills_in : (keys : List Key) (e m z : Cells) (shapes rest : List Shape) (shape : Shape) (key : Key) → Picks shapes shape rest → bind_key e shape key ≡ Some m → Grows m z → Fills keys e shapes z → Fills keys m rest z
fills_in keys e m z shapes rest shape key picks is up f =
    let t = bind_taken e m shape key is in
    record {
      grows = up;
      within = λ i h. ⊎_elim
          (λ g. let w = some_in (cell e i) g in inl (in_some (cell m i) w.0 (t.grows.keeps i w.0 w.1)))
          (λ (q, inside, hole). ⊎_elim
          (λ same. inl (holes_some m shape key i t.stands (subst (λ q. HasHole q i) same hole)))
          (λ rest. inr (q, rest, hole))
          ((picks q).0 inside))
          (f.within i h);
      meets = λ q inside. f.meets q ((picks q).1 (inr inside));
    }

fills_out : (keys : List Key) (e m z : Cells) (shapes rest : List Shape) (shape : Shape) (key : Key) → Picks shapes shape rest → In keys key → bind_key e shape key ≡ Some m → Fills keys m rest z → Fills keys e shapes z
fills_out keys e m z shapes rest shape key picks there is f =
    let t = bind_taken e m shape key is in
    record {
      grows = grows_more e m z t.grows f.grows;
      within = λ i h. ⊎_elim
          (λ g. ⊎_elim inl (λ hole. inr (shape, (picks shape).1 (inl refl), hole)) (t.within i g))
          (λ (q, r, hole). inr (q, (picks q).1 (inr r), hole))
          (f.within i h);
      meets = λ q i. ⊎_elim
          (λ same. let here : MeetsShape keys z shape = (key, there, (under_grown m z shape.s key.0 f.grows t.stands.0, under_grown m z shape.p key.1 f.grows t.stands.1, under_grown m z shape.o key.2 f.grows t.stands.2)) in
          subst (λ q. MeetsShape keys z q) (sym same) here)
          (λ r. f.meets q r)
          ((picks q).0 i);
    }

-- the search goes on: the cells are as they were, the rest is what was not taken, and whatever fits has one of the triples that are left
pub record IsLeft (row : Mapping) (vs : List Name) (g : GraphValue) (cs : List Cond) (shapes : List Shape) (shape : Shape) (e now : Cells) (rest : List Shape) (left : List Key) : Type 0 where
  pub same : now ≡ e
  pub picks : Picks shapes shape rest
  pub count : suc (length rest) ≡ length shapes
  pub there : (key : Key) → In left key → In g.keys key
  pub has : (z : Cells) → Fits row vs g cs shapes e z → (key : Key) × In left key × Stands z shape key

-- nothing is left to fill
pub empty_first : (row : Mapping) (vs : List Name) (g : GraphValue) (cs : List Cond) (shapes : List Shape) (e : Cells) (b : Bool) → shapes ≡ [] → b ≡ all_hold (beside row vs g.terms e) cs → IsFirst (Fits row vs g cs shapes e) e b e
empty_first row vs g cs shapes e true none is =
    record { fills = subst (λ shapes. Fills g.keys e shapes e) (sym none) ((fills_none g.keys e e).1 refl); hold = sym is }
empty_first row vs g cs shapes e false none is = (
  refl,
  λ z f.
      let same : z ≡ e = (fills_none g.keys e z).0 (subst (λ shapes. Fills g.keys e shapes z) none f.fills) in
      not_both (all_hold (beside row vs g.terms e) cs) (subst (λ z. all_hold (beside row vs g.terms z) cs ≡ true) same f.hold) (sym is),
)

-- the search begins
pub left_start : (row : Mapping) (vs : List Name) (g : GraphValue) (cs : List Cond) (shapes rest : List Shape) (shape : Shape) (e now : Cells) (found : List Key) → now ≡ e → Picks shapes shape rest
    → suc (length rest) ≡ length shapes → AreMatches g.keys (given e [] shape.s) (given e [] shape.p) (given e [] shape.o) found → IsLeft row vs g cs shapes shape e now rest found
left_start row vs g cs shapes rest shape e now found same picks count matches = record {
  same = same;
  picks = picks;
  count = count;
  there = λ key i. ((matches.exactly key).0 i).0;
  has = λ z f.
      let met = f.fills.meets shape ((picks shape).1 (inl refl)) in
      let key : Key = met.0 in
      let stands : Stands z shape key = met.2 in
      let agrees = agrees_free z in
      let at : Agrees (given e [] shape.s) (given e [] shape.p) (given e [] shape.o) key =
      (stands_given [] e z shape.s key.0 f.fills.grows agrees stands.0, stands_given [] e z shape.p key.1 f.fills.grows agrees stands.1, stands_given [] e z shape.o key.2 f.fills.grows agrees stands.2) in
      (key, (matches.exactly key).1 (met.1, at), stands);
}

-- a triple that nothing fits with
left_less : (row : Mapping) (vs : List Name) (g : GraphValue) (cs : List Cond) (shapes rest after : List Shape) (shape : Shape) (e now later : Cells) (found left : List Key) (key : Key) → found ≡ key ∷ left
    → later ≡ e → Picks shapes shape after → suc (length after) ≡ length shapes → ((z : Cells) → Fits row vs g cs shapes e z → Stands z shape key → ⊥)
    → IsLeft row vs g cs shapes shape e now rest found → IsLeft row vs g cs shapes shape e later after left
left_less row vs g cs shapes rest after shape e now later found left key split same picks count none is = record {
  same = same;
  picks = picks;
  count = count;
  there = λ k i. is.there k (subst (λ found. In found k) (sym split) (inr i));
  has = λ z f.
      let w = is.has z f in
      ⊎_elim
      (λ same. absurd (none z f (subst (Stands z shape) (sym same) w.2)))
      (λ i. (w.0, i, w.2))
      (subst (λ found. In found w.0) split w.1);
}

pub left_clash : (row : Mapping) (vs : List Name) (g : GraphValue) (cs : List Cond) (shapes rest : List Shape) (shape : Shape) (e now later : Cells) (found left : List Key) (key : Key) → found ≡ key ∷ left
    → later ≡ now → bind_key now shape key ≡ None → IsLeft row vs g cs shapes shape e now rest found → IsLeft row vs g cs shapes shape e later rest left
left_clash row vs g cs shapes rest shape e now later found left key split same none is =
    left_less row vs g cs shapes rest rest shape e now later found left key split (same ∙ is.same) is.picks is.count
    (λ z f stands. let w = can_take e z shape key f.fills.grows stands in not_none w.0 (sym (subst (λ e. bind_key e shape key ≡ None) is.same none) ∙ w.1))
    is

picks_reordered : (shapes rest after : List Shape) (shape : Shape) → AreReordered rest after → Picks shapes shape rest → Picks shapes shape after
picks_reordered shapes rest after shape order picks q = (
  λ i. ⊎_elim inl (λ r. inr ((order.same q).1 r)) ((picks q).0 i),
  λ i. (picks q).1 (⊎_elim inl (λ r. inr ((order.same q).0 r)) i),
)

pub left_failed : (row : Mapping) (vs : List Name) (g : GraphValue) (cs : List Cond) (shapes rest after : List Shape) (shape : Shape) (e now m z later : Cells) (found left : List Key) (key : Key) (bound : Bound) (b : Bool)
    → found ≡ key ∷ left → (bind_key now shape key ≡ Some m) × (unbound m bound ≡ now) → b ≡ false → IsFirst (Fits row vs g cs rest m) m b z → AreReordered rest after → later ≡ unbound z bound
    → IsLeft row vs g cs shapes shape e now rest found → IsLeft row vs g cs shapes shape e later after left
left_failed row vs g cs shapes rest after shape e now m z later found left key bound b split (put, back) failed first order opened is =
    let none = subst (λ b. IsFirst (Fits row vs g cs rest m) m b z) failed first in
    let here : bind_key e shape key ≡ Some m = subst (λ e. bind_key e shape key ≡ Some m) is.same put in
    left_less row vs g cs shapes rest after shape e now later found left key split (opened ∙ ap (λ z. unbound z bound) none.0 ∙ back ∙ is.same) (picks_reordered shapes rest after shape order is.picks) (ap suc order.count ∙ is.count)
    (λ y f stands.
    let w = can_take e y shape key f.fills.grows stands in
    let up : Grows m y = subst (λ m. Grows m y) (same_some w.0 m (sym w.1 ∙ here)) w.2 in
    none.1 y (record { fills = fills_in g.keys e m y shapes rest shape key is.picks here up f.fills; hold = f.hold }))
    is

-- a triple that something fits with
pub left_fits : (row : Mapping) (vs : List Name) (g : GraphValue) (cs : List Cond) (shapes rest : List Shape) (shape : Shape) (e now m z : Cells) (found left : List Key) (key : Key) (bound : Bound) (b : Bool)
    → found ≡ key ∷ left → (bind_key now shape key ≡ Some m) × (unbound m bound ≡ now) → b ≡ true → IsFirst (Fits row vs g cs rest m) m b z
    → IsLeft row vs g cs shapes shape e now rest found → Fits row vs g cs shapes e z
left_fits row vs g cs shapes rest shape e now m z found left key bound b split (put, back) fitted first is =
    let fits = subst (λ b. IsFirst (Fits row vs g cs rest m) m b z) fitted first in
    let here : bind_key e shape key ≡ Some m = subst (λ e. bind_key e shape key ≡ Some m) is.same put in
    record { fills = fills_out g.keys e m z shapes rest shape key is.picks (is.there key (subst (λ found. In found key) (sym split) (inl refl))) here fits.fills; hold = fits.hold }

-- no triple is left
pub left_none : (row : Mapping) (vs : List Name) (g : GraphValue) (cs : List Cond) (shapes rest : List Shape) (shape : Shape) (e now : Cells) (found : List Key) → found ≡ [] → IsLeft row vs g cs shapes shape e now rest found
    → IsFirst (Fits row vs g cs shapes e) e false now
left_none row vs g cs shapes rest shape e now found none is = (is.same, λ y f. let w = is.has y f in subst (λ found. In found w.0) none w.1)

-- one shape was put first
permuted : {X : Type 0} (xs ys : List X) (x : X) → IsPermutation xs ys → In xs x ↔ In ys x
permuted xs ys x p = (
  λ i. contains_in ys x (Contains-permutation xs ys x p (in_contains xs x i)),
  λ i. contains_in xs x (Contains-permutation ys xs x (IsPermutation-sym xs ys p) (in_contains ys x i)),
)

pub is_some_list : {X : Type 0} (xs : List X) (b : Bool) → b ≡ (length xs == 0) → b ≡ false → 0 < length xs
is_some_list [] b is other = absurd (not_both b is other)
is_some_list (x ∷ xs) b is other = omega arith

pub is_empty_list : {X : Type 0} (xs : List X) (b : Bool) → b ≡ (length xs == 0) → b ≡ true → xs ≡ []
is_empty_list [] b is empty = refl
is_empty_list (x ∷ xs) b is empty = absurd (nonzero (length xs) (eqb-true (suc (length xs)) 0 (sym is ∙ empty)))
  where
    nonzero : (n : ℕ) → suc n ≡ 0 → ⊥
    nonzero n e = omega arith

picked : (shapes swapped rest : List Shape) (d : Shape) → 0 < length swapped → IsPermutation shapes swapped → rest ≡ drop 1 swapped → Picks shapes (get_or swapped 0 d) rest
picked shapes [] rest d l p is q = absurd (omega arith)
picked shapes (x ∷ xs) rest d l p is q = (
  λ i. ⊎_elim (λ s. inl (sym s)) (λ k. inr (subst (λ r. In r q) (sym is) k)) ((permuted shapes (x ∷ xs) q p).0 i),
  λ i. (permuted shapes (x ∷ xs) q p).1 (⊎_elim (λ s. inl (sym s)) (λ k. inr (subst (λ r. In r q) is k)) i),
)

one_less : (shapes swapped rest : List Shape) → 0 < length swapped → length swapped ≡ length shapes → rest ≡ drop 1 swapped → suc (length rest) ≡ length shapes
one_less shapes [] rest l len is = absurd (omega arith)
one_less shapes (x ∷ xs) rest l len is = ap (λ r. suc (length r)) is ∙ len

pub left_begin : (row : Mapping) (vs : List Name) (g : GraphValue) (cs : List Cond) (shapes swapped rest : List Shape) (d : Shape) (e : Cells) (found : List Key) (b : Bool) → b ≡ (length shapes == 0) → b ≡ false
    → IsPermutation shapes swapped → length swapped ≡ length shapes → rest ≡ drop 1 swapped
    → AreMatches g.keys (given e [] (get_or swapped 0 d).s) (given e [] (get_or swapped 0 d).p) (given e [] (get_or swapped 0 d).o) found → IsLeft row vs g cs shapes (get_or swapped 0 d) e e rest found
left_begin row vs g cs shapes swapped rest d e found b empty other p len is matches =
    let l : 0 < length swapped = subst (λ n. 0 < n) (sym len) (is_some_list shapes b empty other) in
    left_start row vs g cs shapes rest (get_or swapped 0 d) e e found refl (picked shapes swapped rest d l p is) (one_less shapes swapped rest l len is) matches

pub reordered_self : (shapes : List Shape) → AreReordered shapes shapes
reordered_self shapes = record { same = λ q. (λ i. i, λ i. i); count = refl }

-- the shapes at the end: the one that was first, and the rest in its order
pub left_reordered : (row : Mapping) (vs : List Name) (g : GraphValue) (cs : List Cond) (shapes swapped front rest after : List Shape) (d : Shape) (e now : Cells) (found : List Key) (b : Bool) → b ≡ (length shapes == 0) → b ≡ false
    → length swapped ≡ length shapes → front ≡ take 1 swapped → AreReordered rest after → IsLeft row vs g cs shapes (get_or swapped 0 d) e now rest found → AreReordered shapes (front ++ after)
left_reordered row vs g cs shapes swapped front rest after d e now found b empty other len is order left =
    let l : 0 < length swapped = subst (λ n. 0 < n) (sym len) (is_some_list shapes b empty other) in
    reordered shapes after front swapped d l is (picks_reordered shapes rest after (get_or swapped 0 d) order left.picks) (ap suc order.count ∙ left.count)
  where
    reordered : (shapes after front swapped : List Shape) (d : Shape) → 0 < length swapped → front ≡ take 1 swapped → Picks shapes (get_or swapped 0 d) after → suc (length after) ≡ length shapes → AreReordered shapes (front ++ after)
    reordered shapes after front [] d l is picks count = absurd (omega arith)
    reordered shapes after front (x ∷ xs) d l is picks count =
        subst (λ front. AreReordered shapes (front ++ after)) (sym is) (record {
          same = λ q. (
            λ i. (picks q).1 (⊎_elim (λ s. inl (sym s)) inr i),
            λ i. ⊎_elim (λ s. inl (sym s)) inr ((picks q).0 i),
          );
          count = count;
        })

-- One shape of a group after another: the triples that are put into it, and the rows that each of them leads to.
use Rattle.std.proofs.Common.{◌≡◌, refl, suc, ◌<◌, ◌≤◌, Bool, true, false, List, [], ◌∷◌, ◌++◌, append_assoc, append-nil, Some, None, ◌⊎◌, inl, inr, ⊎_elim, ◌↔◌, sym, ◌∙◌, ap, subst, length, get_or, take, drop, arith}
use Rattle.std.specs.List.Sorted.{IsPermutation}
use Rattle.std.proofs.lemmas.List.Sorted.{Contains-permutation, IsPermutation-sym}
use Rattle.bye_terms.specs.Members.{In}
use Rattle.bye_terms.proofs.Members.{contains_in, in_cases, in_contains, in_left, in_right}
use Rattle.bye_terms.proofs.Tests.{not_both}
use Rattle.bye_table.specs.Mappings.{nothing}
use Rattle.bye_pattern.specs.declared.cond.Cond.{Cond}
use Rattle.bye_pattern.specs.Trees.{Forest}
use Rattle.bye_graph.specs.Keys.{Agrees, Key}
use Rattle.bye_graph.specs.Graphs.{AreMatches, GraphValue}
use Rattle.bye_node.specs.declared.env.Place.TheVariants.{Hole}
use Rattle.bye_node.specs.declared.env.Bound.{Bound}
use Rattle.bye_node.specs.declared.env.Shape.{Shape}
use Rattle.bye_node.specs.declared.pin.Pin.{Pin}
use Rattle.bye_node.specs.Conds.{Fits, all_hold}
use Rattle.bye_node.specs.Envs.{AreReordered, Cells, Fills, Grows, HasHole, MeetsShape, Stands, bind_key, cell, unbound}
use Rattle.bye_node.specs.Pins.{AgreesWith, IsShut, given}
use Rattle.bye_node.specs.Steps.{decode}
use Rattle.bye_node.proofs.Cells.{bind_taken, can_take, fills_none, grows_more, holes_some, in_some, not_none, same_some, shut_none, some_in, stands_given, under_grown}
use Rattle.bye_node.proofs.Solving.{Picks, reordered_self}
use Rattle.bye_member.specs.Lines.{LinesValue}
use Rattle.bye_member.specs.Plans.{IsPlan, Planned}
use Rattle.bye_member.specs.Searches.{Adds, HasAll, LeadsTo, Reached, Task, Tells}
use Rattle.bye_member.proofs.Searching.{adds_change, adds_more, adds_none, reached_change, tells_change}

-- the mappings that fit the shapes and the conditions of a group
abbrev pub FitsTask : Task → List Cond → List Shape → Cells → Cells → Type 0
FitsTask task cs shapes e z = Fits nothing task.vars task.graph cs shapes e z

-- the mappings that fit once one of these triples is put into the shape
abbrev pub Via : Task → List Cond → Cells → Shape → List Shape → List Key → Cells → Type 0
Via task cs e shape others seen z = (key : Key) × In seen key × (m : Cells) × (bind_key e shape key ≡ Some m) × FitsTask task cs others m z

via_fits : (task : Task) (cs : List Cond) (e : Cells) (shapes : List Shape) (shape : Shape) (others : List Shape) (seen : List Key) (z : Cells) → Picks shapes shape others
    → ((key : Key) → In seen key → In task.graph.keys key) → Via task cs e shape others seen z → FitsTask task cs shapes e z
via_fits task cs e shapes shape others seen z picks there (key, inside, m, is, f) =
    let t = bind_taken e m shape key is in
    record {
      fills = record {
        grows = grows_more e m z t.grows f.fills.grows;
        within = λ i h. ⊎_elim
            (λ k. ⊎_elim inl (λ hole. inr (shape, (picks shape).1 (inl refl), hole)) (t.within i k))
            (λ (q, r, hole). inr (q, (picks q).1 (inr r), hole))
            (f.fills.within i h);
        meets = λ q i. ⊎_elim
            (λ same. let here : MeetsShape task.graph.keys z shape =
            (key, there key inside, (under_grown m z shape.s key.0 f.fills.grows t.stands.0, under_grown m z shape.p key.1 f.fills.grows t.stands.1, under_grown m z shape.o key.2 f.fills.grows t.stands.2)) in
            subst (λ q. MeetsShape task.graph.keys z q) (sym same) here)
            (λ r. f.fills.meets q r)
            ((picks q).0 i);
      };
      hold = f.hold;
    }

-- what fits and agrees with the pins has one of the triples that are sought
fits_via : (task : Task) (cs : List Cond) (e : Cells) (shapes : List Shape) (shape : Shape) (others : List Shape) (found : List Key) (z : Cells) → Picks shapes shape others
    → AreMatches task.graph.keys (given e task.pins shape.s) (given e task.pins shape.p) (given e task.pins shape.o) found → FitsTask task cs shapes e z → AgreesWith task.pins z
    → Via task cs e shape others found z
fits_via task cs e shapes shape others found z picks matches f agrees =
    let met = f.fills.meets shape ((picks shape).1 (inl refl)) in
    let key : Key = met.0 in
    let stands : Stands z shape key = met.2 in
    let grows : Grows e z = f.fills.grows in
    let at : Agrees (given e task.pins shape.s) (given e task.pins shape.p) (given e task.pins shape.o) key =
    (stands_given task.pins e z shape.s key.0 grows agrees stands.0, stands_given task.pins e z shape.p key.1 grows agrees stands.1, stands_given task.pins e z shape.o key.2 grows agrees stands.2) in
    let can = can_take e z shape key grows stands in
    let m : Cells = can.0 in
    let t = bind_taken e m shape key can.1 in (
      key,
      (matches.exactly key).1 (met.1, at),
      m,
      can.1,
      record {
        fills = record {
          grows = can.2;
          within = λ i h. ⊎_elim
              (λ k. let w = some_in (cell e i) k in inl (in_some (cell m i) w.0 (t.grows.keeps i w.0 w.1)))
              (λ (q, inside, hole). ⊎_elim
              (λ same. inl (holes_some m shape key i t.stands (subst (λ q. HasHole q i) same hole)))
              (λ rest. inr (q, rest, hole))
              ((picks q).0 inside))
              (f.fills.within i h);
          meets = λ q inside. f.fills.meets q ((picks q).1 (inr inside));
        };
        hold = f.hold;
      },
    )

-- where a shape is shut, nothing fits that agrees with the pins
shut_fits : (task : Task) (cs : List Cond) (e : Cells) (shapes : List Shape) (shape : Shape) (z : Cells) → In shapes shape → IsShut task.pins e shape
    → FitsTask task cs shapes e z → AgreesWith task.pins z → ⊥
shut_fits task cs e shapes shape z inside shut f agrees = let met = f.fills.meets shape inside in shut_none task.pins e z shape met.0 shut agrees met.2

-- the order of the shapes does not matter
pub fits_reordered : (task : Task) (cs : List Cond) (old new : List Shape) (e z : Cells) → AreReordered old new → FitsTask task cs old e z ↔ FitsTask task cs new e z
fits_reordered task cs old new e z order = (
  λ f. record {
    fills = record {
      grows = f.fills.grows;
      within = λ i h. ⊎_elim inl (λ (q, inside, hole). inr (q, (order.same q).1 inside, hole)) (f.fills.within i h);
      meets = λ q inside. f.fills.meets q ((order.same q).0 inside);
    };
    hold = f.hold;
  },
  λ f. record {
    fills = record {
      grows = f.fills.grows;
      within = λ i h. ⊎_elim inl (λ (q, inside, hole). inr (q, (order.same q).0 inside, hole)) (f.fills.within i h);
      meets = λ q inside. f.fills.meets q ((order.same q).1 inside);
    };
    hold = f.hold;
  },
)

pub reordered_more : (one two three : List Shape) → AreReordered one two → AreReordered two three → AreReordered one three
reordered_more one two three first next = record {
  same = λ q. (λ i. (first.same q).0 ((next.same q).0 i), λ i. (next.same q).1 ((first.same q).1 i));
  count = next.count ∙ first.count;
}

-- Where no shape is left: the mapping itself, where the conditions hold on it.
empty_fits : (task : Task) (cs : List Cond) (shapes : List Shape) (e z : Cells) → shapes ≡ [] → FitsTask task cs shapes e z ↔ ((z ≡ e) × (all_hold (decode task.vars task.graph.terms e) cs ≡ true))
empty_fits task cs shapes e z none = (
  λ f. let same : z ≡ e = (fills_none task.graph.keys e z).0 (subst (λ shapes. Fills task.graph.keys e shapes z) none f.fills) in
      (same, subst (λ z. all_hold (decode task.vars task.graph.terms z) cs ≡ true) same f.hold),
  λ (same, hold). record {
    fills = subst (λ shapes. Fills task.graph.keys e shapes z) (sym none) ((fills_none task.graph.keys e z).1 same);
    hold = subst (λ z. all_hold (decode task.vars task.graph.terms z) cs ≡ true) (sym same) hold;
  },
)

-- the conditions do not hold: nothing fits
pub nothing_fits : (task : Task) (cs : List Cond) (shapes : List Shape) (e z : Cells) → shapes ≡ [] → all_hold (decode task.vars task.graph.terms e) cs ≡ false → FitsTask task cs shapes e z → ⊥
nothing_fits task cs shapes e z none fails f = not_both (all_hold (decode task.vars task.graph.terms e) cs) ((empty_fits task cs shapes e z none).0 f).1 fails

pub reached_none : (task : Task) (f : Forest) (Z : Cells → Type 0) (ys : List Cells) → ((z : Cells) → Z z → AgreesWith task.pins z → ⊥) → HasAll ys (Reached task f Z)
reached_none task f Z ys none r h = let w = reached_change task f Z (λ z. ⊥) none r h in absurd w.1

pub tells_none : (task : Task) (Z : Cells → Type 0) → ((z : Cells) → Z z → AgreesWith task.pins z → ⊥) → Tells task.pins Z false
tells_none task Z none = record { some = λ e. cc; none = λ e. none }

-- they hold: the rows that the mapping itself leads to
pub full_adds : (task : Task) (cs : List Cond) (shapes : List Shape) (e : Cells) (f : Forest) (xs ys : List Cells) → shapes ≡ [] → all_hold (decode task.vars task.graph.terms e) cs ≡ true
    → Adds xs ys (LeadsTo task f e) → Adds xs ys (Reached task f (FitsTask task cs shapes e))
full_adds task cs shapes e f xs ys none hold = adds_change xs ys _ _ (λ r l. (e, (empty_fits task cs shapes e e none).1 (refl, hold), l))

pub full_all : (task : Task) (cs : List Cond) (shapes : List Shape) (e : Cells) (f : Forest) (ys : List Cells) → shapes ≡ []
    → HasAll ys (LeadsTo task f e) → HasAll ys (Reached task f (FitsTask task cs shapes e))
full_all task cs shapes e f ys none all r (z, fits, l) = all r (subst (λ z. LeadsTo task f z r) ((empty_fits task cs shapes e z none).0 fits).0 l)

pub full_tells : (task : Task) (cs : List Cond) (shapes : List Shape) (e : Cells) → shapes ≡ [] → all_hold (decode task.vars task.graph.terms e) cs ≡ true → Tells task.pins (FitsTask task cs shapes e) true
full_tells task cs shapes e none hold = record { some = λ t. (e, (empty_fits task cs shapes e e none).1 (refl, hold)); none = λ t. cc }

-- A loop over the triples found: those seen have led to their rows.
pub record Stage (task : Task) (cs : List Cond) (e : Cells) (shape : Shape) (others : List Shape) (groups : List Planned) (found left : List Key) (xs ys : List Cells) (any : Bool) : Type 0 where
  pub seen : List Key
  pub split : found ≡ seen ++ left
  pub adds : (f : Forest) → IsPlan task.vars task.graph f groups → Adds xs ys (Reached task f (Via task cs e shape others seen))
  pub all : (f : Forest) → IsPlan task.vars task.graph f groups → HasAll ys (Reached task f (Via task cs e shape others seen))
  pub tells : Tells task.pins (Via task cs e shape others seen) any

pub stage_start : (task : Task) (cs : List Cond) (e : Cells) (shape : Shape) (others : List Shape) (groups : List Planned) (found : List Key) (xs : List Cells)
    → Stage task cs e shape others groups found found xs xs false
stage_start task cs e shape others groups found xs = record {
  seen = [];
  split = refl;
  adds = λ f plan. adds_none xs _;
  all = λ f plan r h. absurd h.1.1;
  tells = record { some = λ t. cc; none = λ t z h. absurd h.1 };
}

via_seen : (task : Task) (cs : List Cond) (e : Cells) (shape : Shape) (others : List Shape) (seen more : List Key) (z : Cells) → Via task cs e shape others seen z → Via task cs e shape others (seen ++ more) z
via_seen task cs e shape others seen more z (key, i, m, is, f) = (key, in_left seen more key i, m, is, f)

-- a triple more, which fits
via_last : (task : Task) (cs : List Cond) (e m : Cells) (shape : Shape) (others : List Shape) (seen : List Key) (key : Key) (z : Cells) → bind_key e shape key ≡ Some m
    → FitsTask task cs others m z → Via task cs e shape others (seen ++ key ∷ []) z
via_last task cs e m shape others seen key z is f = (key, in_right seen (key ∷ []) key (inl refl), m, is, f)

via_more : (task : Task) (cs : List Cond) (e m : Cells) (shape : Shape) (others : List Shape) (seen : List Key) (key : Key) (z : Cells) → bind_key e shape key ≡ Some m
    → Via task cs e shape others (seen ++ key ∷ []) z → Via task cs e shape others seen z ⊎ FitsTask task cs others m z
via_more task cs e m shape others seen key z is (k, i, n, there, f) = ⊎_elim
    (λ i. inl (k, i, n, there, f))
    (λ i. ⊎_elim
    (λ same. let e : n ≡ m = same_some n m (sym there ∙ subst (λ k. bind_key e shape k ≡ Some m) same is) in inr (subst (λ m. FitsTask task cs others m z) e f))
    (λ b. absurd b) i)
    (in_cases seen (key ∷ []) k i)

pub stage_fit : (task : Task) (cs : List Cond) (e m : Cells) (shape : Shape) (others : List Shape) (groups : List Planned) (found now left : List Key) (key : Key) (xs ys zs : List Cells) (any more next : Bool)
    → now ≡ key ∷ left → bind_key e shape key ≡ Some m
    → ((f : Forest) → IsPlan task.vars task.graph f groups → Adds ys zs (Reached task f (FitsTask task cs others m)))
    → ((f : Forest) → IsPlan task.vars task.graph f groups → HasAll zs (Reached task f (FitsTask task cs others m)))
    → Tells task.pins (FitsTask task cs others m) more
    → ((more ≡ true) × (next ≡ true)) ⊎ ((more ≡ false) × (next ≡ any))
    → Stage task cs e shape others groups found now xs ys any → Stage task cs e shape others groups found left xs zs next
stage_fit task cs e m shape others groups found now left key xs ys zs any more next is put adds all tells either stage = record {
  seen = stage.seen ++ key ∷ [];
  split = stage.split ∙ ap (λ left. stage.seen ++ left) is ∙ sym (append_assoc stage.seen (key ∷ []) left);
  adds = λ f plan. adds_more xs ys zs _ _ _
      (λ r (z, h, l). (z, via_seen task cs e shape others stage.seen (key ∷ []) z h, l))
      (λ r (z, h, l). (z, via_last task cs e m shape others stage.seen key z put h, l))
      (stage.adds f plan) (adds f plan);
  all = λ f plan r (z, h, l). ⊎_elim
      (λ h. (adds f plan).kept r (stage.all f plan r (z, h, l)))
      (λ h. all f plan r (z, h, l))
      (via_more task cs e m shape others stage.seen key z put h);
  tells = record {
    some = λ t. ⊎_elim
        (λ (b, n). let w = tells.some b in (w.0, via_last task cs e m shape others stage.seen key w.0 put w.1))
        (λ (b, n). let w = stage.tells.some (sym n ∙ t) in (w.0, via_seen task cs e shape others stage.seen (key ∷ []) w.0 w.1))
        either;
    none = λ t z h a. ⊎_elim
        (λ (b, n). absurd (not_both next n t))
        (λ (b, n). ⊎_elim (λ h. stage.tells.none (sym n ∙ t) z h a) (λ h. tells.none b z h a) (via_more task cs e m shape others stage.seen key z put h))
        either;
  };
}

-- a triple more, which does not
via_past : (task : Task) (cs : List Cond) (e : Cells) (shape : Shape) (others : List Shape) (seen : List Key) (key : Key) (z : Cells) → bind_key e shape key ≡ None
    → Via task cs e shape others (seen ++ key ∷ []) z → Via task cs e shape others seen z
via_past task cs e shape others seen key z clash (k, i, n, there, f) = ⊎_elim
    (λ i. (k, i, n, there, f))
    (λ i. ⊎_elim
    (λ same. absurd (not_none n (sym (subst (λ k. bind_key e shape k ≡ None) same clash) ∙ there)))
    (λ b. absurd b) i)
    (in_cases seen (key ∷ []) k i)

pub stage_skip : (task : Task) (cs : List Cond) (e : Cells) (shape : Shape) (others : List Shape) (groups : List Planned) (found now left : List Key) (key : Key) (xs ys : List Cells) (any : Bool)
    → now ≡ key ∷ left → bind_key e shape key ≡ None → Stage task cs e shape others groups found now xs ys any → Stage task cs e shape others groups found left xs ys any
stage_skip task cs e shape others groups found now left key xs ys any is clash stage = record {
  seen = stage.seen ++ key ∷ [];
  split = stage.split ∙ ap (λ left. stage.seen ++ left) is ∙ sym (append_assoc stage.seen (key ∷ []) left);
  adds = λ f plan. adds_change xs ys _ _ (λ r (z, h, l). (z, via_seen task cs e shape others stage.seen (key ∷ []) z h, l)) (stage.adds f plan);
  all = λ f plan r (z, h, l). stage.all f plan r (z, via_past task cs e shape others stage.seen key z clash h, l);
  tells = record {
    some = λ t. let w = stage.tells.some t in (w.0, via_seen task cs e shape others stage.seen (key ∷ []) w.0 w.1);
    none = λ t z h a. stage.tells.none t z (via_past task cs e shape others stage.seen key z clash h) a;
  };
}

-- what was sought, and which shape for
pub record Sought (task : Task) (e : Cells) (shapes : List Shape) (shape : Shape) (others : List Shape) (found : List Key) : Type 0 where
  pub picks : Picks shapes shape others
  pub matches : AreMatches task.graph.keys (given e task.pins shape.s) (given e task.pins shape.p) (given e task.pins shape.o) found

seen_there : (task : Task) (e : Cells) (shapes : List Shape) (shape : Shape) (others : List Shape) (found seen left : List Key) → Sought task e shapes shape others found → found ≡ seen ++ left
    → (key : Key) → In seen key → In task.graph.keys key
seen_there task e shapes shape others found seen left sought split key i =
    ((sought.matches.exactly key).0 (subst (λ found. In found key) (sym split) (in_left seen left key i))).0

-- no triple is left
pub record Done (task : Task) (cs : List Cond) (e : Cells) (shapes : List Shape) (groups : List Planned) (xs ys : List Cells) (any : Bool) : Type 0 where
  pub adds : (f : Forest) → IsPlan task.vars task.graph f groups → Adds xs ys (Reached task f (FitsTask task cs shapes e))
  pub all : (f : Forest) → IsPlan task.vars task.graph f groups → HasAll ys (Reached task f (FitsTask task cs shapes e))
  pub tells : Tells task.pins (FitsTask task cs shapes e) any

pub stage_end : (task : Task) (cs : List Cond) (e : Cells) (shapes : List Shape) (shape : Shape) (others : List Shape) (groups : List Planned) (found left : List Key) (xs ys : List Cells) (any : Bool)
    → left ≡ [] → Sought task e shapes shape others found → Stage task cs e shape others groups found left xs ys any → Done task cs e shapes groups xs ys any
stage_end task cs e shapes shape others groups found left xs ys any none sought stage =
    let same : found ≡ stage.seen = stage.split ∙ ap (λ left. stage.seen ++ left) none ∙ append-nil stage.seen in
    let up : (z : Cells) → Via task cs e shape others stage.seen z → FitsTask task cs shapes e z =
    λ z. via_fits task cs e shapes shape others stage.seen z sought.picks (seen_there task e shapes shape others found stage.seen left sought stage.split) in
    let down : (z : Cells) → FitsTask task cs shapes e z → AgreesWith task.pins z → Via task cs e shape others stage.seen z =
    λ z h a. subst (λ seen. Via task cs e shape others seen z) same (fits_via task cs e shapes shape others found z sought.picks sought.matches h a) in
    record {
      adds = λ f plan. adds_change xs ys _ _ (λ r (z, h, l). (z, up z h, l)) (stage.adds f plan);
      all = λ f plan r h. stage.all f plan r (reached_change task f _ _ down r h);
      tells = tells_change task _ _ any up down stage.tells;
    }

-- the search stops within a triple
pub stage_stop : (task : Task) (cs : List Cond) (e m : Cells) (shapes : List Shape) (shape : Shape) (others : List Shape) (groups : List Planned) (found now left : List Key) (key : Key) (xs ys zs : List Cells) (any : Bool)
    → now ≡ key ∷ left → bind_key e shape key ≡ Some m → ((f : Forest) → IsPlan task.vars task.graph f groups → Adds ys zs (Reached task f (FitsTask task cs others m)))
    → Sought task e shapes shape others found → Stage task cs e shape others groups found now xs ys any
    → (f : Forest) → IsPlan task.vars task.graph f groups → Adds xs zs (Reached task f (FitsTask task cs shapes e))
stage_stop task cs e m shapes shape others groups found now left key xs ys zs any is put adds sought stage f plan =
    let there = seen_there task e shapes shape others found stage.seen now sought stage.split in
    let last : In found key = subst (λ found. In found key) (sym (stage.split ∙ ap (λ left. stage.seen ++ left) is)) (in_right stage.seen (key ∷ left) key (inl refl)) in
    let one : (k : Key) → In (key ∷ []) k → In task.graph.keys k =
    λ k i. ⊎_elim (λ same. subst (In task.graph.keys) same ((sought.matches.exactly key).0 last).0) (λ b. absurd b) i in
    adds_more xs ys zs _ _ _
    (λ r (z, h, l). (z, via_fits task cs e shapes shape others stage.seen z sought.picks there h, l))
    (λ r (z, h, l). (z, via_fits task cs e shapes shape others (key ∷ []) z sought.picks one (key, inl refl, m, put, h), l))
    (stage.adds f plan) (adds f plan)

-- a shape for places past the end of a list
abbrev pub any_shape : Shape
any_shape = record { s = Hole 0; p = Hole 0; o = Hole 0 }

-- One shape is put first.
permuted : {X : Type 0} (xs ys : List X) (x : X) → IsPermutation xs ys → In xs x ↔ In ys x
permuted xs ys x p = (
  λ i. contains_in ys x (Contains-permutation xs ys x p (in_contains xs x i)),
  λ i. contains_in xs x (Contains-permutation ys xs x (IsPermutation-sym xs ys p) (in_contains ys x i)),
)

-- the shapes with one put first
pub record IsFront (shapes front others : List Shape) (shape : Shape) : Type 0 where
  pub picks : Picks shapes shape others
  pub one : front ≡ shape ∷ []
  pub count : suc (length others) ≡ length shapes

pub put_first : (shapes swapped front others : List Shape) (d : Shape) → 0 < length shapes → IsPermutation shapes swapped → length swapped ≡ length shapes → front ≡ take 1 swapped → others ≡ drop 1 swapped
    → IsFront shapes front others (get_or swapped 0 d)
put_first shapes [] front others d l p len is rest = absurd (omega arith)
put_first shapes (x ∷ xs) front others d l p len is rest = record {
  picks = λ q. (
    λ i. ⊎_elim (λ s. inl (sym s)) (λ k. inr (subst (λ r. In r q) (sym rest) k)) ((permuted shapes (x ∷ xs) q p).0 i),
    λ i. (permuted shapes (x ∷ xs) q p).1 (⊎_elim (λ s. inl (sym s)) (λ k. inr (subst (λ r. In r q) rest k)) i),
  );
  one = is;
  count = ap (λ r. suc (length r)) rest ∙ len;
}

pub front_reordered : (shapes front others later : List Shape) (shape : Shape) → IsFront shapes front others shape → AreReordered others later → AreReordered shapes (front ++ later)
front_reordered shapes front others later shape is order =
    subst (λ front. AreReordered shapes (front ++ later)) (sym is.one) (record {
      same = λ q. (
        λ i. (is.picks q).1 (⊎_elim (λ s. inl (sym s)) (λ k. inr ((order.same q).0 k)) i),
        λ i. ⊎_elim (λ s. inl (sym s)) (λ k. inr ((order.same q).1 k)) ((is.picks q).0 i),
      );
      count = ap suc order.count ∙ is.count;
    })

-- within the loop over the triples found
pub record IsWalked (task : Task) (cs : List Cond) (shapes : List Shape) (shape : Shape) (first : List Shape) (groups : List Planned) (found : List Key) (e now : Cells) (others : List Shape) (left : List Key)
    (old new : LinesValue) (any : Bool) : Type 0 where
  pub same : now ≡ e
  pub order : AreReordered first others
  pub stage : Stage task cs e shape first groups found left old.rows new.rows any
  pub limit : new.limit ≡ old.limit
  pub few : length new.rows ≤ new.limit

pub swapped_reordered : (shapes swapped : List Shape) → IsPermutation shapes swapped → length swapped ≡ length shapes → AreReordered shapes swapped
swapped_reordered shapes swapped p len = record { same = λ q. let h = permuted shapes swapped q p in (h.1, h.0); count = len }

pub walked_start : (task : Task) (cs : List Cond) (shapes : List Shape) (shape : Shape) (first : List Shape) (groups : List Planned) (found : List Key) (e : Cells) (old : LinesValue) → length old.rows ≤ old.limit
    → IsWalked task cs shapes shape first groups found e e first found old old false
walked_start task cs shapes shape first groups found e old few = record {
  same = refl;
  order = reordered_self first;
  stage = stage_start task cs e shape first groups found old.rows;
  limit = refl;
  few = few;
}

-- a triple that was put in, and taken out again
pub walked_fit : (task : Task) (cs : List Cond) (shapes : List Shape) (shape : Shape) (first : List Shape) (groups : List Planned) (found : List Key) (e now m back later : Cells) (others after : List Shape) (left next : List Key) (key : Key)
    (old new newer : LinesValue) (any more then : Bool) (bound : Bound) → left ≡ key ∷ next → (bind_key now shape key ≡ Some m) × (unbound m bound ≡ now) → back ≡ m → later ≡ unbound back bound → AreReordered others after → newer.limit ≡ new.limit → length newer.rows ≤ newer.limit
    → ((f : Forest) → IsPlan task.vars task.graph f groups → Adds new.rows newer.rows (Reached task f (FitsTask task cs others m)))
    → ((f : Forest) → IsPlan task.vars task.graph f groups → HasAll newer.rows (Reached task f (FitsTask task cs others m)))
    → Tells task.pins (FitsTask task cs others m) more
    → ((more ≡ true) × (then ≡ true)) ⊎ ((more ≡ false) × (then ≡ any))
    → IsWalked task cs shapes shape first groups found e now others left old new any → IsWalked task cs shapes shape first groups found e later after next old newer then
walked_fit task cs shapes shape first groups found e now m back later others after left next key old new newer any more then bound is put again undone order limit few adds all tells either walk =
    let same : (z : Cells) → FitsTask task cs others m z ↔ FitsTask task cs first m z = λ z. let h = fits_reordered task cs first others m z walk.order in (h.1, h.0) in
    record {
      same = undone ∙ ap (λ z. unbound z bound) again ∙ put.1 ∙ walk.same;
      order = reordered_more first others after walk.order order;
      stage = stage_fit task cs e m shape first groups found left next key old.rows new.rows newer.rows any more then is (subst (λ e. bind_key e shape key ≡ Some m) walk.same put.0)
          (λ f plan. adds_change new.rows newer.rows _ _ (λ r (z, h, l). (z, (same z).0 h, l)) (adds f plan))
          (λ f plan r (z, h, l). all f plan r (z, (same z).1 h, l))
          (record { some = λ t. let w = tells.some t in (w.0, (same w.0).0 w.1); none = λ t z h a. tells.none t z ((same z).1 h) a })
          either walk.stage;
      limit = limit ∙ walk.limit;
      few = few;
    }

pub walked_clash : (task : Task) (cs : List Cond) (shapes : List Shape) (shape : Shape) (first : List Shape) (groups : List Planned) (found : List Key) (e now later : Cells) (others : List Shape) (left next : List Key) (key : Key)
    (old new : LinesValue) (any : Bool) → left ≡ key ∷ next → later ≡ now → bind_key now shape key ≡ None
    → IsWalked task cs shapes shape first groups found e now others left old new any → IsWalked task cs shapes shape first groups found e later others next old new any
walked_clash task cs shapes shape first groups found e now later others left next key old new any is same clash walk = record {
  same = same ∙ walk.same;
  order = walk.order;
  stage = stage_skip task cs e shape first groups found left next key old.rows new.rows any is (subst (λ e. bind_key e shape key ≡ None) walk.same clash) walk.stage;
  limit = walk.limit;
  few = walk.few;
}

-- the search stopped within a triple
pub walked_stop : (task : Task) (cs : List Cond) (shapes : List Shape) (shape : Shape) (first : List Shape) (groups : List Planned) (found : List Key) (e now m : Cells) (others : List Shape) (left next : List Key) (key : Key)
    (old new newer : LinesValue) (any : Bool) → left ≡ key ∷ next → bind_key now shape key ≡ Some m → Sought task e shapes shape first found
    → ((f : Forest) → IsPlan task.vars task.graph f groups → Adds new.rows newer.rows (Reached task f (FitsTask task cs others m)))
    → IsWalked task cs shapes shape first groups found e now others left old new any
    → (f : Forest) → IsPlan task.vars task.graph f groups → Adds old.rows newer.rows (Reached task f (FitsTask task cs shapes e))
walked_stop task cs shapes shape first groups found e now m others left next key old new newer any is put sought adds walk =
    stage_stop task cs e m shapes shape first groups found left next key old.rows new.rows newer.rows any is (subst (λ e. bind_key e shape key ≡ Some m) walk.same put)
    (λ f plan. adds_change new.rows newer.rows _ _ (λ r (z, h, l). (z, (fits_reordered task cs first others m z walk.order).1 h, l)) (adds f plan)) sought walk.stage

-- what the code has taken: the shapes with one put first, and the triples sought for it
pub record IsTakenUp (task : Task) (e : Cells) (shapes swapped front others : List Shape) (pins : List Pin) : Type 0 where
  pub some : 0 < length shapes
  pub permuted : IsPermutation shapes swapped
  pub count : length swapped ≡ length shapes
  pub first : front ≡ take 1 swapped
  pub rest : others ≡ drop 1 swapped
  pub wanted : pins ≡ task.pins

pub up_front : (task : Task) (e : Cells) (shapes swapped front others : List Shape) (pins : List Pin) (d : Shape) → IsTakenUp task e shapes swapped front others pins → IsFront shapes front others (get_or swapped 0 d)
up_front task e shapes swapped front others pins d up = put_first shapes swapped front others d up.some up.permuted up.count up.first up.rest

pub up_sought : (task : Task) (e : Cells) (shapes swapped front others : List Shape) (pins : List Pin) (d : Shape) (g : GraphValue) (found : List Key) → IsTakenUp task e shapes swapped front others pins → g ≡ task.graph
    → AreMatches g.keys (given e pins (get_or swapped 0 d).s) (given e pins (get_or swapped 0 d).p) (given e pins (get_or swapped 0 d).o) found → Sought task e shapes (get_or swapped 0 d) others found
up_sought task e shapes swapped front others pins d g found up same matches = record {
  picks = (up_front task e shapes swapped front others pins d up).picks;
  matches =
      let shape : Shape = get_or swapped 0 d in
      subst (λ pins. AreMatches task.graph.keys (given e pins shape.s) (given e pins shape.p) (given e pins shape.o) found) up.wanted
      (subst (λ (g : GraphValue). AreMatches g.keys (given e pins shape.s) (given e pins shape.p) (given e pins shape.o) found) same matches);
}

-- the shape that was put first is shut
pub up_shut : (task : Task) (cs : List Cond) (e : Cells) (shapes swapped : List Shape) (pins : List Pin) (d : Shape) (b : Bool) → 0 < length shapes → IsPermutation shapes swapped → length swapped ≡ length shapes → pins ≡ task.pins → b ≡ true
    → (b ≡ true → IsShut pins e (get_or swapped 0 d)) → (z : Cells) → FitsTask task cs shapes e z → AgreesWith task.pins z → ⊥
up_shut task cs e shapes swapped pins d b some p count same shuts shut z =
    let shape : Shape = get_or swapped 0 d in
    shut_fits task cs e shapes shape z (((put_first shapes swapped (take 1 swapped) (drop 1 swapped) d some p count refl refl).picks shape).1 (inl refl)) (subst (λ pins. IsShut pins e shape) same (shut shuts))

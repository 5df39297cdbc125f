-- Filling the shapes of a node's patterns is a step at the node.
use Rattle.std.proofs.Common.{◌≡◌, refl, ℕ, ◌<◌, Bool, true, List, [], ◌∷◌, ◌++◌, map, Option, Some, None, inl, inr, ⊎_elim, ◌↔◌, sym, ◌∙◌, ap, subst, length, slice_get}
use Rattle.std.specs.List.{AllByRecursion}
use Rattle.bye_terms.specs.declared.term.Term.{Term}
use Rattle.bye_terms.specs.declared.term.Term.TheVariants.{Iri}
use Rattle.bye_terms.specs.Members.{In, EachOnce}
use Rattle.bye_terms.specs.Terms.{Statement}
use Rattle.bye_terms.proofs.Lists.{in_map, map_in}
use Rattle.bye_terms.proofs.Members.{in_cases, in_left, in_right, all_in, all_from}
use Rattle.bye_terms.proofs.Tests.{both, both_parts}
use Rattle.bye_table.specs.Mappings.{Mapping, Name, first_of, merge}
use Rattle.bye_table.proofs.Merging.{not_bound}
use Rattle.bye_pattern.specs.declared.cond.Cond.{Cond}
use Rattle.bye_pattern.specs.declared.slot.Slot.{Slot}
use Rattle.bye_pattern.specs.declared.slot.Slot.TheVariants as slots
use Rattle.bye_pattern.specs.Conditions.{cond_expr, value}
use Rattle.bye_pattern.specs.Conjuncts.{MeetsCond}
use Rattle.bye_pattern.specs.Patterns.{Pattern, slot_under, slot_vars, vars, all_vars, Becomes, Meets}
use Rattle.bye_pattern.specs.Trees.{Tree, own_conds, own_triples, own_vars}
use Rattle.bye_pattern.proofs.Solutions.{var_cases}
use Rattle.bye_laws.proofs.Telling.{holds_meets}
use Rattle.bye_graph.specs.Keys.{Key}
use Rattle.bye_graph.specs.Graphs.{GraphValue, IsNumbered, IsUsed, statement_of, statements, term_of}
use Rattle.bye_graph.proofs.Numbers.{term_in}
use Rattle.bye_node.specs.declared.env.Place.{Place}
use Rattle.bye_node.specs.declared.env.Place.TheVariants.{Hole, Fixed}
use Rattle.bye_node.specs.Envs.{Cells, Shape, cell, under, IsHole, HasHole, MeetsShape, Fills}
use Rattle.bye_node.specs.Conds.{all_hold, holds, is_true}
use Rattle.bye_node.specs.Steps.{AreListed, AreShapes, HasLost, IsLost, IsPlace, IsShape, IsStepBy, beside, decode, filled, pattern_in, slot_in}
use Rattle.bye_node.proofs.Cells.{same_some}
use Rattle.bye_node.proofs.Decoding.{decoded, decodes, get_below, get_once}

-- what stands in a place, by numbers and by terms
place_means : (vs : List Name) (ts : List Term) (z : Cells) (s : Slot) (q : Place) (k : ℕ) → EachOnce vs → EachOnce ts → k < length ts → IsPlace vs ts s q
    → (under z q ≡ Some k) ↔ (slot_under (decode vs ts z) s ≡ Some (term_of ts k))
place_means vs ts z (slots.Var v) (Hole i) k once terms l at = (
  λ h. decodes vs ts z v i k (term_of ts k) once at h (get_below ts k (Iri []) l),
  λ h.
      let w = decoded vs ts z v (term_of ts k) once h in
      let j : w.0 ≡ i = get_once vs w.0 i v once w.2 at in
      let m : w.1 ≡ k = get_once ts w.1 k (term_of ts k) terms w.4 (get_below ts k (Iri []) l) in
      subst (λ i. cell z i ≡ Some k) j (w.3 ∙ ap Some m),
)
place_means vs ts z (slots.Const c) (Fixed j) k once terms l at = (
  λ h. sym at ∙ ap (slice_get ts) (same_some j k h) ∙ get_below ts k (Iri []) l,
  λ h. ap Some (get_once ts j k c terms at (get_below ts k (Iri []) l ∙ sym h)),
)
place_means vs ts z (slots.Var v) (Fixed j) k once terms l at = absurd at
place_means vs ts z (slots.Const c) (Hole i) k once terms l at = absurd at

-- a pattern by numbers and by terms
shape_means : (vs : List Name) (g : GraphValue) (z : Cells) (p : Pattern) (q : Shape) → IsNumbered g → EachOnce vs → IsShape vs g.terms p q
    → MeetsShape g.keys z q ↔ Meets (statements g) (decode vs g.terms z) p
shape_means vs g z p q good once is = (
  λ (key, inside, (a, b, c)).
      let used : IsUsed g.terms key = good.used key inside in (
        statement_of g.terms key,
        map_in (statement_of g.terms) g.keys key inside,
        record {
          s = (place_means vs g.terms z p.s q.s key.0 once good.terms used.0 is.s).0 a;
          p = (place_means vs g.terms z p.p q.p key.1 once good.terms used.1 is.p).0 b;
          o = (place_means vs g.terms z p.o q.o key.2 once good.terms used.2 is.o).0 c;
        },
      ),
  λ (f, inside, b).
      let w = in_map (statement_of g.terms) g.keys f inside in
      let key : Key = w.0 in
      let used : IsUsed g.terms key = good.used key w.1 in (
        key,
        w.1,
        (
          (place_means vs g.terms z p.s q.s key.0 once good.terms used.0 is.s).1 (b.s ∙ ap Some (ap (λ f. f.s) (sym w.2))),
          (place_means vs g.terms z p.p q.p key.1 once good.terms used.1 is.p).1 (b.p ∙ ap Some (ap (λ f. f.p) (sym w.2))),
          (place_means vs g.terms z p.o q.o key.2 once good.terms used.2 is.o).1 (b.o ∙ ap Some (ap (λ f. f.o) (sym w.2))),
        ),
      ),
)

-- one pattern for each shape, and one shape for each pattern
shape_pattern : (vs : List Name) (ts : List Term) (ps : List Pattern) (qs : List Shape) (q : Shape) → AreShapes vs ts ps qs → In qs q → (p : Pattern) × In ps p × IsShape vs ts p q
shape_pattern vs ts [] [] q all h = absurd h
shape_pattern vs ts [] (r ∷ qs) q all h = absurd all
shape_pattern vs ts (p ∷ ps) [] q all h = absurd all
shape_pattern vs ts (p ∷ ps) (r ∷ qs) q all (inl e) = (p, inl refl, subst (IsShape vs ts p) e all.0)
shape_pattern vs ts (p ∷ ps) (r ∷ qs) q all (inr h) = let w = shape_pattern vs ts ps qs q all.1 h in (w.0, inr w.1, w.2)

pattern_shape : (vs : List Name) (ts : List Term) (ps : List Pattern) (qs : List Shape) (p : Pattern) → AreShapes vs ts ps qs → In ps p → (q : Shape) × In qs q × IsShape vs ts p q
pattern_shape vs ts [] [] p all h = absurd h
pattern_shape vs ts [] (r ∷ qs) p all h = absurd all
pattern_shape vs ts (r ∷ ps) [] p all h = absurd all
pattern_shape vs ts (r ∷ ps) (q ∷ qs) p all (inl e) = (q, inl refl, subst (λ p. IsShape vs ts p q) e all.0)
pattern_shape vs ts (r ∷ ps) (q ∷ qs) p all (inr h) = let w = pattern_shape vs ts ps qs p all.1 h in (w.0, inr w.1, w.2)

-- holes are variables
hole_var : (vs : List Name) (ts : List Term) (s : Slot) (q : Place) (i : ℕ) → IsPlace vs ts s q → IsHole q i → (v : Name) × In (slot_vars s) v × (slice_get vs i ≡ Some v)
hole_var vs ts (slots.Var v) (Hole j) i at e = (v, inl refl, subst (λ i. slice_get vs i ≡ Some v) e at)
hole_var vs ts (slots.Const c) (Fixed k) i at e = absurd e
hole_var vs ts (slots.Var v) (Fixed k) i at e = absurd at
hole_var vs ts (slots.Const c) (Hole j) i at e = absurd at

var_hole : (vs : List Name) (ts : List Term) (s : Slot) (q : Place) (i : ℕ) (v : Name) → EachOnce vs → IsPlace vs ts s q → In (slot_vars s) v → slice_get vs i ≡ Some v → IsHole q i
var_hole vs ts (slots.Var w) (Hole j) i v once at (inl e) is = get_once vs j i v once (at ∙ ap Some e) is
var_hole vs ts (slots.Var w) (Hole j) i v once at (inr b) is = absurd b
var_hole vs ts (slots.Const c) (Fixed k) i v once at b is = absurd b
var_hole vs ts (slots.Var w) (Fixed k) i v once at h is = absurd at
var_hole vs ts (slots.Const c) (Hole j) i v once at h is = absurd at

vars_s : (p : Pattern) (v : Name) → In (slot_vars p.s) v → In (vars p) v
vars_s p v h = in_left _ _ v (in_left _ _ v h)

vars_p : (p : Pattern) (v : Name) → In (slot_vars p.p) v → In (vars p) v
vars_p p v h = in_left _ _ v (in_right (slot_vars p.s) _ v h)

vars_o : (p : Pattern) (v : Name) → In (slot_vars p.o) v → In (vars p) v
vars_o p v h = in_right (slot_vars p.s ++ slot_vars p.p) _ v h

holes_vars : (vs : List Name) (ts : List Term) (p : Pattern) (q : Shape) (i : ℕ) → IsShape vs ts p q → HasHole q i → (v : Name) × In (vars p) v × (slice_get vs i ≡ Some v)
holes_vars vs ts p q i is h = ⊎_elim
    (λ h. let w = hole_var vs ts p.s q.s i is.s h in (w.0, vars_s p w.0 w.1, w.2))
    (λ h. ⊎_elim
    (λ h. let w = hole_var vs ts p.p q.p i is.p h in (w.0, vars_p p w.0 w.1, w.2))
    (λ h. let w = hole_var vs ts p.o q.o i is.o h in (w.0, vars_o p w.0 w.1, w.2)) h) h

vars_holes : (vs : List Name) (ts : List Term) (p : Pattern) (q : Shape) (i : ℕ) (v : Name) → EachOnce vs → IsShape vs ts p q → In (vars p) v → slice_get vs i ≡ Some v → HasHole q i
vars_holes vs ts p q i v once is h at = var_cases p v h
    (λ h. inl (var_hole vs ts p.s q.s i v once is.s h at))
    (λ h. inr (inl (var_hole vs ts p.p q.p i v once is.p h at)))
    (λ h. inr (inr (var_hole vs ts p.o q.o i v once is.o h at)))

-- variables of patterns
in_all : (ps : List Pattern) (p : Pattern) (v : Name) → In ps p → In (vars p) v → In (all_vars ps) v
in_all [] p v h i = absurd h
in_all (q ∷ ps) p v (inl e) i = in_left _ _ v (subst (λ p. In (vars p) v) (sym e) i)
in_all (q ∷ ps) p v (inr h) i = in_right (vars q) _ v (in_all ps p v h i)

of_all : (ps : List Pattern) (v : Name) → In (all_vars ps) v → (p : Pattern) × In ps p × In (vars p) v
of_all [] v h = absurd h
of_all (q ∷ ps) v h = ⊎_elim (λ h. (q, inl refl, h)) (λ h. let w = of_all ps v h in (w.0, inr w.1, w.2)) (in_cases (vars q) _ v h)

-- a pattern with the row's terms as constants
filled_under : (v : Name) (o : Option Term) (e : Mapping) → slot_under e (filled v o) ≡ first_of o (e v)
filled_under v None e = refl
filled_under v (Some t) e = refl

slot_in_under : (row e : Mapping) (s : Slot) → slot_under e (slot_in row s) ≡ slot_under (merge row e) s
slot_in_under row e (slots.Var v) = filled_under v (row v) e
slot_in_under row e (slots.Const c) = refl

meets_in : (g : List Statement) (row e : Mapping) (p : Pattern) → Meets g e (pattern_in row p) ↔ Meets g (merge row e) p
meets_in g row e p = (
  λ (f, i, b). (f, i, record { s = sym (slot_in_under row e p.s) ∙ b.s; p = sym (slot_in_under row e p.p) ∙ b.p; o = sym (slot_in_under row e p.o) ∙ b.o }),
  λ (f, i, b). (f, i, record { s = slot_in_under row e p.s ∙ b.s; p = slot_in_under row e p.p ∙ b.p; o = slot_in_under row e p.o ∙ b.o }),
)

-- its variables are those that the row leaves open
filled_vars : (w : Name) (o : Option Term) (v : Name) → In (slot_vars (filled w o)) v → (w ≡ v) × (o ≡ None)
filled_vars w None v (inl e) = (e, refl)
filled_vars w None v (inr b) = absurd b
filled_vars w (Some t) v h = absurd h

slot_left : (row : Mapping) (s : Slot) (v : Name) → In (slot_vars (slot_in row s)) v → In (slot_vars s) v × (row v ≡ None)
slot_left row (slots.Var w) v h = let r = filled_vars w (row w) v h in (inl r.0, subst (λ w. row w ≡ None) r.0 r.1)
slot_left row (slots.Const c) v h = absurd h

left_slot : (row : Mapping) (s : Slot) (v : Name) → In (slot_vars s) v → row v ≡ None → In (slot_vars (slot_in row s)) v
left_slot row (slots.Var w) v (inl e) n = subst (λ o. In (slot_vars (filled w o)) v) (sym (subst (λ v. row v ≡ None) (sym e) n)) (inl e)
left_slot row (slots.Var w) v (inr b) n = absurd b
left_slot row (slots.Const c) v h n = absurd h

pattern_left : (row : Mapping) (p : Pattern) (v : Name) → In (vars (pattern_in row p)) v → In (vars p) v × (row v ≡ None)
pattern_left row p v h = var_cases (pattern_in row p) v h
    (λ h. let r = slot_left row p.s v h in (vars_s p v r.0, r.1))
    (λ h. let r = slot_left row p.p v h in (vars_p p v r.0, r.1))
    (λ h. let r = slot_left row p.o v h in (vars_o p v r.0, r.1))

left_pattern : (row : Mapping) (p : Pattern) (v : Name) → In (vars p) v → row v ≡ None → In (vars (pattern_in row p)) v
left_pattern row p v h n = var_cases p v h
    (λ h. vars_s (pattern_in row p) v (left_slot row p.s v h n))
    (λ h. vars_p (pattern_in row p) v (left_slot row p.p v h n))
    (λ h. vars_o (pattern_in row p) v (left_slot row p.o v h n))

-- conditions as tests
true_some : (o : Option Bool) → is_true o ≡ true → o ≡ Some true
true_some None e = cc
true_some (Some b) e = ap Some e

pub all_met : (m : Mapping) (cs : List Cond) → all_hold m cs ≡ true → AllByRecursion (MeetsCond m) cs
all_met m [] h = tt
all_met m (c ∷ cs) h = let p = both_parts (holds m c) (all_hold m cs) h in (holds_meets m c (true_some (value m (cond_expr c)) p.0), all_met m cs p.1)

pub met_all : (m : Mapping) (cs : List Cond) → AllByRecursion (MeetsCond m) cs → all_hold m cs ≡ true
met_all m [] h = refl
met_all m (c ∷ cs) (h, all) = both (holds m c) (all_hold m cs) (ap is_true h.1) (met_all m cs all)

-- filling and stepping
fills_step : (row : Mapping) (vs : List Name) (g : GraphValue) (e : Cells) (t : Tree) (z : Cells) (shapes : List Shape) → IsNumbered g → EachOnce vs → AreShapes vs g.terms (map (pattern_in row) (own_triples t)) shapes
    → Fills g.keys e shapes z → all_hold (beside row vs g.terms z) (own_conds t) ≡ true → IsStepBy row vs g e t z
fills_step row vs g e t z shapes good once are fills hold = record {
  grows = fills.grows;
  within = λ i h. ⊎_elim inl
      (λ (q, inside, hole).
      let p = shape_pattern vs g.terms (map (pattern_in row) (own_triples t)) shapes q are inside in
      let v = holes_vars vs g.terms p.0 q i p.2 hole in
      let o = in_map (pattern_in row) (own_triples t) p.0 p.1 in
      let left = pattern_left row o.0 v.0 (subst (λ p. In (vars p) v.0) (sym o.2) v.1) in
      inr (v.0, in_all (own_triples t) o.0 v.0 o.1 left.0, left.1, v.2))
      (fills.within i h);
  meets = (
    all_from (Meets (statements g) (beside row vs g.terms z)) (own_triples t) (λ p h.
        let q = pattern_shape vs g.terms (map (pattern_in row) (own_triples t)) shapes (pattern_in row p) are (map_in (pattern_in row) (own_triples t) p h) in
        (meets_in (statements g) row (decode vs g.terms z) p).0 ((shape_means vs g z (pattern_in row p) q.0 good once q.2).0 (fills.meets q.0 q.1))),
    all_met (beside row vs g.terms z) (own_conds t) hold,
  );
}

step_fills : (row : Mapping) (vs : List Name) (g : GraphValue) (e : Cells) (t : Tree) (z : Cells) (shapes : List Shape) → IsNumbered g → EachOnce vs → AreShapes vs g.terms (map (pattern_in row) (own_triples t)) shapes
    → IsStepBy row vs g e t z → Fills g.keys e shapes z
step_fills row vs g e t z shapes good once are s = record {
  grows = s.grows;
  within = λ i h. ⊎_elim inl
      (λ (v, own, free, at).
      let p = of_all (own_triples t) v own in
      let q = pattern_shape vs g.terms (map (pattern_in row) (own_triples t)) shapes (pattern_in row p.0) are (map_in (pattern_in row) (own_triples t) p.0 p.1) in
      inr (q.0, q.1, vars_holes vs g.terms (pattern_in row p.0) q.0 i v once q.2 (left_pattern row p.0 v p.2 free) at))
      (s.within i h);
  meets = λ q h.
      let p = shape_pattern vs g.terms (map (pattern_in row) (own_triples t)) shapes q are h in
      let o = in_map (pattern_in row) (own_triples t) p.0 p.1 in
      let met = (meets_in (statements g) row (decode vs g.terms z) o.0).1 (all_in (Meets (statements g) (beside row vs g.terms z)) (own_triples t) o.0 s.meets.0 o.1) in
      (shape_means vs g z p.0 q good once p.2).1 (subst (Meets (statements g) (decode vs g.terms z)) o.2 met);
}

-- the numbers that fill the shapes of a node and on which its conditions hold are the steps at the node
pub step_is : (row : Mapping) (vs : List Name) (g : GraphValue) (e : Cells) (t : Tree) (z : Cells) (shapes : List Shape) → IsNumbered g → EachOnce vs → AreShapes vs g.terms (map (pattern_in row) (own_triples t)) shapes
    → (Fills g.keys e shapes z × (all_hold (beside row vs g.terms z) (own_conds t) ≡ true)) ↔ IsStepBy row vs g e t z
step_is row vs g e t z shapes good once are = (
  λ h. fills_step row vs g e t z shapes good once are h.0 h.1,
  λ s. (step_fills row vs g e t z shapes good once are s, met_all (beside row vs g.terms z) (own_conds t) s.meets.1),
)

-- there is none where a place has no number
terms_of : (g : GraphValue) → IsNumbered g → (f : Statement) → In (statements g) f → In g.terms f.s × In g.terms f.p × In g.terms f.o
terms_of g good f inside =
    let w = in_map (statement_of g.terms) g.keys f inside in
    let key : Key = w.0 in
    let used : IsUsed g.terms key = good.used key w.1 in (
      subst (In g.terms) (ap (λ f. f.s) w.2) (term_in g.terms key.0 used.0),
      subst (In g.terms) (ap (λ f. f.p) w.2) (term_in g.terms key.1 used.1),
      subst (In g.terms) (ap (λ f. f.o) w.2) (term_in g.terms key.2 used.2),
    )

lost_slot : (vs : List Name) (ts : List Term) (m : Mapping) (s : Slot) (t : Term) → ((v : Name) → In (slot_vars s) v → In vs v) → In ts t → slot_under m s ≡ Some t → IsLost vs ts s → ⊥
lost_slot vs ts m (slots.Var v) t has there h gone = gone (has v (inl refl))
lost_slot vs ts m (slots.Const c) t has there h gone = gone (subst (In ts) (sym (same_some c t h)) there)

pub lost_step : (row : Mapping) (vs : List Name) (g : GraphValue) (e : Cells) (t : Tree) (z : Cells) → IsNumbered g → AreListed row vs (own_vars t) → HasLost vs g.terms (map (pattern_in row) (own_triples t))
    → IsStepBy row vs g e t z → ⊥
lost_step row vs g e t z good listed (p, inside, gone) s =
    let o = in_map (pattern_in row) (own_triples t) p inside in
    let met : Meets (statements g) (decode vs g.terms z) p = subst (Meets (statements g) (decode vs g.terms z)) o.2 ((meets_in (statements g) row (decode vs g.terms z) o.0).1 (all_in (Meets (statements g) (beside row vs g.terms z)) (own_triples t) o.0 s.meets.0 o.1)) in
    let here = terms_of g good met.0 met.1 in
    let b : Becomes (decode vs g.terms z) p met.0 = met.2 in
    let own : (v : Name) → In (vars p) v → In vs v = λ v h.
    let left = pattern_left row o.0 v (subst (λ p. In (vars p) v) (sym o.2) h) in
    ⊎_elim (λ taken. absurd (not_bound (row v) left.1 taken)) (λ i. i) (listed.has v (in_all (own_triples t) o.0 v o.1 left.0)) in
    ⊎_elim
    (λ g1. lost_slot vs g.terms (decode vs g.terms z) p.s met.0.s (λ v h. own v (vars_s p v h)) here.0 b.s g1)
    (λ g1. ⊎_elim
    (λ g2. lost_slot vs g.terms (decode vs g.terms z) p.p met.0.p (λ v h. own v (vars_p p v h)) here.1 b.p g2)
    (λ g2. lost_slot vs g.terms (decode vs g.terms z) p.o met.0.o (λ v h. own v (vars_o p v h)) here.2 b.o g2) g1)
    gone

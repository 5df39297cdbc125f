-- Each common pattern has a shape among the candidates of a row, and each candidate has a variable.
use Rattle.std.proofs.Common.{◌≡◌, refl, ℕ, zero, suc, ◌+◌, Bool, true, false, cond, ◌||◌, List, [], ◌∷◌, ◌++◌, map, Option, Some, None, inl, inr, ⊎_elim, sym, ◌∙◌, ap, subst, slice_get, arith}
use Rattle.std.proofs.lemmas.Bool.{eq-eqb}
use Rattle.bye_terms.specs.declared.term.Term.{Term}
use Rattle.bye_terms.specs.Members.{EachOnce, In}
use Rattle.bye_terms.proofs.Lists.{in_map}
use Rattle.bye_terms.proofs.Members.{flat_in, in_flat, in_left, in_right}
use Rattle.bye_terms.proofs.Readings.{some_same}
use Rattle.bye_terms.proofs.Tests.{one_part, second}
use Rattle.bye_table.specs.Mappings.{Mapping, Name}
use Rattle.bye_pattern.specs.declared.slot.Slot.{Slot}
use Rattle.bye_pattern.specs.declared.slot.Slot.TheVariants.{Var, Const}
use Rattle.bye_pattern.specs.Classes.{IsClassTriple}
use Rattle.bye_pattern.specs.Patterns.{IsNamed, Meets, Pattern, slot_under, slot_vars, vars}
use Rattle.bye_pattern.proofs.Solutions.{var_cases}
use Rattle.bye_graph.specs.Graphs.{GraphValue, IsNumbered, statement_of, statements}
use Rattle.bye_graph.specs.Keys.{Key}
use Rattle.bye_strongest.specs.declared.shape.Place.{Place}
use Rattle.bye_strongest.specs.declared.shape.Place.TheVariants.{Hole, Fixed}
use Rattle.bye_strongest.specs.Candidates.{IsCandidate, hole, holes, is_hole, is_number, named, of_key, offered, places, with_objects, with_predicates}
use Rattle.bye_strongest.specs.Numbers.{AreNumbers, Cells, Shape, cell}
use Rattle.bye_strongest.proofs.Places.{IsClassShape, IsPlace, IsShape, in_get, term_cell, used_term}

-- the variables that have a number
has_it : (c : Option ℕ) (n : ℕ) → c ≡ Some n → is_number c n ≡ true
has_it None n e = cc
has_it (Some m) n e = eq-eqb m n (some_same e)

holes_in : (j : ℕ) (e : Cells) (i n : ℕ) → cell e i ≡ Some n → In (holes j e n) (Hole (j + i))
holes_in j [] i n is = cc
holes_in j (c ∷ e) zero n is =
    in_left (hole j c n) (holes (suc j) e n) (Hole (j + zero))
    (subst (λ b. In (cond b (Hole j ∷ []) []) (Hole (j + zero))) (sym (has_it c n is)) (inl (ap Hole (omega arith))))
holes_in j (c ∷ e) (suc i) n is =
    let same : suc j + i ≡ j + suc i = omega arith in
    in_right (hole j c n) (holes (suc j) e n) (Hole (j + suc i)) (subst (λ k. In (holes (suc j) e n) (Hole k)) same (holes_in (suc j) e i n is))

number_in : (e : Cells) (i n : ℕ) → cell e i ≡ Some n → In e (Some n)
number_in [] i n is = cc
number_in (c ∷ e) zero n is = inl is
number_in (c ∷ e) (suc i) n is = inr (number_in e i n is)

-- a place for a slot, among those that the number may have
record HasPlace (vs : List Name) (terms : List Term) (e : Cells) (s : Slot) (n : ℕ) : Type 0 where
  place : Place
  is : IsPlace vs terms s place
  inside : In (places terms e n) place
  variable : (v : Name) → In (slot_vars s) v → (is_hole place ≡ true) × In e (Some n)

place_for : (terms : List Term) (m : Mapping) (vs : List Name) (e : Cells) (s : Slot) (n : ℕ) (t : Term) → EachOnce terms → AreNumbers terms (map m vs) e → ((v : Name) → In (slot_vars s) v → In vs v) → IsNamed s
    → slot_under m s ≡ Some t → slice_get terms n ≡ Some t → HasPlace vs terms e s n
unfolding places
place_for terms m vs e (Var v) n t once all over class is at =
    let w = in_get vs v (over v (inl refl)) in
    let there = term_cell terms m vs e w.0 n v t once all w.1 is at in
    let start : 0 + w.0 ≡ w.0 = omega arith in
    record {
      place = Hole w.0;
      is = w.1;
      inside = in_right (named n (slice_get terms n)) (holes 0 e n) (Hole w.0) (subst (λ k. In (holes 0 e n) (Hole k)) start (holes_in 0 e w.0 n there));
      variable = λ u h. (refl, number_in e w.0 n there);
    }
place_for terms m vs e (Const c) n t once all over class is at =
    let same : slice_get terms n ≡ Some c = at ∙ sym is in
    record {
      place = Fixed n;
      is = same;
      inside = in_left (named n (slice_get terms n)) (holes 0 e n) (Fixed n) (subst (λ o. In (named n o) (Fixed n)) (sym same) (subst (λ b. In (cond b [] (Fixed n ∷ [])) (Fixed n)) (sym class) (inl refl)));
      variable = λ u h. absurd h;
    }

-- the shape of three places with a variable
shape_in : (terms : List Term) (e : Cells) (key : Key) (shape : Shape) → In (places terms e key.0) shape.s → In (places terms e key.1) shape.p → In (places terms e key.2) shape.o
    → (is_hole shape.s || is_hole shape.p || is_hole shape.o) ≡ true → In (of_key terms e key) shape
unfolding of_key
shape_in terms e key shape a b c some =
    flat_in (with_predicates (places terms e key.1) (places terms e key.2)) (places terms e key.0) shape.s shape a
    (flat_in (with_objects (places terms e key.2) shape.s) (places terms e key.1) shape.p shape b
    (flat_in (offered shape.s shape.p) (places terms e key.2) shape.o shape c
    (subst (λ b. In (cond b (shape ∷ []) []) shape) (sym some) (inl refl))))

-- a pattern that becomes a triple under the row has a candidate for its shape
pub candidate_for : (g : GraphValue) (m : Mapping) (vs : List Name) (e : Cells) (p : Pattern) → IsNumbered g → AreNumbers g.terms (map m vs) e → IsClassTriple p → ((v : Name) → In (vars p) v → In vs v)
    → Meets (statements g) m p → (shape : Shape) × IsCandidate g e shape × IsClassShape vs g.terms p shape
candidate_for g m vs e p good all class over (f, inside, becomes) =
    let w = in_map (statement_of g.terms) g.keys f inside in
    let key : Key = w.0 in
    let at = used_term g key f good w.1 w.2 in
    let s = place_for g.terms m vs e p.s key.0 f.s good.terms all (λ v h. over v (in_left _ _ v (in_left _ _ v h))) class.subject becomes.s at.0 in
    let q = place_for g.terms m vs e p.p key.1 f.p good.terms all (λ v h. over v (in_left _ _ v (in_right (slot_vars p.s) _ v h))) class.predicate becomes.p at.1 in
    let o = place_for g.terms m vs e p.o key.2 f.o good.terms all (λ v h. over v (in_right (slot_vars p.s ++ slot_vars p.p) _ v h)) class.object becomes.o at.2 in
    let shape : Shape = record { s = s.place; p = q.place; o = o.place } in
    let made : (is_hole s.place || is_hole q.place || is_hole o.place) ≡ true → In (of_key g.terms e key) shape = λ some. shape_in g.terms e key shape s.inside q.inside o.inside some in (
      shape,
      var_cases p class.variable.0 class.variable.1
          (λ h. let k = s.variable class.variable.0 h in (key.0, k.1, (key, w.1, inl refl, made (first (is_hole s.place || is_hole q.place) (is_hole o.place) (first (is_hole s.place) (is_hole q.place) k.0)))))
          (λ h. let k = q.variable class.variable.0 h in (key.1, k.1, (key, w.1, inr (inl refl), made (first (is_hole s.place || is_hole q.place) (is_hole o.place) (second (is_hole s.place) (is_hole q.place) k.0)))))
          (λ h. let k = o.variable class.variable.0 h in (key.2, k.1, (key, w.1, inr (inr refl), made (second (is_hole s.place || is_hole q.place) (is_hole o.place) k.0)))),
      record { is = record { s = s.is; p = q.is; o = o.is }; subject = class.subject; predicate = class.predicate; object = class.object },
    )
  where
    first : (a b : Bool) → a ≡ true → (a || b) ≡ true
    first a b h = ap (λ a. a || b) h

-- a candidate has a variable
in_offered : (b : Bool) (x y : Shape) → In (cond b (x ∷ []) []) y → (b ≡ true) × (x ≡ y)
in_offered true x y (inl e) = (refl, e)
in_offered true x y (inr h) = absurd h
in_offered false x y h = absurd h

pub candidate_hole : (g : GraphValue) (e : Cells) (shape : Shape) → IsCandidate g e shape → (is_hole shape.s || is_hole shape.p || is_hole shape.o) ≡ true
unfolding of_key
candidate_hole g e shape (n, there, (key, inside, number, made)) =
    let a = in_flat (with_predicates (places g.terms e key.1) (places g.terms e key.2)) (places g.terms e key.0) shape made in
    let b = in_flat (with_objects (places g.terms e key.2) a.0) (places g.terms e key.1) shape a.2 in
    let c = in_flat (offered a.0 b.0) (places g.terms e key.2) shape b.2 in
    let d = in_offered (is_hole a.0 || is_hole b.0 || is_hole c.0) (record { s = a.0; p = b.0; o = c.0 }) shape c.2 in
    subst (λ (shape : Shape). (is_hole shape.s || is_hole shape.p || is_hole shape.o) ≡ true) d.1 d.0

slot_variable : (vs : List Name) (terms : List Term) (s : Slot) (place : Place) → IsPlace vs terms s place → is_hole place ≡ true → (v : Name) × In (slot_vars s) v
slot_variable vs terms (Var v) place is e = (v, inl refl)
slot_variable vs terms (Const c) (Hole i) is e = absurd is
slot_variable vs terms (Const c) (Fixed n) is e = cc

-- and so does its pattern
pub shape_variable : (vs : List Name) (terms : List Term) (p : Pattern) (shape : Shape) → IsShape vs terms p shape → (is_hole shape.s || is_hole shape.p || is_hole shape.o) ≡ true → (v : Name) × In (vars p) v
shape_variable vs terms p shape is some =
    ⊎_elim
    (λ h. ⊎_elim
    (λ h. let w = slot_variable vs terms p.s shape.s is.s h in (w.0, in_left _ _ w.0 (in_left _ _ w.0 w.1)))
    (λ h. let w = slot_variable vs terms p.p shape.p is.p h in (w.0, in_left _ _ w.0 (in_right (slot_vars p.s) _ w.0 w.1)))
    (one_part (is_hole shape.s) (is_hole shape.p) h))
    (λ h. let w = slot_variable vs terms p.o shape.o is.o h in (w.0, in_right (slot_vars p.s ++ slot_vars p.p) _ w.0 w.1))
    (one_part (is_hole shape.s || is_hole shape.p) (is_hole shape.o) some)

-- Patterns and their shapes: what stands in a place under a row, by terms and by numbers.
use Rattle.std.proofs.Common.{◌≡◌, refl, ℕ, zero, suc, ◌<◌, Bool, true, false, cond, ◌&&◌, List, [], ◌∷◌, map, Option, Some, None, inl, inr, sym, ◌∙◌, ap, subst, length, slice_get, arith}
use Rattle.bye_terms.specs.declared.term.Term.{Term}
use Rattle.bye_terms.specs.Members.{EachOnce, In}
use Rattle.bye_terms.specs.Terms.{Statement, is_blank}
use Rattle.bye_terms.proofs.Lists.{in_map, map_in}
use Rattle.bye_terms.proofs.Readings.{some_same}
use Rattle.bye_table.specs.Mappings.{Mapping, Name}
use Rattle.bye_pattern.specs.declared.slot.Slot.{Slot}
use Rattle.bye_pattern.specs.declared.slot.Slot.TheVariants.{Var, Const}
use Rattle.bye_pattern.specs.Patterns.{IsNamed, Meets, Pattern, is_place, slot_under}
use Rattle.bye_graph.specs.Graphs.{GraphValue, IsNumbered, IsUsed, statement_of, statements, term_of}
use Rattle.bye_graph.specs.Keys.{Key}
use Rattle.bye_graph.proofs.Numbers.{get_in, term_at}
use Rattle.bye_strongest.specs.declared.shape.Place.{Place}
use Rattle.bye_strongest.specs.declared.shape.Place.TheVariants.{Hole, Fixed}
use Rattle.bye_strongest.specs.Numbers.{AreNumbers, Cells, IsNumberOf, MeetsShape, Shape, cell, under}
use Rattle.bye_strongest.specs.Patterns.{constant_of, pattern_of, pattern_of_slots, slot_of, var_of}

-- places of lists
pub got_in : {X : Type 0} (xs : List X) (i : ℕ) (x : X) → slice_get xs i ≡ Some x → In xs x
got_in [] i x e = cc
got_in (y ∷ xs) zero x e = inl (some_same e)
got_in (y ∷ xs) (suc i) x e = inr (got_in xs i x e)

pub get_once : {X : Type 0} (xs : List X) (i j : ℕ) (x : X) → EachOnce xs → slice_get xs i ≡ Some x → slice_get xs j ≡ Some x → i ≡ j
get_once [] i j x once a b = cc
get_once (y ∷ xs) zero zero x once a b = refl
get_once (y ∷ xs) zero (suc j) x once a b = absurd (once.0 (subst (In xs) (sym (some_same a)) (got_in xs j x b)))
get_once (y ∷ xs) (suc i) zero x once a b = absurd (once.0 (subst (In xs) (sym (some_same b)) (got_in xs i x a)))
get_once (y ∷ xs) (suc i) (suc j) x once a b = ap suc (get_once xs i j x once.1 a b)

pub in_get : {X : Type 0} (xs : List X) (x : X) → In xs x → (i : ℕ) × (slice_get xs i ≡ Some x)
in_get [] x h = absurd h
in_get (y ∷ xs) x (inl e) = (zero, ap Some e)
in_get (y ∷ xs) x (inr h) = let w = in_get xs x h in (suc w.0, w.1)

get_below : (ts : List Term) (n : ℕ) → n < length ts → slice_get ts n ≡ Some (term_of ts n)
get_below [] n l = absurd (omega arith)
get_below (t ∷ ts) zero l = refl
get_below (t ∷ ts) (suc n) l = get_below ts n (omega arith)

-- the place of a slot
abbrev pub IsPlace : List Name → List Term → Slot → Place → Type 0
IsPlace vs terms (Var v) (Hole i) = slice_get vs i ≡ Some v
IsPlace vs terms (Const c) (Fixed n) = slice_get terms n ≡ Some c
IsPlace vs terms (Var v) (Fixed n) = ⊥
IsPlace vs terms (Const c) (Hole i) = ⊥

var_place : (vs : List Name) (terms : List Term) (i : ℕ) (o : Option Name) (s : Slot) → slice_get vs i ≡ o → var_of o ≡ Some s → IsPlace vs terms s (Hole i) × IsNamed s
var_place vs terms i None s is e = cc
var_place vs terms i (Some v) s is e = subst (λ s. IsPlace vs terms s (Hole i) × IsNamed s) (some_same e) (is, tt)

constant_place : (vs : List Name) (terms : List Term) (n : ℕ) (o : Option Term) (s : Slot) → slice_get terms n ≡ o → constant_of o ≡ Some s → IsPlace vs terms s (Fixed n) × IsNamed s
constant_place vs terms n None s is e = cc
constant_place vs terms n (Some t) s is e = one (is_blank t) refl e
  where
    one : (b : Bool) → is_blank t ≡ b → cond b None (Some (Const t)) ≡ Some s → IsPlace vs terms s (Fixed n) × IsNamed s
    one true blank e = cc
    one false blank e = subst (λ s. IsPlace vs terms s (Fixed n) × IsNamed s) (some_same e) (is, blank)

-- what a place is made of
pub slot_place : (vs : List Name) (terms : List Term) (place : Place) (s : Slot) → slot_of vs terms place ≡ Some s → IsPlace vs terms s place × IsNamed s
slot_place vs terms (Hole i) s e = var_place vs terms i (slice_get vs i) s refl e
slot_place vs terms (Fixed n) s e = constant_place vs terms n (slice_get terms n) s refl e

pub place_slot : (vs : List Name) (terms : List Term) (place : Place) (s : Slot) → IsPlace vs terms s place → IsNamed s → slot_of vs terms place ≡ Some s
place_slot vs terms (Hole i) (Var v) is named = ap var_of is
place_slot vs terms (Fixed n) (Const c) is named = ap constant_of is ∙ ap (λ b. cond b None (Some (Const c))) named
place_slot vs terms (Hole i) (Const c) is named = absurd is
place_slot vs terms (Fixed n) (Var v) is named = absurd is

-- the number of a term, both ways
number_term : (terms : List Term) (o : Option Term) (c : Option ℕ) (n : ℕ) → IsNumberOf terms o c → c ≡ Some n → (t : Term) × (o ≡ Some t) × (slice_get terms n ≡ Some t)
number_term terms None None n is e = cc
number_term terms None (Some k) n is e = absurd is
number_term terms (Some t) None n is e = cc
number_term terms (Some t) (Some k) n is e = (t, refl, subst (λ k. slice_get terms k ≡ Some t) (some_same e) is)

term_number : (terms : List Term) (o : Option Term) (c : Option ℕ) (n : ℕ) (t : Term) → EachOnce terms → IsNumberOf terms o c → o ≡ Some t → slice_get terms n ≡ Some t → c ≡ Some n
term_number terms None c n t once is e at = cc
term_number terms (Some s) None n t once is e at = absurd (is (subst (In terms) (sym (some_same e)) (get_in terms n t at)))
term_number terms (Some s) (Some k) n t once is e at = ap Some (get_once terms k n t once (is ∙ e) at)

-- the cell of a variable, both ways
cell_term : (terms : List Term) (m : Mapping) (vs : List Name) (e : Cells) (i n : ℕ) (v : Name) → AreNumbers terms (map m vs) e → slice_get vs i ≡ Some v → cell e i ≡ Some n
    → (t : Term) × (m v ≡ Some t) × (slice_get terms n ≡ Some t)
cell_term terms m [] e i n v all at is = cc
cell_term terms m (w ∷ vs) [] i n v all at is = absurd all
cell_term terms m (w ∷ vs) (c ∷ e) zero n v all at is = let k = number_term terms (m w) c n all.0 is in (k.0, ap m (sym (some_same at)) ∙ k.1, k.2)
cell_term terms m (w ∷ vs) (c ∷ e) (suc i) n v all at is = cell_term terms m vs e i n v all.1 at is

pub term_cell : (terms : List Term) (m : Mapping) (vs : List Name) (e : Cells) (i n : ℕ) (v : Name) (t : Term) → EachOnce terms → AreNumbers terms (map m vs) e → slice_get vs i ≡ Some v → m v ≡ Some t
    → slice_get terms n ≡ Some t → cell e i ≡ Some n
term_cell terms m [] e i n v t once all at is there = cc
term_cell terms m (w ∷ vs) [] i n v t once all at is there = absurd all
term_cell terms m (w ∷ vs) (c ∷ e) zero n v t once all at is there = term_number terms (m w) c n t once all.0 (ap m (some_same at) ∙ is) there
term_cell terms m (w ∷ vs) (c ∷ e) (suc i) n v t once all at is there = term_cell terms m vs e i n v t once all.1 at is there

-- what stands in a place, both ways
under_slot : (terms : List Term) (m : Mapping) (vs : List Name) (e : Cells) (s : Slot) (place : Place) (n : ℕ) → AreNumbers terms (map m vs) e → IsPlace vs terms s place → under e place ≡ Some n
    → (t : Term) × (slot_under m s ≡ Some t) × (slice_get terms n ≡ Some t)
under_slot terms m vs e (Var v) (Hole i) n all at is = cell_term terms m vs e i n v all at is
under_slot terms m vs e (Const c) (Fixed k) n all at is = (c, refl, subst (λ k. slice_get terms k ≡ Some c) (some_same is) at)
under_slot terms m vs e (Var v) (Fixed k) n all at is = absurd at
under_slot terms m vs e (Const c) (Hole i) n all at is = absurd at

slot_under_place : (terms : List Term) (m : Mapping) (vs : List Name) (e : Cells) (s : Slot) (place : Place) (n : ℕ) (t : Term) → EachOnce terms → AreNumbers terms (map m vs) e → IsPlace vs terms s place
    → slot_under m s ≡ Some t → slice_get terms n ≡ Some t → under e place ≡ Some n
slot_under_place terms m vs e (Var v) (Hole i) n t once all at is there = term_cell terms m vs e i n v t once all at is there
slot_under_place terms m vs e (Const c) (Fixed k) n t once all at is there = ap Some (get_once terms k n t once (at ∙ is) there)
slot_under_place terms m vs e (Var v) (Fixed k) n t once all at is there = absurd at
slot_under_place terms m vs e (Const c) (Hole i) n t once all at is there = absurd at

-- the shape of a pattern
pub record IsShape (vs : List Name) (terms : List Term) (pattern : Pattern) (shape : Shape) : Type 0 where
  pub s : IsPlace vs terms pattern.s shape.s
  pub p : IsPlace vs terms pattern.p shape.p
  pub o : IsPlace vs terms pattern.o shape.o

-- the term of a number of a triple
pub used_term : (g : GraphValue) (key : Key) (f : Statement) → IsNumbered g → In g.keys key → statement_of g.terms key ≡ f → (slice_get g.terms key.0 ≡ Some f.s) × (slice_get g.terms key.1 ≡ Some f.p) × (slice_get g.terms key.2 ≡ Some f.o)
used_term g key f good inside is =
    let used : IsUsed g.terms key = good.used key inside in (
      get_below g.terms key.0 used.0 ∙ ap (λ f. Some f.s) is,
      get_below g.terms key.1 used.1 ∙ ap (λ f. Some f.p) is,
      get_below g.terms key.2 used.2 ∙ ap (λ f. Some f.o) is,
    )

-- a shape holds under a row where its pattern does
pub shape_meets : (g : GraphValue) (m : Mapping) (vs : List Name) (e : Cells) (p : Pattern) (shape : Shape) → AreNumbers g.terms (map m vs) e → IsShape vs g.terms p shape → MeetsShape g.keys shape e
    → Meets (statements g) m p
shape_meets g m vs e p shape all is (key, inside, stands) =
    let s = under_slot g.terms m vs e p.s shape.s key.0 all is.s stands.s in
    let q = under_slot g.terms m vs e p.p shape.p key.1 all is.p stands.p in
    let o = under_slot g.terms m vs e p.o shape.o key.2 all is.o stands.o in (
      statement_of g.terms key,
      map_in (statement_of g.terms) g.keys key inside,
      record {
        s = s.1 ∙ ap Some (sym (term_at g.terms key.0 s.0 s.2));
        p = q.1 ∙ ap Some (sym (term_at g.terms key.1 q.0 q.2));
        o = o.1 ∙ ap Some (sym (term_at g.terms key.2 o.0 o.2));
      },
    )

pub meets_shape : (g : GraphValue) (m : Mapping) (vs : List Name) (e : Cells) (p : Pattern) (shape : Shape) → IsNumbered g → AreNumbers g.terms (map m vs) e → IsShape vs g.terms p shape
    → Meets (statements g) m p → MeetsShape g.keys shape e
meets_shape g m vs e p shape good all is (f, inside, becomes) =
    let w = in_map (statement_of g.terms) g.keys f inside in
    let at = used_term g w.0 f good w.1 w.2 in (
      w.0,
      w.1,
      record {
        s = slot_under_place g.terms m vs e p.s shape.s w.0.0 f.s good.terms all is.s becomes.s at.0;
        p = slot_under_place g.terms m vs e p.p shape.p w.0.1 f.p good.terms all is.p becomes.p at.1;
        o = slot_under_place g.terms m vs e p.o shape.o w.0.2 f.o good.terms all is.o becomes.o at.2;
      },
    )

-- the pattern of a shape
three_slots : (a b c : Option Slot) (p : Pattern) → pattern_of_slots a b c ≡ Some p → (a ≡ Some p.s) × (b ≡ Some p.p) × (c ≡ Some p.o)
three_slots None b c p e = cc
three_slots (Some s) None c p e = cc
three_slots (Some s) (Some q) None p e = cc
three_slots (Some s) (Some q) (Some o) p e = one (is_place s && is_place q) e
  where
    one : (b : Bool) → cond b (Some (record { s = s; p = q; o = o })) None ≡ Some p → (Some s ≡ Some p.s) × (Some q ≡ Some p.p) × (Some o ≡ Some p.o)
    one true e = let same = some_same e in (ap (λ p. Some p.s) same, ap (λ p. Some p.p) same, ap (λ p. Some p.o) same)
    one false e = cc

slots_three : (a b c : Option Slot) (p : Pattern) → a ≡ Some p.s → b ≡ Some p.p → c ≡ Some p.o → is_place p.s ≡ true → is_place p.p ≡ true → pattern_of_slots a b c ≡ Some p
slots_three a b c p x y z s q = (λ i. pattern_of_slots (x i) (y i) (z i)) ∙ (λ i. cond (s i && q i) (Some p) None)

pub record IsClassShape (vs : List Name) (terms : List Term) (p : Pattern) (shape : Shape) : Type 0 where
  pub is : IsShape vs terms p shape
  pub subject : IsNamed p.s
  pub predicate : IsNamed p.p
  pub object : IsNamed p.o

pub pattern_shape : (vs : List Name) (terms : List Term) (shape : Shape) (p : Pattern) → pattern_of vs terms shape ≡ Some p → IsClassShape vs terms p shape
pattern_shape vs terms shape p e =
    let w = three_slots (slot_of vs terms shape.s) (slot_of vs terms shape.p) (slot_of vs terms shape.o) p e in
    let s = slot_place vs terms shape.s p.s w.0 in
    let q = slot_place vs terms shape.p p.p w.1 in
    let o = slot_place vs terms shape.o p.o w.2 in
    record { is = record { s = s.0; p = q.0; o = o.0 }; subject = s.1; predicate = q.1; object = o.1 }

pub shape_pattern : (vs : List Name) (terms : List Term) (shape : Shape) (p : Pattern) → IsClassShape vs terms p shape → is_place p.s ≡ true → is_place p.p ≡ true → pattern_of vs terms shape ≡ Some p
shape_pattern vs terms shape p is s q =
    slots_three (slot_of vs terms shape.s) (slot_of vs terms shape.p) (slot_of vs terms shape.o) p (place_slot vs terms shape.s p.s is.is.s is.subject) (place_slot vs terms shape.p p.p is.is.p is.predicate)
    (place_slot vs terms shape.o p.o is.is.o is.object) s q

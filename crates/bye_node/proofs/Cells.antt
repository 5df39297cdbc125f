-- Mappings by numbers, and triples put into them.
use Rattle.std.proofs.Common.{◌≡◌, refl, ℕ, zero, suc, ◌<◌, Bool, true, false, cond, ◌==◌, nat_lt, List, [], ◌∷◌, Option, Some, None, ◌⊎◌, inl, inr, ⊎_elim, ◌↔◌, sym, ◌∙◌, ap, subst, IsSome, length, get_or, set, arith}
use Rattle.std.proofs.lemmas.List.{get_or-set_same, get_or-set_other, get_or_past, same_lists, set-set, set-get_or}
use Rattle.std.proofs.Math.ListN.{length-set}
use Rattle.std.proofs.lemmas.Bool.{eqb-true, eq-eqb, cases_lt}
use Rattle.std.proofs.lemmas.Bool.Decides.{eqb_tells}
use borrow.Author.Tests.{ltb-true}
use Rattle.bye_graph.specs.Keys.{Key, IsGiven}
use Rattle.bye_node.specs.declared.env.Place.{Place}
use Rattle.bye_node.specs.declared.env.Place.TheVariants.{Hole, Fixed}
use Rattle.bye_node.specs.declared.pin.Pin.TheVariants.{Free, Must, Never}
use Rattle.bye_node.specs.Envs.{Cells, Shape, cell, under, bind, bind_hole, then_bind, bind_key, Grows, IsHole, HasHole, Stands, Fills}
use Rattle.bye_node.specs.Pins.{AgreesWith, Allows, AllowsAt, AllowsKey, IsShut, IsShutAt, Pin, asked, first_number, given, pin_at}

-- a number that was put into an open cell, and taken out again
pub put_back : (e : Cells) (i n : ℕ) → cell e i ≡ None → set (set e i (Some n)) i None ≡ e
put_back e i n none = set-set e i (Some n) None ∙ ap (set e i) (sym none) ∙ set-get_or e i None

lt_test : (i n : ℕ) → i < n → nat_lt i n ≡ true
lt_test i n l = grind (arith, Rattle.std.proofs.lemmas.Bool.Decides.nat_tests)

-- an open cell is bound and can be opened again
pub open_bound : (e now : Cells) (i n : ℕ) (o : Option ℕ) → o ≡ cell e i → o ≡ None → i < length now → now ≡ e
    → (bind_hole e i n (cell e i) ≡ Some (set now i (Some n))) × (set (set now i (Some n)) i None ≡ e)
open_bound e now i n o is none within same =
    let l : i < length e = subst (λ e. i < length e) same within in
    let free : cell e i ≡ None = sym is ∙ none in (
      ap (bind_hole e i n) free ∙ ap (λ b. cond b (Some (set e i (Some n))) None) (lt_test i (length e) l) ∙ ap (λ x. Some (set x i (Some n))) (sym same),
      ap (λ x. set (set x i (Some n)) i None) same ∙ put_back e i n free,
    )

pub grows_self : (e : Cells) → Grows e e
grows_self e = record { len = refl; keeps = λ i n h. h }

pub grows_more : (e m z : Cells) → Grows e m → Grows m z → Grows e z
grows_more e m z x y = record { len = y.len ∙ x.len; keeps = λ i n h. y.keeps i n (x.keeps i n h) }

pub some_in : {X : Type 0} (o : Option X) → IsSome o → (x : X) × (o ≡ Some x)
some_in None h = cc
some_in (Some x) h = (x, refl)

pub in_some : {X : Type 0} (o : Option X) (x : X) → o ≡ Some x → IsSome o
in_some o x e = subst (λ o. IsSome o) (sym e) refl

pub none_or_some : {X : Type 0} (o : Option X) → (o ≡ None) ⊎ ((x : X) × (o ≡ Some x))
none_or_some None = inl refl
none_or_some (Some x) = inr (x, refl)

pub same_some : {X : Type 0} (x y : X) → ◌≡◌ {A = Option X} (Some x) (Some y) → x ≡ y
same_some x y e = cc

pub not_none : {X : Type 0} (x : X) → ◌≡◌ {A = Option X} None (Some x) → ⊥
not_none x e = cc

cond_some : {X : Type 0} (b : Bool) (x m : X) → cond b (Some x) None ≡ Some m → (b ≡ true) × (x ≡ m)
cond_some true x m e = (refl, cc)
cond_some false x m e = cc

-- m is e with the number in the place
record IsPut (e : Cells) (p : Place) (n : ℕ) (m : Cells) : Type 0 where
  grows : Grows e m
  stands : under m p ≡ Some n
  within : (i : ℕ) → IsSome (cell m i) → IsSome (cell e i) ⊎ IsHole p i

set_put : (e : Cells) (i n : ℕ) → cell e i ≡ None → i < length e → IsPut e (Hole i) n (set e i (Some n))
set_put e i n none l = record {
  grows = record {
    len = length-set e i (Some n);
    keeps = λ j k h. ⊎_elim
        (λ same. let bad : None ≡ Some k = sym (subst (λ j. cell e j ≡ None) (sym same.1) none) ∙ h in absurd (not_none k bad))
        (λ other. get_or-set_other e i j (Some n) None other.1 ∙ h)
        (eqb_tells j i);
  };
  stands = get_or-set_same e i (Some n) None l;
  within = λ j h. ⊎_elim
      (λ same. inr (sym same.1))
      (λ other. inl (subst (λ o. IsSome o) (get_or-set_other e i j (Some n) None other.1) h))
      (eqb_tells j i);
}

hole_put : (e m : Cells) (i n : ℕ) (c : Option ℕ) → cell e i ≡ c → bind_hole e i n c ≡ Some m → IsPut e (Hole i) n m
hole_put e m i n None is h =
    let w = cond_some (nat_lt i (length e)) (set e i (Some n)) m h in
    subst (λ m. IsPut e (Hole i) n m) w.1 (set_put e i n is (ltb-true i (length e) w.0))
hole_put e m i n (Some k) is h =
    let w = cond_some (k == n) e m h in
    subst (λ m. IsPut e (Hole i) n m) w.1 (record { grows = grows_self e; stands = is ∙ ap Some (eqb-true k n w.0); within = λ j g. inl g })

bind_put : (e m : Cells) (p : Place) (n : ℕ) → bind e p n ≡ Some m → IsPut e p n m
bind_put e m (Hole i) n h = hole_put e m i n (cell e i) refl h
bind_put e m (Fixed k) n h =
    let w = cond_some (k == n) e m h in
    subst (λ m. IsPut e (Fixed k) n m) w.1 (record { grows = grows_self e; stands = ap Some (eqb-true k n w.0); within = λ j g. inl g })

-- where a place has a number in a mapping that grows from e, e can be bound to it
below_len : (z : Cells) (i n : ℕ) → cell z i ≡ Some n → i < length z
below_len z i n h = ⊎_elim (λ l. l) (λ g. absurd (not_none n (sym (get_or_past z i None g) ∙ h))) (cases_lt i (length z))

hole_can : (e z : Cells) (i n : ℕ) (c : Option ℕ) → cell e i ≡ c → Grows e z → cell z i ≡ Some n → (m : Cells) × (bind_hole e i n c ≡ Some m) × Grows m z
hole_can e z i n None is up h =
    let l : i < length e = subst (λ k. i < k) up.len (below_len z i n h) in (
      set e i (Some n),
      ap (λ b. cond b (Some (set e i (Some n))) None) (lt_test i (length e) l),
      record {
        len = up.len ∙ sym (length-set e i (Some n));
        keeps = λ j k g. ⊎_elim
            (λ same. subst (λ j. cell z j ≡ Some k) (sym same.1)
            (h ∙ sym (get_or-set_same e i (Some n) None l) ∙ subst (λ j. cell (set e i (Some n)) j ≡ Some k) same.1 g))
            (λ other. up.keeps j k (sym (get_or-set_other e i j (Some n) None other.1) ∙ g))
            (eqb_tells j i);
      },
    )
hole_can e z i n (Some k) is up h =
    (e, ap (λ b. cond b (Some e) None) (eq-eqb k n (same_some k n (sym (up.keeps i k is) ∙ h))), up)

bind_can : (e z : Cells) (p : Place) (n : ℕ) → Grows e z → under z p ≡ Some n → (m : Cells) × (bind e p n ≡ Some m) × Grows m z
bind_can e z (Hole i) n up h = hole_can e z i n (cell e i) refl up h
bind_can e z (Fixed k) n up h = (e, ap (λ b. cond b (Some e) None) (eq-eqb k n (same_some k n h)), up)

pub under_grown : (e z : Cells) (p : Place) (n : ℕ) → Grows e z → under e p ≡ Some n → under z p ≡ Some n
under_grown e z (Hole i) n up h = up.keeps i n h
under_grown e z (Fixed k) n up h = h

-- m is e with the triple in the places of the shape
pub record IsTaken (e : Cells) (shape : Shape) (key : Key) (m : Cells) : Type 0 where
  pub grows : Grows e m
  pub stands : Stands m shape key
  pub within : (i : ℕ) → IsSome (cell m i) → IsSome (cell e i) ⊎ HasHole shape i

then_some : (o : Option Cells) (p : Place) (n : ℕ) (m : Cells) → then_bind o p n ≡ Some m → (x : Cells) × (o ≡ Some x) × (bind x p n ≡ Some m)
then_some None p n m h = cc
then_some (Some x) p n m h = (x, refl, h)

pub bind_taken : (e m : Cells) (shape : Shape) (key : Key) → bind_key e shape key ≡ Some m → IsTaken e shape key m
bind_taken e m shape key h =
    let w = then_some (then_bind (bind e shape.s key.0) shape.p key.1) shape.o key.2 m h in
    let v = then_some (bind e shape.s key.0) shape.p key.1 w.0 w.1 in
    let a = bind_put e v.0 shape.s key.0 v.1 in
    let b = bind_put v.0 w.0 shape.p key.1 v.2 in
    let c = bind_put w.0 m shape.o key.2 w.2 in
    let bc = grows_more v.0 w.0 m b.grows c.grows in
    record {
      grows = grows_more e v.0 m a.grows bc;
      stands = (under_grown v.0 m shape.s key.0 bc a.stands, under_grown w.0 m shape.p key.1 c.grows b.stands, c.stands);
      within = λ i g. ⊎_elim (λ g. ⊎_elim (λ g. ⊎_elim inl (λ g. inr (inl g)) (a.within i g)) (λ g. inr (inr (inl g))) (b.within i g)) (λ g. inr (inr (inr g))) (c.within i g);
    }

pub can_take : (e z : Cells) (shape : Shape) (key : Key) → Grows e z → Stands z shape key → (m : Cells) × (bind_key e shape key ≡ Some m) × Grows m z
can_take e z shape key up (s, q, o) =
    let a = bind_can e z shape.s key.0 up s in
    let b = bind_can a.0 z shape.p key.1 a.2 q in
    let c = bind_can b.0 z shape.o key.2 b.2 o in
    (c.0, ap (λ x. then_bind (then_bind x shape.p key.1) shape.o key.2) a.1 ∙ ap (λ x. then_bind x shape.o key.2) b.1 ∙ c.1, c.2)

hole_some : (m : Cells) (p : Place) (n i : ℕ) → under m p ≡ Some n → IsHole p i → IsSome (cell m i)
hole_some m (Hole j) n i h is = subst (λ j. IsSome (cell m j)) is (in_some (cell m j) n h)
hole_some m (Fixed k) n i h is = absurd is

pub holes_some : (m : Cells) (shape : Shape) (key : Key) (i : ℕ) → Stands m shape key → HasHole shape i → IsSome (cell m i)
holes_some m shape key i (s, q, o) h = ⊎_elim (hole_some m shape.s key.0 i s) (λ h. ⊎_elim (hole_some m shape.p key.1 i q) (hole_some m shape.o key.2 i o) h) h

-- what stands in the places of a mapping that agrees with the pins is what is given there
allowed_given : (pin : Pin) (n : ℕ) → Allows pin n → IsGiven (asked pin) n
allowed_given Free n h = tt
allowed_given (Must m) n h = h
allowed_given Never n h = absurd h

pub stands_given : (pins : List Pin) (e z : Cells) (p : Place) (n : ℕ) → Grows e z → AgreesWith pins z → under z p ≡ Some n → IsGiven (given e pins p) n
stands_given pins e z (Hole i) n up agrees h = ⊎_elim
    (λ none. subst (λ o. IsGiven (first_number o (asked (pin_at pins i))) n) (sym none) (allowed_given (pin_at pins i) n (agrees.allowed i n h)))
    (λ w. let same : n ≡ w.0 = same_some n w.0 (sym h ∙ up.keeps i w.0 w.1) in subst (λ o. IsGiven (first_number o (asked (pin_at pins i))) n) (sym w.1) same)
    (none_or_some (cell e i))
stands_given pins e z (Fixed k) n up agrees h = same_some n k (sym h)

pub agrees_free : (z : Cells) → AgreesWith [] z
agrees_free z = record { allowed = λ i n h. tt }

-- where a hole is shut nothing stands
shut_at : (pins : List Pin) (e z : Cells) (p : Place) (n : ℕ) → IsShutAt pins e p → AgreesWith pins z → under z p ≡ Some n → ⊥
shut_at pins e z (Hole i) n (none, never) agrees h = subst (λ pin. Allows pin n) never (agrees.allowed i n h)
shut_at pins e z (Fixed k) n shut agrees h = shut

pub shut_none : (pins : List Pin) (e z : Cells) (shape : Shape) (key : Key) → IsShut pins e shape → AgreesWith pins z → Stands z shape key → ⊥
shut_none pins e z shape key shut agrees (s, p, o) =
    ⊎_elim (λ h. shut_at pins e z shape.s key.0 h agrees s) (λ h. ⊎_elim (λ h. shut_at pins e z shape.p key.1 h agrees p) (λ h. shut_at pins e z shape.o key.2 h agrees o) h) shut

-- an allowed triple keeps a mapping in agreement
hole_allowed : (pins : List Pin) (m : Cells) (p : Place) (k i n : ℕ) → AllowsAt pins p k → under m p ≡ Some k → IsHole p i → cell m i ≡ Some n → Allows (pin_at pins i) n
hole_allowed pins m (Hole j) k i n allows h is at =
    let same : k ≡ n = same_some k n (sym h ∙ subst (λ i. cell m i ≡ Some n) (sym is) at) in
    subst (λ i. Allows (pin_at pins i) n) is (subst (λ n. Allows (pin_at pins j) n) same allows)
hole_allowed pins m (Fixed l) k i n allows h is at = absurd is

pub taken_agrees : (pins : List Pin) (e m : Cells) (shape : Shape) (key : Key) → AgreesWith pins e → AllowsKey pins shape key → IsTaken e shape key m → AgreesWith pins m
taken_agrees pins e m shape key agrees (s, p, o) t = record {
  allowed = λ i n h. ⊎_elim
      (λ there. let c = some_in (cell e i) there in
      let same : c.0 ≡ n = same_some c.0 n (sym (t.grows.keeps i c.0 c.1) ∙ h) in
      subst (λ n. Allows (pin_at pins i) n) same (agrees.allowed i c.0 c.1))
      (λ hole. ⊎_elim (λ is. hole_allowed pins m shape.s key.0 i n s t.stands.0 is h)
      (λ hole. ⊎_elim (λ is. hole_allowed pins m shape.p key.1 i n p t.stands.1 is h) (λ is. hole_allowed pins m shape.o key.2 i n o t.stands.2 is h) hole) hole)
      (t.within i (in_some (cell m i) n h));
}

get_or_any : {X : Type 0} (xs : List X) (k : ℕ) (d e : X) → k < length xs → get_or xs k d ≡ get_or xs k e
get_or_any [] k d e l = absurd (omega arith)
get_or_any (x ∷ xs) zero d e l = refl
get_or_any (x ∷ xs) (suc k) d e l = get_or_any xs k d e (omega arith)

-- no shapes, nothing to fill
pub fills_none : (keys : List Key) (e z : Cells) → Fills keys e [] z ↔ (z ≡ e)
fills_none keys e z = (
  λ f. same_lists z e f.grows.len (λ k d l. get_or_any z k d None l ∙ same f k ∙ sym (get_or_any e k d None (subst (λ n. k < n) f.grows.len l))),
  λ s. subst (λ z. Fills keys e [] z) (sym s) (record { grows = grows_self e; within = λ i h. inl h; meets = λ p i. absurd i }),
)
  where
    both_no : (o : Option ℕ) → o ≡ None → IsSome o → ⊥
    both_no o e h = let g = subst (λ o. IsSome o) e h in cc

    same : Fills keys e [] z → (k : ℕ) → cell z k ≡ cell e k
    same f k = ⊎_elim
        (λ none. ⊎_elim (λ gone. gone ∙ sym none)
        (λ w. ⊎_elim (λ h. absurd (both_no (cell e k) none h)) (λ h. absurd h.1) (f.within k (in_some (cell z k) w.0 w.1)))
        (none_or_some (cell z k)))
        (λ w. f.grows.keeps k w.0 w.1 ∙ sym w.1)
        (none_or_some (cell e k))

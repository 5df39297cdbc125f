-- A reader of all tokens answers by the grammar, whatever the depth of brackets.
use Rattle.std.proofs.Common.{◌≡◌, refl, ℕ, zero, suc, ◌+◌, ◌≤◌, Bool, List, ◌∷◌, [], ◌++◌, Option, Some, None, inl, inr, ⊎_elim, ◌↔◌, sym, ◌∙◌, ap, subst, append_assoc, arith, length, length-append}
use Rattle.std.proofs.lemmas.List.{append-nil, append_cancel_right}
use Rattle.bye_parts.specs.Parts.{Part, any}
use Rattle.bye_parts.specs.Readers.{Outcome, Reader, Got, Wrong, Deep, to_end, left_of}
use Rattle.bye_parts.specs.Brackets.{Turn, Opens, Closes, Plain, turned, onto, room, IsWithin}
use Rattle.bye_parts.specs.Answers.{DeepToken, Answers, Comes}
use Rattle.bye_parts.proofs.Cuts.{heads, last_cut, last_alone}
use Rattle.bye_parts.proofs.TokenKinds.{Kinds, turn_by}
use Rattle.bye_parts.proofs.Shapes.{Shape, shape_any}
use Rattle.bye_parts.proofs.Forth.{Past}
use Rattle.bye_parts.proofs.Back.{Shown}
use Rattle.bye_parts.proofs.Rooms.{Keeps, room_join}
use Rattle.bye_parts.proofs.Rules.{Reads}

-- no more brackets are open than there are tokens
room_bound : {T : Type 0} (turn : T → Turn) (n k : ℕ) (ts : List T) → room turn n ts ≡ Some k → n ≤ k + length ts
room_bound turn n k [] e = let h : n ≡ k = cc in omega (arith, h)
room_bound {T} turn n k (c ∷ cs) e = after (turn c) n (λ m h. room_bound turn m k cs h) e
  where
    after : (t : Turn) (n : ℕ) → ((m : ℕ) → room turn m cs ≡ Some k → m ≤ k + length cs) → onto (turned t n) (λ m. room turn m cs) ≡ Some k → n ≤ k + length (c ∷ cs)
    after Plain n ih e = let h = ih n e in omega (arith, h)
    after Closes n ih e = let h = ih (suc n) e in omega (arith, h)
    after Opens zero ih e = omega arith
    after Opens (suc n) ih e = let h = ih n e in omega (arith, h)

-- where a bracket is opened at the limit, there is no room
pub no_room : {T : Type 0} (turn : T → Turn) (n k : ℕ) (own more : List T) (c : T) → room turn n own ≡ Some 0 → turn c ≡ Opens → room turn n ((own ++ c ∷ []) ++ more) ≡ Some k → ⊥
no_room turn n k own more c full opens e =
    let there : room turn n ((own ++ c ∷ []) ++ more) ≡ onto (turned (turn c) 0) (λ m. room turn m more) = ap (λ ts. room turn n ts) (append_assoc own (c ∷ []) more) ∙ room_join turn n 0 own (c ∷ more) full in
    let none : onto (turned (turn c) 0) (λ m. room turn m more) ≡ None = ap (λ t. onto (turned t 0) (λ m. room turn m more)) opens in
    let r : ◌≡◌ {A = Option ℕ} None (Some k) = sym none ∙ sym there ∙ e in cc

module _ {T V : Type 0} {K : Kinds T} {m : Bool} {F G : List ℕ} (P : ℕ → Part T V) (p : ℕ → Reader T V) (reads : (d b : ℕ) → Reads K m F G (P d) (P (suc b)) (p b) b b) where
  shape : Shape K m F (any P)
  shape = shape_any (λ d. (reads d 0).shape)

  -- a token that a front has is not left over
  not_left : (n : ℕ) (front : List T) (c : T) (cs ts : List T) (o : Outcome T V) → ts ≡ front ++ c ∷ cs → p n ts ≡ o → (any P).front (front ++ c ∷ []) → Past cs o
  not_left n front c cs ts o e is h =
      let cut : ts ≡ (front ++ c ∷ []) ++ cs = e ∙ sym (append_assoc front (c ∷ []) cs) in
      subst (λ (o : Outcome T V). Past cs o) (sym (ap (p n) cut) ∙ is) ((reads h.0 n).forth.far (front ++ c ∷ []) cs h.1)

  no_longer : (c : T) (cs : List T) → length (c ∷ cs) ≤ length cs → ⊥
  no_longer c cs h = omega (arith, h)

  left_over : (n : ℕ) (front : List T) (d : T) (ds left ts : List T) (o : Outcome T V) → ts ≡ front ++ left → p n ts ≡ o → left ≡ d ∷ ds → (any P).front (front ++ d ∷ []) → (Past ds o → length left ≤ length ds) → ⊥
  left_over n front d ds left ts o parts is e h past =
      no_longer d ds (subst (λ l. length l ≤ length ds) e (past (not_left n front d ds ts o (parts ∙ ap (λ l. front ++ l) e) is h)))

  comes_wrong : (o : Outcome T V) (v : V) (left : List T) → Comes o v [] → o ≡ Wrong left → ⊥
  comes_wrong o v left h e = ⊎_elim (λ (k : o ≡ Got v []). let x = sym k ∙ e in let y : ⊥ = cc in y) (λ (k : (r : List T) × (o ≡ Deep r)). let x = sym k.1 ∙ e in let y : ⊥ = cc in y) h

  came : (n : ℕ) (ts : List T) (v : V) → (any P).derives ts v → Comes (p n ts) v []
  came n ts v h = subst (λ ts. Comes (p n ts) v []) (append-nil ts) ((reads h.0 n).forth.got ts [] v h.1 tt)

  answer : (n : ℕ) (ts : List T) (o : Outcome T V) → p n ts ≡ o → Shown (P (suc n)) ts o → Keeps (turn_by K) n n ts o → Answers (any P) (turn_by K) n ts (to_end o)
  answer n ts (Got v []) is k r = (refl, (suc n, subst (λ ts. (P (suc n)).derives ts v) (sym (k.1 ∙ append-nil k.0)) k.2), (n, ap (room (turn_by K) n) (r.1 ∙ append-nil r.0) ∙ r.2))
  answer n ts (Got v (c ∷ cs)) is k r = record {
    front = k.0;
    parts = k.1;
    before = (suc n, (reads (suc n) n).shape.whole k.0 v k.2);
    whole = λ e w h. cc;
    after = λ d ds e h. left_over n k.0 d ds (c ∷ cs) ts (Got v (c ∷ cs)) k.1 is e h (λ x. x);
    within = (n, ap (room (turn_by K) n) (append_cancel_right k.0 r.0 (c ∷ cs) (sym k.1 ∙ r.1)) ∙ r.2);
  }
  answer n ts (Wrong left) is k r = record {
    front = k.0;
    parts = k.1;
    before = (suc n, k.2);
    whole = λ e v h. comes_wrong (p n ts) v left (came n ts v h) is;
    after = λ d ds e h. left_over n k.0 d ds left ts (Wrong left) k.1 is e h (λ x. x);
    within = (r.1, ap (room (turn_by K) n) (append_cancel_right k.0 r.0 left (sym k.1 ∙ r.2)) ∙ r.3);
  }
  answer n ts (Deep left) is k r = record {
    front = k.0;
    bracket = k.1;
    rest = k.2;
    is = k.3;
    parts = k.4 ∙ ap (λ l. k.0 ++ l) (sym k.3);
    fits = (suc n, k.5);
    opens = ap (turn_by K) (heads k.1 r.1 k.2 r.2 (sym k.3 ∙ r.3)).0 ∙ r.6;
    full = ap (room (turn_by K) n) (append_cancel_right k.0 r.0 left (sym (k.4 ∙ ap (λ l. k.0 ++ l) (sym k.3)) ∙ r.4)) ∙ r.5;
  }

  -- the answer is right
  pub answers : (n : ℕ) (ts : List T) → Answers (any P) (turn_by K) n ts (to_end (p n ts))
  answers n ts = answer n ts (p n ts) refl ((reads 0 n).back.shown ts) ((reads 0 n).room.keeps ts)

  -- and whatever derives is read, but where a bracket is too deep
  pub derived_is_read : (n : ℕ) (ts : List T) (v : V) → (any P).derives ts v → Comes (to_end (p n ts)) v []
  derived_is_read n ts v h =
      ⊎_elim
      (λ (k : p n ts ≡ Got v []). let x : Comes (to_end (p n ts)) v [] = inl (ap to_end k) in x)
      (λ (k : (r : List T) × (p n ts ≡ Deep r)). let x : Comes (to_end (p n ts)) v [] = inr (k.0, ap to_end k.1) in x)
      (came n ts v h)

  -- no bracket is too deep where as many may be open as there are tokens
  none_deep : (ts left : List T) → to_end (p (length ts) ts) ≡ Deep left → ⊥
  none_deep ts left e =
      let d : DeepToken (any P) (turn_by K) (length ts) ts left = subst (λ o. Answers (any P) (turn_by K) (length ts) ts o) e (answers (length ts) ts) in
      let bound = room_bound (turn_by K) (length ts) 0 d.front d.full in
      let size : length ts ≡ length (d.front ++ d.bracket ∷ d.rest) = ap (λ l. length l) (d.parts ∙ ap (λ l. d.front ++ l) d.is) in
      omega (arith, bound, size, length-append d.front (d.bracket ∷ d.rest))

  -- a list of tokens derives as one value at most
  pub one_value : (ts : List T) (v w : V) → (any P).derives ts v → (any P).derives ts w → v ≡ w
  one_value ts v w h k =
      both (to_end (p (length ts) ts)) refl (derived_is_read (length ts) ts v h) (derived_is_read (length ts) ts w k)
    where
      both : (o : Outcome T V) → to_end (p (length ts) ts) ≡ o → Comes o v [] → Comes o w [] → v ≡ w
      both o is (inl e) (inl f) = let r : ◌≡◌ {A = Outcome T V} (Got v []) (Got w []) = sym e ∙ f in cc
      both o is (inr e) f = absurd (none_deep ts e.0 (is ∙ e.1))
      both o is (inl e) (inr f) = absurd (none_deep ts f.0 (is ∙ f.1))

  -- what derives is a front
  pub derived_is_front : (ts : List T) (v : V) → (any P).derives ts v → (any P).front ts
  derived_is_front = shape.whole

  -- what begins a front is a front
  pub fronts_closed : (x y : List T) → (any P).front (x ++ y) → (any P).front x
  fronts_closed = shape.closed

  -- and a token that stands for another one at its end makes a front too
  pub fronts_alike : (x : List T) (t u : T) → K.Alike t u → (any P).front (x ++ t ∷ []) → (any P).front (x ++ u ∷ [])
  fronts_alike = shape.alike

  last_same : (x y : List T) (t u : T) → x ++ t ∷ [] ≡ y ++ u ∷ [] → t ≡ u
  last_same x y t u e =
      ⊎_elim
      (λ (k : (more : List T) × (x ≡ y ++ more) × (u ∷ [] ≡ more ++ t ∷ [])). let r : t ≡ u = (last_alone k.0 t u (sym k.2)).1 in r)
      (λ (k : y ≡ x ++ t ∷ []). let r : t ≡ u = absurd (longer_no (ap (λ l. length l) (e ∙ ap (λ y. y ++ u ∷ []) k))) in r)
      (last_cut x t y (u ∷ []) e)
    where
      longer_no : length (x ++ t ∷ []) ≡ length ((x ++ t ∷ []) ++ u ∷ []) → ⊥
      longer_no h = omega (arith, h, length-append (x ++ t ∷ []) (u ∷ []))

  module _ (n : ℕ) (ts : List T) (t : T) (within : IsWithin (turn_by K) n ts) (plain : turn_by K t ≡ Plain) where
    front_all : (o : Outcome T V) → Answers (any P) (turn_by K) n (ts ++ t ∷ []) (to_end o) → (any P).front (ts ++ t ∷ []) → left_of (to_end o) ≡ []
    front_all (Got v []) a h = refl
    front_all (Got v (c ∷ cs)) a h = absurd (a.after c cs refl (fronts_closed (a.front ++ c ∷ []) cs (subst (λ ts. (any P).front ts) (a.parts ∙ sym (append_assoc a.front (c ∷ []) cs)) h)))
    front_all (Wrong []) a h = refl
    front_all (Wrong (c ∷ cs)) a h = absurd (a.after c cs refl (fronts_closed (a.front ++ c ∷ []) cs (subst (λ ts. (any P).front ts) (a.parts ∙ sym (append_assoc a.front (c ∷ []) cs)) h)))
    front_all (Deep left) a h = absurd (⊎_elim
        (λ (k : (more : List T) × (ts ≡ (a.front ++ a.bracket ∷ []) ++ more) × (a.rest ≡ more ++ t ∷ [])). no_room (turn_by K) n within.0 a.front k.0 a.bracket a.full a.opens (ap (room (turn_by K) n) (sym k.1) ∙ within.1))
        (λ (k : a.front ++ a.bracket ∷ [] ≡ ts ++ t ∷ []). let e : Opens ≡ Plain = sym a.opens ∙ ap (turn_by K) (last_same a.front ts a.bracket t k) ∙ plain in let r : ⊥ = cc in r)
        (last_cut ts t (a.front ++ a.bracket ∷ []) a.rest (a.parts ∙ ap (λ l. a.front ++ l) a.is ∙ sym (append_assoc a.front (a.bracket ∷ []) a.rest))))

    all_front : (o : Outcome T V) → Answers (any P) (turn_by K) n (ts ++ t ∷ []) (to_end o) → left_of (to_end o) ≡ [] → (any P).front (ts ++ t ∷ [])
    all_front (Got v []) a e = (a.1.0, (reads a.1.0 0).shape.whole (ts ++ t ∷ []) v a.1.1)
    all_front (Got v (c ∷ cs)) a e = cc
    all_front (Wrong left) a e = subst (λ ts. (any P).front ts) (sym (a.parts ∙ ap (λ l. a.front ++ l) e ∙ append-nil a.front)) a.before
    all_front (Deep left) a e = let r = sym a.is ∙ e in cc

    -- tokens and a plain one are a front exactly where the reader leaves none of them
    pub front_reads : (any P).front (ts ++ t ∷ []) ↔ (left_of (to_end (p n (ts ++ t ∷ []))) ≡ [])
    front_reads = (front_all (p n (ts ++ t ∷ [])) (answers n (ts ++ t ∷ [])), all_front (p n (ts ++ t ∷ [])) (answers n (ts ++ t ∷ [])))

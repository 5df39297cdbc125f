-- All that is known of a rule, as one term for each combinator.
use Rattle.std.proofs.Common.{◌≡◌, refl, ℕ, zero, suc, Bool, true, false, cond, ◌&&◌, ◌||◌, ◌==◌, eq-eqb, List, ◌∷◌, [], ◌++◌, Option, Some, inl, inr, sym, ◌∙◌, ap, subst}
use Rattle.bye_parts.specs.Parts.{Part, token, sequence, yield, nothing, either, optional, repeated, trailing, run, mapped, between, bracketed}
use Rattle.bye_parts.specs.Readers.{Reader, then, read_yield, read_token, read_mapped, read_optional, read_either, read_repeated, read_trailing, read_run, read_between, read_deep, read_bracketed}
use Rattle.bye_parts.specs.Brackets.{Opens, Closes, Plain, turned}
use Rattle.bye_parts.specs.Sets.{has, disjoint}
use Rattle.bye_parts.proofs.Sets.{no_both, apart_of, only_one, subset}
use Rattle.bye_parts.proofs.TokenKinds.{Kinds, turn_by, turn_by-plain}
use Rattle.bye_parts.proofs.Shapes.{Shape, shape_nothing, shape_yield, shape_token, shape_then, shape_mapped, shape_optional, shape_either, shape_repeated, shape_wider}
use Rattle.bye_parts.proofs.Forth.{Forth, forth_token, forth_yield, forth_then, forth_mapped, forth_optional, forth_either, forth_nothing, forth_deep, forth_wider}
use Rattle.bye_parts.proofs.Repeats.{forth_repeated}
use Rattle.bye_parts.proofs.Back.{Back, back_token, back_yield, back_then, back_mapped, back_optional, back_either, back_repeated, back_deep}
use Rattle.bye_parts.proofs.Rooms.{Room, room_token, room_yield, room_then, room_mapped, room_optional, room_either, room_repeated, room_trailing, room_run, room_deep}
use Rattle.bye_parts.proofs.Trailing.{forth_trailing, back_trailing}
use Rattle.bye_parts.proofs.Runs.{shape_run, forth_run, back_run}

-- The reader p reads what derives from P, at whatever depth of brackets P stands, and what it reads derives from D: the same rule at one
-- depth more than the b brackets that p may open. For a rule without brackets both are one part. After what was read e may be opened.
pub record Reads {T V : Type 0} (K : Kinds T) (n : Bool) (F G : List ℕ) (P D : Part T V) (p : Reader T V) (b e : ℕ) : Type 0 where
  pub shape : Shape K n F P
  pub forth : Forth K G P p
  pub back : Back D p
  pub room : Room (turn_by K) b e p

-- a token that is no bracket; where it fits, so does one that stands for it
pub reads_token : {T V : Type 0} (K : Kinds T) (b : ℕ) (F : List ℕ) (fits : T → Option V) → ((t : T) (v : V) → fits t ≡ Some v → has F (K.kind t) ≡ true) → disjoint F (K.opening ++ K.closing) ≡ true
    → ((t u : T) (v : V) → K.Alike t u → fits t ≡ Some v → (w : V) × (fits u ≡ Some w)) → Reads K false F [] (token fits) (token fits) (read_token fits) b b
reads_token K b F fits first plain other = record {
  shape = shape_token K F fits first other;
  forth = forth_token K fits;
  back = back_token fits;
  room = room_token (turn_by K) b b fits (λ c v h. ap (λ t. turned t b) (turn_by-plain K F plain c (first c v h)));
}

-- a token of none of these kinds is none that another stands for
apart_alike : {T V : Type 0} (K : Kinds T) (F : List ℕ) (fits : T → Option V) → ((t : T) (v : V) → fits t ≡ Some v → has F (K.kind t) ≡ true) → disjoint F K.alike ≡ true
    → (t u : T) (v : V) → K.Alike t u → fits t ≡ Some v → (w : V) × (fits u ≡ Some w)
apart_alike K F fits first d t u v a h = absurd (no_both (has K.alike (K.kind t)) (K.is_alike t u a) (apart_of F K.alike (K.kind t) d (first t v h)))

-- a token that is no bracket, and for which no other stands
pub reads_mark : {T V : Type 0} (K : Kinds T) (b : ℕ) (F : List ℕ) (fits : T → Option V) → ((t : T) (v : V) → fits t ≡ Some v → has F (K.kind t) ≡ true) → disjoint F (K.opening ++ K.closing) ≡ true
    → disjoint F K.alike ≡ true → Reads K false F [] (token fits) (token fits) (read_token fits) b b
reads_mark K b F fits first plain d = reads_token K b F fits first plain (apart_alike K F fits first d)

pub reads_yield : {T V : Type 0} (K : Kinds T) (b : ℕ) (v : V) → Reads K true [] [] (yield v) (yield v) (read_yield v) b b
reads_yield K b v = record { shape = shape_yield K v; forth = forth_yield K v; back = back_yield v; room = room_yield (turn_by K) b v }

pub reads_then : {T A B : Type 0} {K : Kinds T} {n m : Bool} {F G F' G' : List ℕ} {P D : Part T A} {p : Reader T A} {Q E : A → Part T B} {q : A → Reader T B} {b k e : ℕ}
    → Reads K n F G P D p b k → ((a : A) → Reads K m F' G' (Q a) (E a) (q a) k e) → disjoint F' G ≡ true
    → Reads K (n && m) (F ++ cond n F' []) (G' ++ cond m G []) (sequence P Q) (sequence D E) (then p q) b e
reads_then {K = K} {b = b} {k = k} {e = e} f g d = record {
  shape = shape_then f.shape (λ a. (g a).shape);
  forth = forth_then f.shape f.forth (λ a. (g a).shape) (λ a. (g a).forth) d;
  back = back_then f.back (λ a. (g a).back);
  room = room_then (turn_by K) b k e f.room (λ a. (g a).room);
}

pub reads_mapped : {T A B : Type 0} {K : Kinds T} {n : Bool} {F G : List ℕ} {P D : Part T A} {p : Reader T A} {b e : ℕ} (h : A → B) → Reads K n F G P D p b e → Reads K n F G (mapped h P) (mapped h D) (read_mapped h p) b e
reads_mapped {K = K} {b = b} {e = e} h f = record { shape = shape_mapped h f.shape; forth = forth_mapped h f.forth; back = back_mapped h f.back; room = room_mapped (turn_by K) b e h f.room }

pub reads_optional : {T A : Type 0} {K : Kinds T} {F G : List ℕ} {P D : Part T A} {p : Reader T A} {b : ℕ} (starts : T → Bool) → Reads K false F G P D p b b → ((c : T) → starts c ≡ has F (K.kind c))
    → Reads K true F (F ++ G) (optional P) (optional D) (read_optional starts p) b b
reads_optional {K = K} {b = b} starts f same = record {
  shape = shape_optional f.shape;
  forth = forth_optional f.shape f.forth starts same;
  back = back_optional starts f.back;
  room = room_optional (turn_by K) b starts f.room;
}

pub reads_either : {T A : Type 0} {K : Kinds T} {F G F' G' : List ℕ} {P D Q E : Part T A} {p q : Reader T A} {b e : ℕ} (starts : T → Bool) → Reads K false F G P D p b e → Reads K false F' G' Q E q b e
    → ((c : T) → starts c ≡ has F (K.kind c)) → disjoint F' F ≡ true → Reads K false (F ++ F') (G ++ G') (either P Q) (either D E) (read_either starts p q) b e
reads_either {K = K} {b = b} {e = e} starts f g same d = record {
  shape = shape_either f.shape g.shape;
  forth = forth_either f.shape f.forth g.shape g.forth starts same d;
  back = back_either starts f.back g.back;
  room = room_either (turn_by K) b e starts f.room g.room;
}

pub reads_repeated : {T A : Type 0} {K : Kinds T} {F G : List ℕ} {P D : Part T A} {p : Reader T A} {b : ℕ} (starts : T → Bool) → Reads K false F G P D p b b → ((c : T) → starts c ≡ has F (K.kind c))
    → disjoint F G ≡ true → Reads K true F (F ++ G) (repeated P) (repeated D) (read_repeated starts p) b b
reads_repeated {K = K} {b = b} starts f same d = record {
  shape = shape_repeated f.shape;
  forth = forth_repeated f.shape f.forth starts same d;
  back = back_repeated starts f.back;
  room = room_repeated (turn_by K) b starts f.room;
}

pub reads_trailing : {T S V : Type 0} {K : Kinds T} {F G : List ℕ} {P D : Part T V} {p : Reader T V} {b : ℕ} (k : ℕ) (separates starts : T → Bool) (separator : T → Option S) → Reads K false F G P D p b b
    → ((t : T) (s : S) → separator t ≡ Some s → has (k ∷ []) (K.kind t) ≡ true) → ((t : T) → separates t ≡ true → (s : S) × (separator t ≡ Some s)) → ((t : T) → separates t ≡ has (k ∷ []) (K.kind t))
    → ((c : T) → starts c ≡ has F (K.kind c)) → disjoint (k ∷ []) G ≡ true → disjoint (k ∷ []) (K.opening ++ K.closing) ≡ true → disjoint (k ∷ []) K.alike ≡ true
    → Reads K true (k ∷ []) (k ∷ (F ++ G)) (trailing (token separator) P) (trailing (token separator) D) (read_trailing separates starts p) b b
reads_trailing {T} {S} {V} {K} {F} {G} {P} {D} {p} {b} k separates starts separator f first is same begins d plain apart =
    let mark = shape_token K (k ∷ []) separator first (apart_alike K (k ∷ []) separator first apart) in
    record {
      shape = shape_wider (k ∷ []) (shape_then (shape_repeated (shape_then mark (λ _. f.shape))) (λ vs. shape_then (shape_optional mark) (λ _. shape_yield K vs))) (one_of k);
      forth = forth_trailing separator P f.shape f.forth k separates starts first same begins d;
      back = back_trailing separator D f.back separates starts is;
      room = room_trailing (turn_by K) b separates starts (λ c h. turn_by-plain K (k ∷ []) plain c (sym (same c) ∙ h)) f.room;
    }
  where
    one_of : (k : ℕ) → subset (k ∷ k ∷ []) (k ∷ []) ≡ true
    one_of k = let e : (k == k) ≡ true = eq-eqb k k refl in ap (λ b. (b || false) && ((b || false) && true)) e

pub reads_run : {T V : Type 0} (K : Kinds T) (b : ℕ) (F : List ℕ) (starts : T → Bool) (fits : List V → T → Option V) (seen : List V) → ((seen : List V) (t : T) (v : V) → fits seen t ≡ Some v → has F (K.kind t) ≡ true)
    → ((c : T) → starts c ≡ has F (K.kind c)) → disjoint F (K.opening ++ K.closing) ≡ true → disjoint F K.alike ≡ true → Reads K true F F (run fits seen) (run fits seen) (read_run starts fits seen) b b
reads_run K b F starts fits seen first same plain d = record {
  shape = shape_run K F fits first (λ seen. apart_alike K F (fits seen) (first seen) d) seen;
  forth = forth_run K F fits first starts same seen;
  back = back_run starts fits seen;
  room = room_run (turn_by K) b starts fits seen (λ seen c v h. turn_by-plain K F plain c (first seen c v h));
}

-- the same with more kinds
pub reads_wider : {T V : Type 0} {K : Kinds T} {n : Bool} {F G : List ℕ} {P D : Part T V} {p : Reader T V} {b e : ℕ} (F' G' : List ℕ) → Reads K n F G P D p b e → subset F F' ≡ true → subset G G' ≡ true → Reads K n F' G' P D p b e
reads_wider F' G' f s t = record { shape = shape_wider F' f.shape s; forth = forth_wider G' f.forth t; back = f.back; room = f.room }

-- at depth 0 nothing derives
pub reads_nothing : {T V : Type 0} {K : Kinds T} {n : Bool} {F G : List ℕ} {P D : Part T V} {p : Reader T V} {b e : ℕ} → Reads K n F G P D p b e → Reads K n F G nothing D p b e
reads_nothing {K = K} {n = n} {F = F} f = record { shape = shape_nothing K n F; forth = forth_nothing f.forth; back = f.back; room = f.room }

disjoint-nil : (xs : List ℕ) → disjoint xs [] ≡ true
disjoint-nil [] = refl
disjoint-nil (x ∷ xs) = disjoint-nil xs

cond-same : (b : Bool) (x : List ℕ) → cond b x x ≡ x
cond-same true x = refl
cond-same false x = refl

-- Two brackets, each of a kind of its own: which tokens fit, and the test that decides whether one is opened.
pub record Pair {T A B : Type 0} (K : Kinds T) (starts : T → Bool) (opens : T → Option A) (closes : T → Option B) (o c : ℕ) : Type 0 where
  pub opens_only : (t : T) (v : A) → opens t ≡ Some v → has (o ∷ []) (K.kind t) ≡ true
  pub opens_at : (t : T) → starts t ≡ true → (v : A) × (opens t ≡ Some v)
  pub same : (t : T) → starts t ≡ has (o ∷ []) (K.kind t)
  pub closes_only : (t : T) (v : B) → closes t ≡ Some v → has (c ∷ []) (K.kind t) ≡ true
  pub turns_open : cond (has K.opening o) Opens (cond (has K.closing o) Closes Plain) ≡ Opens
  pub turns_close : cond (has K.opening c) Opens (cond (has K.closing c) Closes Plain) ≡ Closes
  pub open_stays : disjoint (o ∷ []) K.alike ≡ true
  pub close_stays : disjoint (c ∷ []) K.alike ≡ true

module _ {T A B : Type 0} {K : Kinds T} {starts : T → Bool} {opens : T → Option A} {closes : T → Option B} {o c : ℕ} (pair : Pair K starts opens closes o c) where
  turn_at : (k : ℕ) (t : T) → has (k ∷ []) (K.kind t) ≡ true → turn_by K t ≡ cond (has K.opening k) Opens (cond (has K.closing k) Closes Plain)
  turn_at k t h = ap (λ k. cond (has K.opening k) Opens (cond (has K.closing k) Closes Plain)) (only_one k (K.kind t) h)

  reads_open : (b : ℕ) → Reads K false (o ∷ []) [] (token opens) (token opens) (read_token opens) (suc b) b
  reads_open b = record {
    shape = shape_token K (o ∷ []) opens pair.opens_only (apart_alike K (o ∷ []) opens pair.opens_only pair.open_stays);
    forth = forth_token K opens;
    back = back_token opens;
    room = room_token (turn_by K) (suc b) b opens (λ t v h. ap (λ t. turned t (suc b)) (turn_at o t (pair.opens_only t v h) ∙ pair.turns_open));
  }

  reads_close : (b : ℕ) → Reads K false (c ∷ []) [] (token closes) (token closes) (read_token closes) b (suc b)
  reads_close b = record {
    shape = shape_token K (c ∷ []) closes pair.closes_only (apart_alike K (c ∷ []) closes pair.closes_only pair.close_stays);
    forth = forth_token K closes;
    back = back_token closes;
    room = room_token (turn_by K) b (suc b) closes (λ t v h. ap (λ t. turned t b) (turn_at c t (pair.closes_only t v h) ∙ pair.turns_close));
  }

  -- a part between the brackets
  pub reads_between : {V : Type 0} {n : Bool} {F G : List ℕ} {P D : Part T V} {p : Reader T V} {b : ℕ} → Reads K n F G P D p b b → disjoint (c ∷ []) G ≡ true
      → Reads K false (o ∷ []) [] (between opens closes P) (between opens closes D) (read_between opens closes p) (suc b) (suc b)
  reads_between {V} {n} {F} {G} {P} {D} {p} {b} f d =
      subst (λ G. Reads K false (o ∷ []) G (between opens closes P) (between opens closes D) (read_between opens closes p) (suc b) (suc b)) (cond-same (n && false) [])
      (reads_then (reads_open b) (λ _. reads_then f (λ v. reads_then (reads_close b) (λ _. reads_yield K (suc b) v) refl) d) (disjoint-nil (F ++ cond n (c ∷ []) [])))

  -- where no bracket may be opened any more
  pub reads_deep : {V : Type 0} {P : Part T V} (D : Part T V) → Shape K false (o ∷ []) P → Reads K false (o ∷ []) [] P (between opens closes D) (read_deep starts) 0 0
  reads_deep D s = record {
    shape = s;
    forth = forth_deep [] starts pair.same s;
    back = back_deep starts (inl (inl refl)) (λ t h. let k = pair.opens_at t h in inl (inr (t, k.0, refl, k.1)));
    room = room_deep (turn_by K) 0 starts (λ t h. turn_at o t (sym (pair.same t) ∙ h) ∙ pair.turns_open);
  }

  -- a part without brackets of its own between the brackets
  pub reads_bracketed : {V : Type 0} {n : Bool} {F G : List ℕ} {P : Part T V} {p : Reader T V} → ((b : ℕ) → Reads K n F G P P p b b) → disjoint (c ∷ []) G ≡ true → (d b : ℕ)
      → Reads K false (o ∷ []) [] (bracketed opens closes d P) (bracketed opens closes (suc b) P) (read_bracketed starts opens closes b p) b b
  reads_bracketed {P = P} f k zero zero = reads_deep P (shape_nothing K false (o ∷ []))
  reads_bracketed {P = P} f k (suc d) zero = let r = reads_between (f 0) k in reads_deep P r.shape
  reads_bracketed f k zero (suc b) = reads_nothing (reads_between (f b) k)
  reads_bracketed f k (suc d) (suc b) = reads_between (f b) k

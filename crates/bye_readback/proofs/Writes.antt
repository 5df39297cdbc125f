-- Which tokens derive from a part, wherever they stand in a text.
use Rattle.std.proofs.Common.{◌≡◌, refl, List, ◌∷◌, [], ◌++◌, Option, Some, None, map, inl, inr, ◌∙◌, ap, subst}
use Rattle.std.proofs.lemmas.List.{append-nil}
use Rattle.bye_parts.specs.Parts.{Part, sequence, yield, either, optional, repeated, mapped, between}
use Rattle.bye_tokens.specs.declared.token.Placed.{Placed}
use Rattle.bye_tokens.specs.declared.token.Token.{Token}
use Rattle.bye_grammar.specs.Grammar.{one}

-- the tokens, without their places
abbrev pub bare : List Placed → List Token
bare ts = map (λ t. t.token) ts

-- placed tokens that are two lists of tokens, one after the other
record Cut (ts : List Placed) (xs ys : List Token) : Type 0 where
  own : List Placed
  rest : List Placed
  parts : ts ≡ own ++ rest
  first : bare own ≡ xs
  next : bare rest ≡ ys

cut : (ts : List Placed) (xs ys : List Token) → bare ts ≡ xs ++ ys → Cut ts xs ys
cut ts [] ys e = record { own = []; rest = ts; parts = refl; first = refl; next = e }
cut [] (x ∷ xs) ys e = let r : ⊥ = cc in absurd r
cut (t ∷ ts) (x ∷ xs) ys e =
    let same : t.token ≡ x = cc in
    let more : bare ts ≡ xs ++ ys = cc in
    let k = cut ts xs ys more in
    record { own = t ∷ k.own; rest = k.rest; parts = ap (λ ts. t ∷ ts) k.parts; first = ap (λ x. x ∷ bare k.own) same ∙ ap (λ xs. x ∷ xs) k.first; next = k.next }

no_tokens : (ts : List Placed) → bare ts ≡ [] → ts ≡ []
no_tokens [] e = refl
no_tokens (t ∷ ts) e = let r : ⊥ = cc in absurd r

one_token : (ts : List Placed) (x : Token) → bare ts ≡ x ∷ [] → (t : Placed) × (ts ≡ t ∷ []) × (t.token ≡ x)
one_token [] x e = let r : ⊥ = cc in absurd r
one_token (t ∷ ts) x e =
    let same : t.token ≡ x = cc in
    let more : bare ts ≡ [] = cc in
    (t, ap (λ ts. t ∷ ts) (no_tokens ts more), same)

-- these tokens derive as the value, wherever they stand
pub record Writes {V : Type 0} (P : Part Placed V) (xs : List Token) (v : V) : Type 0 where
  pub derives : (ts : List Placed) → bare ts ≡ xs → P.derives ts v

pub writes_one : {V : Type 0} (test : Token → Option V) (x : Token) (v : V) → test x ≡ Some v → Writes (one test) (x ∷ []) v
writes_one test x v e = record { derives = λ ts is. let k = one_token ts x is in (k.0, k.1, ap test k.2 ∙ e) }

pub writes_yield : {V : Type 0} (v : V) → Writes (yield v) [] v
writes_yield v = record { derives = λ ts is. (no_tokens ts is, refl) }

pub writes_then : {A B : Type 0} {P : Part Placed A} {Q : A → Part Placed B} {xs ys : List Token} {a : A} {w : B} → Writes P xs a → Writes (Q a) ys w → Writes (sequence P Q) (xs ++ ys) w
writes_then {xs = xs} {ys = ys} {a = a} f g = record {
  derives = λ ts is.
      let k = cut ts xs ys is in
      record { own = k.own; rest = k.rest; value = a; parts = k.parts; first = f.derives k.own k.first; next = g.derives k.rest k.next };
}

-- the same tokens, in another form
pub writes_as : {V : Type 0} {P : Part Placed V} {xs ys : List Token} {v : V} → xs ≡ ys → Writes P xs v → Writes P ys v
writes_as {P = P} {v = v} e f = subst (λ xs. Writes P xs v) e f

-- a part, and nothing after it
pub writes_first : {A B : Type 0} {P : Part Placed A} {Q : A → Part Placed B} {xs : List Token} {a : A} {w : B} → Writes P xs a → Writes (Q a) [] w → Writes (sequence P Q) xs w
writes_first {xs = xs} f g = writes_as (append-nil xs) (writes_then f g)

-- the value of a part, seen as another
pub writes_last : {A B : Type 0} {P : Part Placed A} {xs : List Token} {a : A} (h : A → B) → Writes P xs a → Writes (sequence P (λ a. yield (h a))) xs (h a)
writes_last {a = a} h f = writes_first f (writes_yield (h a))

pub writes_mapped : {A B : Type 0} {P : Part Placed A} {xs : List Token} {a : A} (h : A → B) → Writes P xs a → Writes (mapped h P) xs (h a)
writes_mapped {a = a} h f = record { derives = λ ts is. (a, f.derives ts is, refl) }

pub writes_left : {V : Type 0} {P Q : Part Placed V} {xs : List Token} {v : V} → Writes P xs v → Writes (either P Q) xs v
writes_left f = record { derives = λ ts is. inl (f.derives ts is) }

pub writes_right : {V : Type 0} {P Q : Part Placed V} {xs : List Token} {v : V} → Writes Q xs v → Writes (either P Q) xs v
writes_right f = record { derives = λ ts is. inr (f.derives ts is) }

pub writes_none : {V : Type 0} {P : Part Placed V} → Writes (optional P) [] None
writes_none = record { derives = λ ts is. no_tokens ts is }

pub writes_some : {V : Type 0} {P : Part Placed V} {xs : List Token} {v : V} → Writes P xs v → Writes (optional P) xs (Some v)
writes_some f = record { derives = λ ts is. f.derives ts is }

pub writes_no_rounds : {V : Type 0} {P : Part Placed V} → Writes (repeated P) [] []
writes_no_rounds = record { derives = λ ts is. no_tokens ts is }

pub writes_round : {V : Type 0} {P : Part Placed V} {xs ys : List Token} {v : V} {vs : List V} → Writes P xs v → Writes (repeated P) ys vs → Writes (repeated P) (xs ++ ys) (v ∷ vs)
writes_round {xs = xs} {ys = ys} f g = record {
  derives = λ ts is.
      let k = cut ts xs ys is in
      (k.own, k.rest, k.parts, f.derives k.own k.first, g.derives k.rest k.next);
}

pub writes_only_round : {V : Type 0} {P : Part Placed V} {xs : List Token} {v : V} → Writes P xs v → Writes (repeated P) xs (v ∷ [])
writes_only_round {xs = xs} f = writes_as (append-nil xs) (writes_round f writes_no_rounds)

-- a part between two tokens
pub writes_between : {A B V : Type 0} {P : Part Placed V} {xs : List Token} {v : V} (opens : Token → Option A) (closes : Token → Option B) (x y : Token) (a : A) (b : B) → opens x ≡ Some a → closes y ≡ Some b
    → Writes P xs v → Writes (between (λ t. opens t.token) (λ t. closes t.token) P) (x ∷ (xs ++ y ∷ [])) v
writes_between opens closes x y a b e d f = writes_then (writes_one opens x a e) (writes_then f (writes_then (writes_one closes y b d) (writes_yield _)))

-- What holds of each value that derives, where something holds of each token.
use Rattle.std.proofs.Common.{◌≡◌, ℕ, zero, suc, List, ◌∷◌, [], ◌++◌, Option, Some, None, ⊎_elim, sym, subst}
use Rattle.std.specs.List.{AllByRecursion}
use Rattle.bye_parts.specs.Parts.{Part, token, sequence, yield, nothing, either, Maybe, optional, Rounds, repeated, trailing, Run, run, mapped, between, bracketed}

-- Ok holds of the tokens, so Q holds of the value
pub record Gives {T V : Type 0} (Ok : T → Type 0) (Q : V → Type 0) (P : Part T V) : Type 0 where
  pub gives : (ts : List T) (v : V) → AllByRecursion Ok ts → P.derives ts v → Q v

-- it holds of the value, where there is one
abbrev pub Perhaps : {V : Type 0} → (V → Type 0) → Option V → Type 0
Perhaps Q None = Unit {0}
Perhaps Q (Some v) = Q v

all_parts : {T : Type 0} (Ok : T → Type 0) (xs ys : List T) → AllByRecursion Ok (xs ++ ys) → AllByRecursion Ok xs × AllByRecursion Ok ys
all_parts Ok [] ys h = (tt, h)
all_parts Ok (x ∷ xs) ys h = let k = all_parts Ok xs ys h.1 in ((h.0, k.0), k.1)

all_cut : {T : Type 0} (Ok : T → Type 0) (ts xs ys : List T) → ts ≡ xs ++ ys → AllByRecursion Ok ts → AllByRecursion Ok xs × AllByRecursion Ok ys
all_cut Ok ts xs ys e h = all_parts Ok xs ys (subst (λ ts. AllByRecursion Ok ts) e h)

module _ {T : Type 0} {Ok : T → Type 0} where
  pub gives_token : {V : Type 0} {Q : V → Type 0} (fits : T → Option V) → ((t : T) (v : V) → Ok t → fits t ≡ Some v → Q v) → Gives Ok Q (token fits)
  gives_token fits f = record { gives = λ ts v a h. f h.0 v (all_cut Ok ts (h.0 ∷ []) [] h.1 a).0.0 h.2 }

  pub gives_yield : {V : Type 0} (Q : V → Type 0) (v : V) → Q v → Gives Ok Q (yield v)
  gives_yield Q v q = record { gives = λ ts w a h. subst Q (sym h.1) q }

  pub gives_nothing : {V : Type 0} (Q : V → Type 0) → Gives Ok Q nothing
  gives_nothing Q = record { gives = λ ts v a h. absurd h }

  pub gives_then : {A B : Type 0} {Q : A → Type 0} {R : B → Type 0} {P : Part T A} {S : A → Part T B} → Gives Ok Q P → ((a : A) → Q a → Gives Ok R (S a)) → Gives Ok R (sequence P S)
  gives_then f g = record {
    gives = λ ts w a s.
        let k = all_cut Ok ts s.own s.rest s.parts a in
        (g s.value (f.gives s.own s.value k.0 s.first)).gives s.rest w k.1 s.next;
  }

  pub gives_mapped : {A B : Type 0} {Q : A → Type 0} (R : B → Type 0) {P : Part T A} (h : A → B) → Gives Ok Q P → ((a : A) → Q a → R (h a)) → Gives Ok R (mapped h P)
  gives_mapped R h f g = record { gives = λ ts w a k. subst R (sym k.2) (g k.0 (f.gives ts k.0 a k.1)) }

  pub gives_either : {V : Type 0} {Q : V → Type 0} {P S : Part T V} → Gives Ok Q P → Gives Ok Q S → Gives Ok Q (either P S)
  gives_either {Q = Q} {P = P} {S = S} f g = record { gives = λ ts v a h. ⊎_elim (λ (k : P.derives ts v). f.gives ts v a k) (λ (k : S.derives ts v). g.gives ts v a k) h }

  pub gives_optional : {V : Type 0} {Q : V → Type 0} {P : Part T V} → Gives Ok Q P → Gives Ok (Perhaps Q) (optional P)
  gives_optional {V} {Q} {P} f = record { gives = given }
    where
      given : (ts : List T) (v : Option V) → AllByRecursion Ok ts → Maybe P.derives ts v → Perhaps Q v
      given ts None a h = tt
      given ts (Some v) a h = f.gives ts v a h

  pub gives_repeated : {V : Type 0} {Q : V → Type 0} {P : Part T V} → Gives Ok Q P → Gives Ok (AllByRecursion Q) (repeated P)
  gives_repeated {V} {Q} {P} f = record { gives = given }
    where
      given : (ts : List T) (vs : List V) → AllByRecursion Ok ts → Rounds P.derives ts vs → AllByRecursion Q vs
      given ts [] a h = tt
      given ts (v ∷ vs) a (own, rest, parts, first, next) = let k = all_cut Ok ts own rest parts a in (f.gives own v k.0 first, given rest vs k.1 next)

  -- it holds of each value, whatever the separators are
  pub gives_trailing : {S V : Type 0} {Q : V → Type 0} {P : Part T V} (separator : T → Option S) → Gives Ok Q P → Gives Ok (AllByRecursion Q) (trailing (token separator) P)
  gives_trailing {S} {V} {Q} separator f =
      let any_mark : Gives Ok (λ (s : S). Unit {0}) (token separator) = gives_token separator (λ t s o e. tt) in
      gives_then (gives_repeated (gives_then any_mark (λ s u. f))) (λ vs h. gives_then (gives_optional any_mark) (λ s u. gives_yield (AllByRecursion Q) vs h))

  -- it holds of each value, by the token alone
  pub gives_run : {V : Type 0} {Q : V → Type 0} (fits : List V → T → Option V) → ((seen : List V) (t : T) (v : V) → Ok t → fits seen t ≡ Some v → Q v) → (seen : List V) → Gives Ok (AllByRecursion Q) (run fits seen)
  gives_run {V} {Q} fits f seen = record { gives = given seen }
    where
      given : (seen : List V) (ts : List T) (vs : List V) → AllByRecursion Ok ts → Run fits seen ts vs → AllByRecursion Q vs
      given seen [] vs a h = subst (λ vs. AllByRecursion Q vs) (sym h) tt
      given seen (t ∷ ts) [] a h = absurd h
      given seen (t ∷ ts) (v ∷ vs) a h = (f seen t v a.0 h.0, given (v ∷ seen) ts vs a.1 h.1)

  pub gives_between : {A B V : Type 0} {Q : V → Type 0} {P : Part T V} (opens : T → Option A) (closes : T → Option B) → Gives Ok Q P → Gives Ok Q (between opens closes P)
  gives_between {A} {B} {V} {Q} opens closes f =
      let open_mark : Gives Ok (λ (a : A). Unit {0}) (token opens) = gives_token opens (λ t s o e. tt) in
      let close_mark : Gives Ok (λ (b : B). Unit {0}) (token closes) = gives_token closes (λ t s o e. tt) in
      gives_then open_mark (λ a u. gives_then f (λ v h. gives_then close_mark (λ b u. gives_yield Q v h)))

  pub gives_bracketed : {A B V : Type 0} {Q : V → Type 0} {P : Part T V} (opens : T → Option A) (closes : T → Option B) (d : ℕ) → Gives Ok Q P → Gives Ok Q (bracketed opens closes d P)
  gives_bracketed {Q = Q} opens closes zero f = gives_nothing Q
  gives_bracketed opens closes (suc d) f = gives_between opens closes f

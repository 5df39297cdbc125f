-- How many tokens a reader leaves.
use Rattle.std.proofs.Common.{◌≡◌, ℕ, zero, suc, ◌<◌, ◌≤◌, Bool, true, false, cond, List, ◌∷◌, [], Option, Some, None, subst, arith, length}
use Rattle.bye_parts.specs.Readers.{Outcome, Reader, Got, Wrong, Deep, onward, then, read_yield, taken, read_token, begins, seen_as, read_mapped, read_optional, read_either, before, rounds, read_repeated, tail, read_trailing, read_between, read_deep, read_bracketed}

-- fewer tokens than so many are left after a value
abbrev pub Below : {T V : Type 0} → ℕ → Outcome T V → Type 0
Below n (Got v rest) = length rest < n
Below n (Wrong rest) = Unit {0}
Below n (Deep rest) = Unit {0}

-- each value takes a token at least
pub record Takes {T V : Type 0} (p : Reader T V) : Type 0 where
  pub fewer : (ts : List T) → Below (length ts) (p ts)

-- no token is made up
pub record Keeps {T V : Type 0} (p : Reader T V) : Type 0 where
  pub no_more : (ts : List T) → Below (suc (length ts)) (p ts)

wider : {T V : Type 0} (m n : ℕ) (o : Outcome T V) → m ≤ n → Below m o → Below n o
wider m n (Got v rest) l h = omega (arith, l, h)
wider m n (Wrong rest) l h = tt
wider m n (Deep rest) l h = tt

pub keeps_taken : {T V : Type 0} {p : Reader T V} → Takes p → Keeps p
keeps_taken {T} {V} {p} f = record { no_more = λ ts. wider (length ts) (suc (length ts)) (p ts) (omega arith) (f.fewer ts) }

-- as a fact of one value
pub shorter : {T V : Type 0} {p : Reader T V} → Takes p → (ts rest : List T) (v : V) → p ts ≡ Got v rest → length rest < length ts
shorter {T} {V} f ts rest v e = subst (λ (o : Outcome T V). Below (length ts) o) e (f.fewer ts)

below_onward : {T A B : Type 0} (n : ℕ) (o : Outcome T A) (q : A → Reader T B) → ((a : A) → Keeps (q a)) → Below n o → Below n (onward o q)
below_onward n (Got v rest) q g h = wider (suc (length rest)) n (q v rest) (omega (arith, h)) ((g v).no_more rest)
below_onward n (Wrong rest) q g h = tt
below_onward n (Deep rest) q g h = tt

below_seen : {T A B : Type 0} (n : ℕ) (g : A → B) (o : Outcome T A) → Below n o → Below n (seen_as g o)
below_seen n g (Got v rest) h = h
below_seen n g (Wrong rest) h = tt
below_seen n g (Deep rest) h = tt

below_if : {T V : Type 0} (n : ℕ) (b : Bool) (x y : Outcome T V) → Below n x → Below n y → Below n (cond b x y)
below_if n true x y h k = h
below_if n false x y h k = k

below_taken : {T V : Type 0} (o : Option V) (c : T) (cs : List T) → Below (length (c ∷ cs)) (taken o c cs)
below_taken None c cs = tt
below_taken (Some v) c cs = omega arith

pub takes_token : {T V : Type 0} (fits : T → Option V) → Takes (read_token fits)
takes_token {T} {V} fits = record { fewer = fewer }
  where
    fewer : (ts : List T) → Below (length ts) (read_token fits ts)
    fewer [] = tt
    fewer (c ∷ cs) = below_taken (fits c) c cs

pub keeps_token : {T V : Type 0} (fits : T → Option V) → Keeps (read_token fits)
keeps_token fits = keeps_taken (takes_token fits)

pub keeps_yield : {T V : Type 0} (v : V) → Keeps {T = T} (read_yield v)
keeps_yield v = record { no_more = λ ts. omega arith }

pub takes_then : {T A B : Type 0} {p : Reader T A} {q : A → Reader T B} → Takes p → ((a : A) → Keeps (q a)) → Takes (then p q)
takes_then {T} {A} {B} {p} {q} f g = record { fewer = λ ts. below_onward (length ts) (p ts) q g (f.fewer ts) }

pub keeps_then : {T A B : Type 0} {p : Reader T A} {q : A → Reader T B} → Keeps p → ((a : A) → Keeps (q a)) → Keeps (then p q)
keeps_then {T} {A} {B} {p} {q} f g = record { no_more = λ ts. below_onward (suc (length ts)) (p ts) q g (f.no_more ts) }

pub keeps_mapped : {T A B : Type 0} {p : Reader T A} (h : A → B) → Keeps p → Keeps (read_mapped h p)
keeps_mapped {T} {A} {B} {p} h f = record { no_more = λ ts. below_seen (suc (length ts)) h (p ts) (f.no_more ts) }

pub keeps_optional : {T A : Type 0} {p : Reader T A} (starts : T → Bool) → Keeps p → Keeps (read_optional starts p)
keeps_optional {T} {A} {p} starts f = record { no_more = λ ts. below_if (suc (length ts)) (begins starts ts) (seen_as Some (p ts)) (Got None ts) (below_seen (suc (length ts)) Some (p ts) (f.no_more ts)) (omega arith) }

pub keeps_either : {T A : Type 0} {p q : Reader T A} (starts : T → Bool) → Keeps p → Keeps q → Keeps (read_either starts p q)
keeps_either {T} {A} {p} {q} starts f g = record { no_more = λ ts. below_if (suc (length ts)) (begins starts ts) (p ts) (q ts) (f.no_more ts) (g.no_more ts) }

pub takes_either : {T A : Type 0} {p q : Reader T A} (starts : T → Bool) → Takes p → Takes q → Takes (read_either starts p q)
takes_either {T} {A} {p} {q} starts f g = record { fewer = λ ts. below_if (length ts) (begins starts ts) (p ts) (q ts) (f.fewer ts) (g.fewer ts) }

-- a value in front of those that are read after it
keeps_before : {T A : Type 0} {p : Reader T (List A)} (v : A) → Keeps p → Keeps (λ rest. before v (p rest))
keeps_before {T} {A} {p} v f = record { no_more = λ rest. below_seen (suc (length rest)) (λ vs. v ∷ vs) (p rest) (f.no_more rest) }

module _ {T A : Type 0} {p : Reader T A} (starts : T → Bool) (f : Keeps p) where
  rounds_keep : (n : ℕ) → Keeps (rounds n starts p)
  rounds_keep zero = record { no_more = λ ts. omega arith }
  rounds_keep (suc n) =
      let later = rounds_keep n in
      record {
        no_more = λ ts.
            below_if (suc (length ts)) (begins starts ts) (onward (p ts) (λ v rest. before v (rounds n starts p rest))) (Got [] ts)
            (below_onward (suc (length ts)) (p ts) (λ v rest. before v (rounds n starts p rest)) (λ v. keeps_before v later) (f.no_more ts))
            (omega arith);
      }

  pub keeps_repeated : Keeps (read_repeated starts p)
  unfolding read_repeated
  keeps_repeated = record { no_more = λ ts. (rounds_keep (length ts)).no_more ts }

module _ {T A : Type 0} {p : Reader T A} (separates starts : T → Bool) (f : Keeps p) where
  tail_keeps : (n : ℕ) (ts : List T) → Below (suc (length ts)) (tail n separates starts p ts)
  tail_keeps zero ts = omega arith
  tail_keeps (suc n) [] = omega arith
  tail_keeps (suc n) (c ∷ cs) =
      let m = suc (length (c ∷ cs)) in
      let less : suc (length cs) ≤ m = omega arith in
      let same : length (c ∷ cs) < m = omega arith in
      let fewer : length cs < m = omega arith in
      let go = onward (p cs) (λ v rest. before v (tail n separates starts p rest)) in
      let later : Keeps (tail n separates starts p) = record { no_more = tail_keeps n } in
      let on : Below (suc (length cs)) go = below_onward (suc (length cs)) (p cs) (λ v rest. before v (tail n separates starts p rest)) (λ v. keeps_before v later) (f.no_more cs) in
      below_if m (separates c) (cond (begins starts cs) go (Got [] cs)) (Got [] (c ∷ cs)) (below_if m (begins starts cs) go (Got [] cs) (wider (suc (length cs)) m go less on) fewer) same

  pub keeps_trailing : Keeps (read_trailing separates starts p)
  unfolding read_trailing
  keeps_trailing = record { no_more = λ ts. tail_keeps (length ts) ts }

pub keeps_between : {T A B V : Type 0} {p : Reader T V} (opens : T → Option A) (closes : T → Option B) → Keeps p → Keeps (read_between opens closes p)
keeps_between opens closes f = keeps_then (keeps_token opens) (λ a. keeps_then f (λ v. keeps_then (keeps_token closes) (λ b. keeps_yield v)))

pub keeps_deep : {T V : Type 0} (opens : T → Bool) → Keeps {T = T} {V = V} (read_deep opens)
keeps_deep {T} {V} opens = record { no_more = no_more }
  where
    no_more : (ts : List T) → Below {T = T} {V = V} (suc (length ts)) (read_deep opens ts)
    no_more [] = tt
    no_more (c ∷ cs) = below_if (suc (length (c ∷ cs))) (opens c) (Deep (c ∷ cs)) (Wrong (c ∷ cs)) tt tt

pub keeps_bracketed : {T A B V : Type 0} {p : Reader T V} (starts : T → Bool) (opens : T → Option A) (closes : T → Option B) (n : ℕ) → Keeps p → Keeps (read_bracketed starts opens closes n p)
keeps_bracketed starts opens closes zero f = keeps_deep starts
keeps_bracketed starts opens closes (suc n) f = keeps_between opens closes f

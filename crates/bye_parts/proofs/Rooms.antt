-- How far the brackets of what was read are open.
use Rattle.std.proofs.Common.{◌≡◌, refl, ℕ, zero, suc, Bool, true, false, cond, List, ◌∷◌, [], ◌++◌, Option, Some, None, sym, ◌∙◌, ap, append_assoc, length}
use Rattle.bye_parts.specs.Readers.{Outcome, Got, Wrong, Deep, Reader, onward, then, read_yield, taken, read_token, begins, seen_as, read_mapped, read_optional, read_either, before, rounds, read_repeated, tail, read_trailing, run_on, read_run, read_deep}
use Rattle.bye_parts.specs.Brackets.{Turn, Opens, Plain, turned, onto, room}

-- from n on: what was read keeps the room, what stands before a wrong token has some, and before a bracket that is too deep none
abbrev pub Keeps : {T V : Type 0} → (T → Turn) → ℕ → ℕ → List T → Outcome T V → Type 0
Keeps {T} turn n m ts (Got v rest) = (own : List T) × (ts ≡ own ++ rest) × (room turn n own ≡ Some m)
Keeps {T} turn n m ts (Wrong rest) = (own : List T) × (k : ℕ) × (ts ≡ own ++ rest) × (room turn n own ≡ Some k)
Keeps {T} turn n m ts (Deep rest) = (own : List T) × (c : T) × (cs : List T) × (rest ≡ c ∷ cs) × (ts ≡ own ++ rest) × (room turn n own ≡ Some 0) × (turn c ≡ Opens)

-- where n brackets may be opened before what is read, m may be after it
pub record Room {T V : Type 0} (turn : T → Turn) (n m : ℕ) (p : Reader T V) : Type 0 where
  pub keeps : (ts : List T) → Keeps turn n m ts (p ts)

pub room_join : {T : Type 0} (turn : T → Turn) (n m : ℕ) (a b : List T) → room turn n a ≡ Some m → room turn n (a ++ b) ≡ room turn m b
room_join turn n m [] b e = ap (λ o. onto o (λ m. room turn m b)) e
room_join {T} turn n m (c ∷ a) b e =
    elim (turned (turn c) n) as (λ o. onto o (λ m. room turn m a) ≡ Some m → onto o (λ m. room turn m (a ++ b)) ≡ room turn m b) [
      | None ↦ λ e. cc
      | Some k ↦ λ e. room_join turn k m a b e
    ] e

module _ {T : Type 0} (turn : T → Turn) where
  -- a token that is read
  pub room_token : {V : Type 0} (n m : ℕ) (fits : T → Option V) → ((c : T) (v : V) → fits c ≡ Some v → turned (turn c) n ≡ Some m) → Room turn n m (read_token fits)
  room_token {V} n m fits plain = record { keeps = keeps }
    where
      took : (o : Option V) (c : T) (cs : List T) → fits c ≡ o → Keeps turn n m (c ∷ cs) (taken o c cs)
      took None c cs e = ([], n, refl, refl)
      took (Some v) c cs e = (c ∷ [], refl, ap (λ o. onto o (λ m. Some m)) (plain c v e))

      keeps : (ts : List T) → Keeps turn n m ts (read_token fits ts)
      keeps [] = ([], n, refl, refl)
      keeps (c ∷ cs) = took (fits c) c cs refl

  pub room_yield : {V : Type 0} (n : ℕ) (v : V) → Room turn n n (read_yield v)
  room_yield n v = record { keeps = λ ts. ([], refl, refl) }

  join : {B : Type 0} (n m k : ℕ) (ts own r : List T) → ts ≡ own ++ r → room turn n own ≡ Some m → (o : Outcome T B) → Keeps turn m k r o → Keeps turn n k ts o
  join n m k ts own r e h (Got v rest) x = (own ++ x.0, e ∙ ap (λ r. own ++ r) x.1 ∙ sym (append_assoc own x.0 rest), room_join turn n m own x.0 h ∙ x.2)
  join n m k ts own r e h (Wrong rest) x = (own ++ x.0, x.1, e ∙ ap (λ r. own ++ r) x.2 ∙ sym (append_assoc own x.0 rest), room_join turn n m own x.0 h ∙ x.3)
  join n m k ts own r e h (Deep rest) x = (own ++ x.0, x.1, x.2, x.3, e ∙ ap (λ r. own ++ r) x.4 ∙ sym (append_assoc own x.0 rest), room_join turn n m own x.0 h ∙ x.5, x.6)

  pub room_then : {A B : Type 0} (n m k : ℕ) {p : Reader T A} {q : A → Reader T B} → Room turn n m p → ((a : A) → Room turn m k (q a)) → Room turn n k (then p q)
  room_then {A} {B} n m k {p} {q} f g = record { keeps = λ ts. on ts (p ts) (f.keeps ts) }
    where
      on : (ts : List T) (o : Outcome T A) → Keeps turn n m ts o → Keeps turn n k ts (onward o q)
      on ts (Got v r) x = join n m k ts x.0 r x.1 x.2 (q v r) ((g v).keeps r)
      on ts (Wrong r) x = x
      on ts (Deep r) x = x

  keeps_seen : {A B : Type 0} (n m : ℕ) (h : A → B) (ts : List T) (o : Outcome T A) → Keeps turn n m ts o → Keeps turn n m ts (seen_as h o)
  keeps_seen n m h ts (Got v r) x = x
  keeps_seen n m h ts (Wrong r) x = x
  keeps_seen n m h ts (Deep r) x = x

  pub room_mapped : {A B : Type 0} (n m : ℕ) (h : A → B) {p : Reader T A} → Room turn n m p → Room turn n m (read_mapped h p)
  room_mapped n m h {p} f = record { keeps = λ ts. keeps_seen n m h ts (p ts) (f.keeps ts) }

  pub room_optional : {A : Type 0} (n : ℕ) (begin : T → Bool) {p : Reader T A} → Room turn n n p → Room turn n n (read_optional begin p)
  room_optional {A} n begin {p} f = record { keeps = λ ts. chosen ts (begins begin ts) }
    where
      chosen : (ts : List T) (b : Bool) → Keeps turn n n ts (cond b (seen_as Some (p ts)) (Got None ts))
      chosen ts true = keeps_seen n n Some ts (p ts) (f.keeps ts)
      chosen ts false = ([], refl, refl)

  pub room_either : {A : Type 0} (n m : ℕ) (begin : T → Bool) {p q : Reader T A} → Room turn n m p → Room turn n m q → Room turn n m (read_either begin p q)
  room_either {A} n m begin {p} {q} f g = record { keeps = λ ts. chosen ts (begins begin ts) }
    where
      chosen : (ts : List T) (b : Bool) → Keeps turn n m ts (cond b (p ts) (q ts))
      chosen ts true = f.keeps ts
      chosen ts false = g.keeps ts

  pub room_repeated : {A : Type 0} (n : ℕ) (begin : T → Bool) {p : Reader T A} → Room turn n n p → Room turn n n (read_repeated begin p)
  unfolding read_repeated
  room_repeated {A} n begin {p} f = record { keeps = λ ts. all (length ts) ts }
    where
      round : (k : ℕ) (ts : List T) → ((r : List T) → Keeps turn n n r (rounds k begin p r)) → (o : Outcome T A) → Keeps turn n n ts o → Keeps turn n n ts (onward o (λ v rest. before v (rounds k begin p rest)))
      round k ts ih (Got v r) x = keeps_seen n n (λ vs. v ∷ vs) ts (rounds k begin p r) (join n n n ts x.0 r x.1 x.2 (rounds k begin p r) (ih r))
      round k ts ih (Wrong r) x = x
      round k ts ih (Deep r) x = x

      chosen : (k : ℕ) (ts : List T) (b : Bool) → ((r : List T) → Keeps turn n n r (rounds k begin p r)) → Keeps turn n n ts (cond b (onward (p ts) (λ v rest. before v (rounds k begin p rest))) (Got [] ts))
      chosen k ts true ih = round k ts ih (p ts) (f.keeps ts)
      chosen k ts false ih = ([], refl, refl)

      all : (k : ℕ) (ts : List T) → Keeps turn n n ts (rounds k begin p ts)
      all zero ts = ([], refl, refl)
      all (suc k) ts = chosen k ts (begins begin ts) (all k)

  pub room_trailing : {A : Type 0} (n : ℕ) (separates begin : T → Bool) {p : Reader T A} → ((c : T) → separates c ≡ true → turn c ≡ Plain) → Room turn n n p → Room turn n n (read_trailing separates begin p)
  unfolding read_trailing
  room_trailing {A} n separates begin {p} plain f = record { keeps = λ ts. all (length ts) ts }
    where
      round : (k : ℕ) (ts : List T) → ((r : List T) → Keeps turn n n r (tail k separates begin p r)) → (o : Outcome T A) → Keeps turn n n ts o → Keeps turn n n ts (onward o (λ v rest. before v (tail k separates begin p rest)))
      round k ts ih (Got v r) x = keeps_seen n n (λ vs. v ∷ vs) ts (tail k separates begin p r) (join n n n ts x.0 r x.1 x.2 (tail k separates begin p r) (ih r))
      round k ts ih (Wrong r) x = x
      round k ts ih (Deep r) x = x

      begun : (k : ℕ) (cs : List T) (b : Bool) → ((r : List T) → Keeps turn n n r (tail k separates begin p r)) → Keeps turn n n cs (cond b (onward (p cs) (λ v rest. before v (tail k separates begin p rest))) (Got [] cs))
      begun k cs true ih = round k cs ih (p cs) (f.keeps cs)
      begun k cs false ih = ([], refl, refl)

      chosen : (k : ℕ) (c : T) (cs : List T) (b : Bool) → separates c ≡ b → ((r : List T) → Keeps turn n n r (tail k separates begin p r)) → Keeps turn n n (c ∷ cs) (cond b (cond (begins begin cs) (onward (p cs) (λ v rest. before v (tail k separates begin p rest))) (Got [] cs)) (Got [] (c ∷ cs)))
      chosen k c cs true e ih =
          join n n n (c ∷ cs) (c ∷ []) cs refl (ap (λ t. onto (turned t n) (λ m. Some m)) (plain c e)) (cond (begins begin cs) (onward (p cs) (λ v rest. before v (tail k separates begin p rest))) (Got [] cs)) (begun k cs (begins begin cs) ih)
      chosen k c cs false e ih = ([], refl, refl)

      all : (k : ℕ) (ts : List T) → Keeps turn n n ts (tail k separates begin p ts)
      all zero ts = ([], refl, refl)
      all (suc k) [] = ([], refl, refl)
      all (suc k) (c ∷ cs) = chosen k c cs (separates c) refl (all k)

  pub room_deep : {V : Type 0} (m : ℕ) (opens : T → Bool) → ((c : T) → opens c ≡ true → turn c ≡ Opens) → Room turn 0 m (read_deep {T = T} {V = V} opens)
  room_deep {V} m opens is = record { keeps = keeps }
    where
      chosen : (c : T) (cs : List T) (b : Bool) → opens c ≡ b → Keeps {V = V} turn 0 m (c ∷ cs) (cond b (Deep (c ∷ cs)) (Wrong (c ∷ cs)))
      chosen c cs true e = ([], c, cs, refl, refl, refl, is c e)
      chosen c cs false e = ([], 0, refl, refl)

      keeps : (ts : List T) → Keeps {V = V} turn 0 m ts (read_deep opens ts)
      keeps [] = ([], 0, refl, refl)
      keeps (c ∷ cs) = chosen c cs (opens c) refl

  pub room_run : {V : Type 0} (n : ℕ) (starts : T → Bool) (fits : List V → T → Option V) (seen : List V) → ((seen : List V) (c : T) (v : V) → fits seen c ≡ Some v → turn c ≡ Plain) → Room turn n n (read_run starts fits seen)
  room_run {V} n starts fits seen plain = record { keeps = all seen }
    where
      on : (seen : List V) (c : T) (cs : List T) (o : Option V) → fits seen c ≡ o → ((v : V) → Keeps turn n n cs (read_run starts fits (v ∷ seen) cs)) → Keeps turn n n (c ∷ cs) (run_on o (c ∷ cs) (λ v. read_run starts fits (v ∷ seen) cs))
      on seen c cs None e ih = ([], n, refl, refl)
      on seen c cs (Some v) e ih =
          let rest = read_run starts fits (v ∷ seen) cs in
          seen_keeps v (c ∷ cs) rest (join n n n (c ∷ cs) (c ∷ []) cs refl (ap (λ t. onto (turned t n) (λ m. Some m)) (plain seen c v e)) rest (ih v))
        where
          seen_keeps : (v : V) (ts : List T) (o : Outcome T (List V)) → Keeps turn n n ts o → Keeps turn n n ts (before v o)
          seen_keeps v ts o h = keeps_seen n n (λ vs. v ∷ vs) ts o h

      chosen : (seen : List V) (c : T) (cs : List T) (b : Bool) → ((v : V) → Keeps turn n n cs (read_run starts fits (v ∷ seen) cs)) → Keeps turn n n (c ∷ cs) (cond b (run_on (fits seen c) (c ∷ cs) (λ v. read_run starts fits (v ∷ seen) cs)) (Got [] (c ∷ cs)))
      chosen seen c cs true ih = on seen c cs (fits seen c) refl ih
      chosen seen c cs false ih = ([], refl, refl)

      all : (seen : List V) (ts : List T) → Keeps turn n n ts (read_run starts fits seen ts)
      all seen [] = ([], refl, refl)
      all seen (c ∷ cs) = chosen seen c cs (starts c) (λ v. all (v ∷ seen) cs)

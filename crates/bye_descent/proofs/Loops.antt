-- A loop over rounds of tokens: what is read so far, and what the rest comes to.
use Rattle.std.proofs.Common.{◌≡◌, refl, ℕ, zero, suc, ◌<◌, ◌≤◌, Bool, true, false, cond, List, ◌∷◌, [], ◌++◌, Option, Some, None, Result, Err, sym, ◌∙◌, ap, subst, append_assoc, arith, length, map, reverse}
use Rattle.std.specs.List.{flat_map}
use Rattle.std.proofs.lemmas.List.{append-nil, reverse-append}
use Rattle.bye_tokens.specs.declared.token.Placed.{Placed}
use Rattle.bye_parts.specs.Readers.{Outcome, Reader, Got, Wrong, Deep, onward, begins, seen_as, before, taken, read_token, rounds, read_repeated, tail, read_trailing, run_on, read_run}
use Rattle.bye_parts.proofs.Sets.{when, unless}
use Rattle.bye_descent.specs.declared.stop.Stop.{Stop}
use Rattle.bye_descent.specs.declared.stop.Stop.TheVariants as stops
use Rattle.bye_descent.specs.Places.{after}
use Rattle.bye_descent.specs.Told.{Stopped, ToldAs}
use Rattle.bye_descent.proofs.Takes.{Takes, shorter}

-- what a reader that stops tells
pub told_stop : {R V : Type 0} (view : R → V) (r : Result R Stop) (stop : Stop) (left : List Placed) (o : Outcome Placed V) → r ≡ Err stop → Stopped stop left o → ToldAs view r left o
told_stop view r stop left o e h = subst (λ r. ToldAs view r left o) (sym e) h

-- a stop stays where more comes after it
stop_onward : {A B : Type 0} (q : A → Reader Placed B) (o : Outcome Placed A) (stop : Stop) (left : List Placed) → Stopped stop left o → Stopped stop left (onward o q)
stop_onward q o stops.Wrong left h = ap (λ o. onward o q) h
stop_onward q o stops.Deep left h = ap (λ o. onward o q) h
stop_onward q o stops.Memory left h = tt

stop_along : {V : Type 0} (stop : Stop) (left : List Placed) (o whole : Outcome Placed V) → o ≡ whole → Stopped stop left o → Stopped stop left whole
stop_along stop left o whole e h = subst (λ o. Stopped stop left o) e h

-- a value of rounds that is made of one of them and the others
made_of : {T V W : Type 0} (f : List V → W) (v : V) (o : Outcome T (List V)) → onward (before v o) (λ vs rest. Got (f vs) rest) ≡ onward o (λ vs rest. Got (f (v ∷ vs)) rest)
made_of f v (Got vs r) = refl
made_of f v (Wrong r) = refl
made_of f v (Deep r) = refl

-- the same value, made otherwise
alike : {T V W : Type 0} (f g : List V → W) → ((vs : List V) → g vs ≡ f vs) → (o : Outcome T (List V)) → onward o (λ vs rest. Got (g vs) rest) ≡ onward o (λ vs rest. Got (f vs) rest)
alike f g e (Got vs r) = ap (λ w. Got w r) (e vs)
alike f g e (Wrong r) = refl
alike f g e (Deep r) = refl

-- a loop begins with nothing
pub from_none : {T V : Type 0} (o : Outcome T (List V)) → onward o (λ vs rest. Got ([] ++ vs) rest) ≡ o
from_none (Got vs r) = refl
from_none (Wrong r) = refl
from_none (Deep r) = refl

module _ {V : Type 0} (starts : Placed → Bool) (p : Reader Placed V) (takes : Takes p) where
  enough : (n m : ℕ) (ts : List Placed) → length ts ≤ n → length ts ≤ m → rounds n starts p ts ≡ rounds m starts p ts
  enough zero zero ts l k = refl
  enough zero (suc m) [] l k = refl
  enough zero (suc m) (c ∷ cs) l k = absurd (omega (arith, l))
  enough (suc n) zero [] l k = refl
  enough (suc n) zero (c ∷ cs) l k = absurd (omega (arith, k))
  enough (suc n) (suc m) ts l k =
      let same : (o : Outcome Placed V) → p ts ≡ o → onward o (λ v rest. before v (rounds n starts p rest)) ≡ onward o (λ v rest. before v (rounds m starts p rest)) =
      λ o. elim o as (λ o. p ts ≡ o → onward o (λ v rest. before v (rounds n starts p rest)) ≡ onward o (λ v rest. before v (rounds m starts p rest))) [
        | Got v rest ↦ λ e. let s = shorter takes ts rest v e in ap (λ o. before v o) (enough n m rest (omega (arith, s, l)) (omega (arith, s, k)))
        | Wrong rest ↦ λ e. refl
        | Deep rest ↦ λ e. refl
      ] in
      ap (λ o. cond (begins starts ts) o (Got [] ts)) (same (p ts) refl)

  unroll : (ts : List Placed) → read_repeated starts p ts ≡ cond (begins starts ts) (onward (p ts) (λ v rest. before v (read_repeated starts p rest))) (Got [] ts)
  unfolding read_repeated
  unroll [] = refl
  unroll (c ∷ cs) =
      let same : (o : Outcome Placed V) → p (c ∷ cs) ≡ o → onward o (λ v rest. before v (rounds (length cs) starts p rest)) ≡ onward o (λ v rest. before v (rounds (length rest) starts p rest)) =
      λ o. elim o as (λ o. p (c ∷ cs) ≡ o → onward o (λ v rest. before v (rounds (length cs) starts p rest)) ≡ onward o (λ v rest. before v (rounds (length rest) starts p rest))) [
        | Got v rest ↦ λ e. let s = shorter takes (c ∷ cs) rest v e in ap (λ o. before v o) (enough (length cs) (length rest) rest (omega (arith, s)) (omega arith))
        | Wrong rest ↦ λ e. refl
        | Deep rest ↦ λ e. refl
      ] in
      ap (λ o. cond (starts c) o (Got [] (c ∷ cs))) (same (p (c ∷ cs)) refl)

  begun : (ts : List Placed) → begins starts ts ≡ true → read_repeated starts p ts ≡ onward (p ts) (λ v rest. before v (read_repeated starts p rest))
  begun ts b = unroll ts ∙ when (begins starts ts) (onward (p ts) (λ v rest. before v (read_repeated starts p rest))) (Got [] ts) b

  module _ {W : Type 0} (f : List V → W) (ts : List Placed) (whole : Outcome Placed W) (h : onward (read_repeated starts p ts) (λ vs rest. Got (f vs) rest) ≡ whole) where
    -- a round was read
    pub round_on : (g : List V → W) (v : V) (rest : List Placed) → ((vs : List V) → g vs ≡ f (v ∷ vs)) → begins starts ts ≡ true → p ts ≡ Got v rest → onward (read_repeated starts p rest) (λ vs rest. Got (g vs) rest) ≡ whole
    round_on g v rest same b e =
        alike (λ vs. f (v ∷ vs)) g same (read_repeated starts p rest)
        ∙ sym (ap (λ o. onward o (λ vs rest. Got (f vs) rest)) (begun ts b ∙ ap (λ o. onward o (λ v rest. before v (read_repeated starts p rest))) e) ∙ made_of f v (read_repeated starts p rest)) ∙ h

    -- no round begins
    pub round_end : begins starts ts ≡ false → whole ≡ Got (f []) ts
    round_end b =
        sym h ∙ ap (λ o. onward o (λ vs rest. Got (f vs) rest)) (unroll ts ∙ unless (begins starts ts) (onward (p ts) (λ v rest. before v (read_repeated starts p rest))) (Got [] ts) b)

    -- a round stopped
    pub round_stops : (stop : Stop) (left : List Placed) → begins starts ts ≡ true → Stopped stop left (p ts) → Stopped stop left whole
    round_stops stop left b s =
        stop_along stop left _ whole (ap (λ o. onward o (λ vs rest. Got (f vs) rest)) (sym (begun ts b)) ∙ h)
        (stop_onward (λ vs rest. Got (f vs) rest) (onward (p ts) (λ v rest. before v (read_repeated starts p rest))) stop left (stop_onward (λ v rest. before v (read_repeated starts p rest)) (p ts) stop left s))

-- lists that grow by what a round adds
pub grown : {V W : Type 0} (add : V → List W) (all more : List W) (v : V) → more ≡ all ++ add v → (vs : List V) → more ++ flat_map add vs ≡ all ++ flat_map add (v ∷ vs)
grown add all more v e vs = ap (λ xs. xs ++ flat_map add vs) e ∙ append_assoc all (add v) (flat_map add vs)

-- lists that grow by a value
pub longer : {V : Type 0} (all more : List V) (v : V) → more ≡ all ++ v ∷ [] → (vs : List V) → more ++ vs ≡ all ++ v ∷ vs
longer all more v e vs = ap (λ xs. xs ++ vs) e ∙ append_assoc all (v ∷ []) vs

pub longer_mapped : {V W : Type 0} (h : V → W) (all more : List W) (v : V) → more ≡ all ++ h v ∷ [] → (vs : List V) → more ++ map h vs ≡ all ++ map h (v ∷ vs)
longer_mapped h all more v e vs = ap (λ xs. xs ++ map h vs) e ∙ append_assoc all (h v ∷ []) (map h vs)

-- each value of a list that is seen as another
pub mapped_join : {A B : Type 0} (f : A → B) (xs ys : List A) → map f (xs ++ ys) ≡ map f xs ++ map f ys
mapped_join f [] ys = refl
mapped_join f (x ∷ xs) ys = ap (λ t. f x ∷ t) (mapped_join f xs ys)

-- nothing is added at the end
pub at_end : {W : Type 0} (all : List W) (ts : List Placed) (whole : Outcome Placed (List W)) → whole ≡ Got (all ++ []) ts → whole ≡ Got all ts
at_end all ts whole e = e ∙ ap (λ xs. Got xs ts) (append-nil all)

-- the same for rounds after separators
module _ {V : Type 0} (separates starts : Placed → Bool) (p : Reader Placed V) (takes : Takes p) where
  tail_enough : (n m : ℕ) (ts : List Placed) → length ts ≤ n → length ts ≤ m → tail n separates starts p ts ≡ tail m separates starts p ts
  tail_enough zero zero ts l k = refl
  tail_enough zero (suc m) [] l k = refl
  tail_enough zero (suc m) (c ∷ cs) l k = absurd (omega (arith, l))
  tail_enough (suc n) zero [] l k = refl
  tail_enough (suc n) zero (c ∷ cs) l k = absurd (omega (arith, k))
  tail_enough (suc n) (suc m) [] l k = refl
  tail_enough (suc n) (suc m) (c ∷ cs) l k =
      let same : (o : Outcome Placed V) → p cs ≡ o → onward o (λ v rest. before v (tail n separates starts p rest)) ≡ onward o (λ v rest. before v (tail m separates starts p rest)) =
      λ o. elim o as (λ o. p cs ≡ o → onward o (λ v rest. before v (tail n separates starts p rest)) ≡ onward o (λ v rest. before v (tail m separates starts p rest))) [
        | Got v rest ↦ λ e. let s = shorter takes cs rest v e in ap (λ o. before v o) (tail_enough n m rest (omega (arith, s, l)) (omega (arith, s, k)))
        | Wrong rest ↦ λ e. refl
        | Deep rest ↦ λ e. refl
      ] in
      ap (λ o. cond (separates c) (cond (begins starts cs) o (Got [] cs)) (Got [] (c ∷ cs))) (same (p cs) refl)

  tail_unroll : (c : Placed) (cs : List Placed) → read_trailing separates starts p (c ∷ cs)
      ≡ cond (separates c) (cond (begins starts cs) (onward (p cs) (λ v rest. before v (read_trailing separates starts p rest))) (Got [] cs)) (Got [] (c ∷ cs))
  unfolding read_trailing
  tail_unroll c cs =
      let same : (o : Outcome Placed V) → p cs ≡ o → onward o (λ v rest. before v (tail (length cs) separates starts p rest)) ≡ onward o (λ v rest. before v (tail (length rest) separates starts p rest)) =
      λ o. elim o as (λ o. p cs ≡ o → onward o (λ v rest. before v (tail (length cs) separates starts p rest)) ≡ onward o (λ v rest. before v (tail (length rest) separates starts p rest))) [
        | Got v rest ↦ λ e. let s = shorter takes cs rest v e in ap (λ o. before v o) (tail_enough (length cs) (length rest) rest (omega (arith, s)) (omega arith))
        | Wrong rest ↦ λ e. refl
        | Deep rest ↦ λ e. refl
      ] in
      ap (λ o. cond (separates c) (cond (begins starts cs) o (Got [] cs)) (Got [] (c ∷ cs))) (same (p cs) refl)

  -- after a separator: a round, where one begins
  tail_round : (ts : List Placed) → begins separates ts ≡ true → begins starts (after ts) ≡ true → read_trailing separates starts p ts ≡ onward (p (after ts)) (λ v rest. before v (read_trailing separates starts p rest))
  tail_round [] b s = cc
  tail_round (c ∷ cs) b s =
      tail_unroll c cs ∙ when (separates c) (cond (begins starts cs) (onward (p cs) (λ v rest. before v (read_trailing separates starts p rest))) (Got [] cs)) (Got [] (c ∷ cs)) b
      ∙ when (begins starts cs) (onward (p cs) (λ v rest. before v (read_trailing separates starts p rest))) (Got [] cs) s

  tail_last : (ts : List Placed) → begins separates ts ≡ true → begins starts (after ts) ≡ false → read_trailing separates starts p ts ≡ Got [] (after ts)
  tail_last [] b s = cc
  tail_last (c ∷ cs) b s =
      tail_unroll c cs ∙ when (separates c) (cond (begins starts cs) (onward (p cs) (λ v rest. before v (read_trailing separates starts p rest))) (Got [] cs)) (Got [] (c ∷ cs)) b
      ∙ unless (begins starts cs) (onward (p cs) (λ v rest. before v (read_trailing separates starts p rest))) (Got [] cs) s

  tail_none : (ts : List Placed) → begins separates ts ≡ false → read_trailing separates starts p ts ≡ Got [] ts
  unfolding read_trailing
  tail_none [] b = refl
  tail_none (c ∷ cs) b = unless (separates c) (cond (begins starts cs) (onward (p cs) (λ v rest. before v (tail (length cs) separates starts p rest))) (Got [] cs)) (Got [] (c ∷ cs)) b

  module _ {W : Type 0} (f : List V → W) (ts : List Placed) (whole : Outcome Placed W) (h : onward (read_trailing separates starts p ts) (λ vs rest. Got (f vs) rest) ≡ whole) where
    -- a separator and a round were read
    pub trail_on : (g : List V → W) (v : V) (rest : List Placed) → ((vs : List V) → g vs ≡ f (v ∷ vs)) → begins separates ts ≡ true → begins starts (after ts) ≡ true → p (after ts) ≡ Got v rest → onward (read_trailing separates starts p rest) (λ vs rest. Got (g vs) rest) ≡ whole
    trail_on g v rest same b s e =
        alike (λ vs. f (v ∷ vs)) g same (read_trailing separates starts p rest)
        ∙ sym (ap (λ o. onward o (λ vs rest. Got (f vs) rest)) (tail_round ts b s ∙ ap (λ o. onward o (λ v rest. before v (read_trailing separates starts p rest))) e) ∙ made_of f v (read_trailing separates starts p rest)) ∙ h

    -- no separator stands there
    pub trail_end : begins separates ts ≡ false → whole ≡ Got (f []) ts
    trail_end b = sym h ∙ ap (λ o. onward o (λ vs rest. Got (f vs) rest)) (tail_none ts b)

    -- a separator stands at the end
    pub trail_last : begins separates ts ≡ true → begins starts (after ts) ≡ false → whole ≡ Got (f []) (after ts)
    trail_last b s = sym h ∙ ap (λ o. onward o (λ vs rest. Got (f vs) rest)) (tail_last ts b s)

    -- a round after a separator stopped
    pub trail_stops : (stop : Stop) (left : List Placed) → begins separates ts ≡ true → begins starts (after ts) ≡ true → Stopped stop left (p (after ts)) → Stopped stop left whole
    trail_stops stop left b s e =
        stop_along stop left _ whole (ap (λ o. onward o (λ vs rest. Got (f vs) rest)) (sym (tail_round ts b s)) ∙ h)
        (stop_onward (λ vs rest. Got (f vs) rest) (onward (p (after ts)) (λ v rest. before v (read_trailing separates starts p rest))) stop left (stop_onward (λ v rest. before v (read_trailing separates starts p rest)) (p (after ts)) stop left e))

pub after_shorter : (ts : List Placed) (n : ℕ) → n < length (after ts) → n < length ts
after_shorter [] n h = h
after_shorter (c ∷ cs) n h = omega (arith, h)

-- the same for a run of tokens, each of which is tried after the values before it
module _ {V W : Type 0} (starts : Placed → Bool) (fits : List V → Placed → Option V) (seen : List V) (f : List V → W) where
  run_taken : (c : Placed) (cs rest : List Placed) (v : V) (o : Option V) → taken o c cs ≡ Got v rest → run_on o (c ∷ cs) (λ v. read_run starts fits (v ∷ seen) cs) ≡ before v (read_run starts fits (v ∷ seen) rest)
  run_taken c cs rest v None e = cc
  run_taken c cs rest v (Some w) e = let value : w ≡ v = cc in let left : cs ≡ rest = cc in ap (λ v. before v (read_run starts fits (v ∷ seen) cs)) value ∙ ap (λ ts. before v (read_run starts fits (v ∷ seen) ts)) left

  -- a token fits
  pub run_goes : (ts rest : List Placed) (v : V) (whole : Outcome Placed W) (g : List V → W) (again : List V) → ((vs : List V) → g vs ≡ f (v ∷ vs)) → again ≡ v ∷ seen → onward (read_run starts fits seen ts) (λ vs rest. Got (f vs) rest) ≡ whole
      → begins starts ts ≡ true → read_token (fits seen) ts ≡ Got v rest → onward (read_run starts fits again rest) (λ vs rest. Got (g vs) rest) ≡ whole
  run_goes [] rest v whole g again same is h b e = cc
  run_goes (c ∷ cs) rest v whole g again same is h b e =
      ap (λ s. onward (read_run starts fits s rest) (λ vs rest. Got (g vs) rest)) is
      ∙ alike (λ vs. f (v ∷ vs)) g same (read_run starts fits (v ∷ seen) rest)
      ∙ sym (ap (λ o. onward o (λ vs rest. Got (f vs) rest)) (when (starts c) (run_on (fits seen c) (c ∷ cs) (λ v. read_run starts fits (v ∷ seen) cs)) (Got [] (c ∷ cs)) b ∙ run_taken c cs rest v (fits seen c) e) ∙ made_of f v (read_run starts fits (v ∷ seen) rest)) ∙ h

  -- no token begins
  pub run_end : (ts : List Placed) (whole : Outcome Placed W) → onward (read_run starts fits seen ts) (λ vs rest. Got (f vs) rest) ≡ whole → begins starts ts ≡ false → whole ≡ Got (f []) ts
  run_end [] whole h b = sym h
  run_end (c ∷ cs) whole h b = sym h ∙ ap (λ o. onward o (λ vs rest. Got (f vs) rest)) (unless (starts c) (run_on (fits seen c) (c ∷ cs) (λ v. read_run starts fits (v ∷ seen) cs)) (Got [] (c ∷ cs)) b)

  run_stop : (c : Placed) (cs left : List Placed) (o : Option V) (stop : Stop) → Stopped stop left (taken o c cs) → Stopped stop left (run_on o (c ∷ cs) (λ v. read_run starts fits (v ∷ seen) cs))
  run_stop c cs left None stops.Wrong e = let same : c ∷ cs ≡ left = cc in ap (λ ts. Wrong ts) same
  run_stop c cs left None stops.Deep e = cc
  run_stop c cs left None stops.Memory e = tt
  run_stop c cs left (Some v) stops.Wrong e = cc
  run_stop c cs left (Some v) stops.Deep e = cc
  run_stop c cs left (Some v) stops.Memory e = tt

  -- a token does not fit
  pub run_stops : (ts left : List Placed) (whole : Outcome Placed W) (stop : Stop) → onward (read_run starts fits seen ts) (λ vs rest. Got (f vs) rest) ≡ whole → begins starts ts ≡ true → Stopped stop left (read_token (fits seen) ts) → Stopped stop left whole
  run_stops [] left whole stop h b e = cc
  run_stops (c ∷ cs) left whole stop h b e =
      stop_along stop left _ whole (ap (λ o. onward o (λ vs rest. Got (f vs) rest)) (sym (when (starts c) (run_on (fits seen c) (c ∷ cs) (λ v. read_run starts fits (v ∷ seen) cs)) (Got [] (c ∷ cs)) b)) ∙ h)
      (stop_onward (λ vs rest. Got (f vs) rest) (run_on (fits seen c) (c ∷ cs) (λ v. read_run starts fits (v ∷ seen) cs)) stop left (run_stop c cs left (fits seen c) stop e))

-- declarations, the last first
pub one_declared : {A : Type 0} (old new : List A) (d : A) → new ≡ d ∷ old → (ds : List A) → reverse ds ++ new ≡ reverse (d ∷ ds) ++ old
one_declared old new d e ds = ap (λ xs. reverse ds ++ xs) e ∙ sym (ap (λ xs. xs ++ old) (reverse-append (d ∷ []) ds) ∙ append_assoc (reverse ds) (d ∷ []) old)

pub none_declared : {A : Type 0} (o : Outcome Placed (List A)) (none : List A) → none ≡ [] → onward o (λ ds rest. Got (reverse ds ++ none) rest) ≡ seen_as reverse o
none_declared (Got ds rest) none e = ap (λ xs. Got (reverse ds ++ xs) rest) e ∙ ap (λ xs. Got xs rest) (append-nil (reverse ds))
none_declared (Wrong rest) none e = refl
none_declared (Deep rest) none e = refl

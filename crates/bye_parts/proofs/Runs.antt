-- Repetitions of a token whose test sees the values before it.
use Rattle.std.proofs.Common.{◌≡◌, refl, ℕ, Bool, true, false, cond, List, ◌∷◌, [], ◌++◌, Option, Some, None, inl, sym, ◌∙◌, ap, arith}
use Rattle.bye_parts.specs.Parts.{Run, run}
use Rattle.bye_parts.specs.Readers.{Outcome, Got, Wrong, Deep, before, run_on, read_run}
use Rattle.bye_parts.specs.Sets.{has}
use Rattle.bye_parts.proofs.Sets.{no_yes, when, unless}
use Rattle.bye_parts.proofs.TokenKinds.{Kinds, Apart}
use Rattle.bye_parts.proofs.Shapes.{Shape}
use Rattle.bye_parts.proofs.Forth.{Past, Forth, past_seen, past_along, past_if}
use Rattle.bye_parts.proofs.Back.{Shown, Back}

module _ {T V : Type 0} (K : Kinds T) (F : List ℕ) (fits : List V → T → Option V) (first : (seen : List V) (t : T) (v : V) → fits seen t ≡ Some v → has F (K.kind t) ≡ true) where
  run_starts : (seen : List V) (c : T) (t : List T) (vs : List V) → Run fits seen (c ∷ t) vs → has F (K.kind c) ≡ true
  run_starts seen c t [] h = absurd h
  run_starts seen c t (v ∷ vs) h = first seen c v h.0

  run_closed : (seen : List V) (x y : List T) (vs : List V) → Run fits seen (x ++ y) vs → (ws : List V) × Run fits seen x ws
  run_closed seen [] y vs h = ([], refl)
  run_closed seen (c ∷ x) y [] h = absurd h
  run_closed seen (c ∷ x) y (v ∷ vs) h = let k = run_closed (v ∷ seen) x y vs h.1 in (v ∷ k.0, (h.0, k.1))

  run_alike : ((seen : List V) (t u : T) (v : V) → K.Alike t u → fits seen t ≡ Some v → (w : V) × (fits seen u ≡ Some w)) → (seen : List V) (x : List T) (t u : T) (vs : List V) → K.Alike t u
      → Run fits seen (x ++ t ∷ []) vs → (ws : List V) × Run fits seen (x ++ u ∷ []) ws
  run_alike other seen [] t u [] a h = absurd h
  run_alike other seen [] t u (v ∷ vs) a h = let w = other seen t u v a h.0 in (w.0 ∷ [], (w.1, refl))
  run_alike other seen (c ∷ x) t u [] a h = absurd h
  run_alike other seen (c ∷ x) t u (v ∷ vs) a h = let k = run_alike other (v ∷ seen) x t u vs a h.1 in (v ∷ k.0, (h.0, k.1))

  pub shape_run : ((seen : List V) (t u : T) (v : V) → K.Alike t u → fits seen t ≡ Some v → (w : V) × (fits seen u ≡ Some w)) → (seen : List V) → Shape K true F (run fits seen)
  shape_run other seen = record {
    some = λ e v h. no_yes e;
    starts = λ c t h. run_starts seen c t h.0 h.1;
    empty = ([], refl);
    whole = λ t vs h. (vs, h);
    closed = λ x y h. run_closed seen x y h.0 h.1;
    alike = λ x t u a h. run_alike other seen x t u h.0 a h.1;
  }

  module _ (starts : T → Bool) (same : (c : T) → starts c ≡ has F (K.kind c)) where
    next : (seen : List V) (c : T) (cs : List T) → Outcome T (List V)
    next seen c cs = run_on (fits seen c) (c ∷ cs) (λ v. read_run starts fits (v ∷ seen) cs)

    one : (seen : List V) (c : T) (cs : List T) (v : V) → fits seen c ≡ Some v → read_run starts fits seen (c ∷ cs) ≡ before v (read_run starts fits (v ∷ seen) cs)
    one seen c cs v h =
        when (starts c) (run_on (fits seen c) (c ∷ cs) (λ v. read_run starts fits (v ∷ seen) cs)) (Got [] (c ∷ cs)) (same c ∙ first seen c v h)
        ∙ ap (λ o. run_on o (c ∷ cs) (λ v. read_run starts fits (v ∷ seen) cs)) h

    ends : (seen : List V) (more : List T) → Apart K F more → read_run starts fits seen more ≡ Got [] more
    ends seen [] a = refl
    ends seen (c ∷ cs) a = unless (starts c) (run_on (fits seen c) (c ∷ cs) (λ v. read_run starts fits (v ∷ seen) cs)) (Got [] (c ∷ cs)) (same c ∙ a)

    run_got : (seen : List V) (own more : List T) (vs : List V) → Run fits seen own vs → Apart K F more → read_run starts fits seen (own ++ more) ≡ Got vs more
    run_got seen [] more vs h a = ends seen more a ∙ ap (λ vs. Got vs more) (sym h)
    run_got seen (c ∷ t) more [] h a = absurd h
    run_got seen (c ∷ t) more (v ∷ vs) h a = one seen c (t ++ more) v h.0 ∙ ap (λ o. before v o) (run_got (v ∷ seen) t more vs h.1 a)

    longer : (c : T) (cs : List T) (o : Outcome T (List V)) → Past cs o → Past (c ∷ cs) o
    longer c cs (Got v r) h = omega (arith, h)
    longer c cs (Wrong r) h = omega (arith, h)
    longer c cs (Deep r) h = tt

    run_short : (seen : List V) (ts : List T) → Past ts (read_run starts fits seen ts)
    run_short seen [] = omega arith
    run_short seen (c ∷ cs) = past_if (c ∷ cs) (starts c) (run_on (fits seen c) (c ∷ cs) (λ v. read_run starts fits (v ∷ seen) cs)) (Got [] (c ∷ cs)) (on (fits seen c) (λ v. run_short (v ∷ seen) cs)) (omega arith)
      where
        on : (o : Option V) → ((v : V) → Past cs (read_run starts fits (v ∷ seen) cs)) → Past (c ∷ cs) (run_on o (c ∷ cs) (λ v. read_run starts fits (v ∷ seen) cs))
        on None h = omega arith
        on (Some v) h = past_seen (c ∷ cs) (λ vs. v ∷ vs) (read_run starts fits (v ∷ seen) cs) (longer c cs (read_run starts fits (v ∷ seen) cs) (h v))

    run_far : (seen : List V) (front more : List T) (vs : List V) → Run fits seen front vs → Past more (read_run starts fits seen (front ++ more))
    run_far seen [] more vs h = run_short seen more
    run_far seen (c ∷ t) more [] h = absurd h
    run_far seen (c ∷ t) more (v ∷ vs) h =
        past_along more (read_run starts fits seen ((c ∷ t) ++ more)) (before v (read_run starts fits (v ∷ seen) (t ++ more))) (one seen c (t ++ more) v h.0)
        (past_seen more (λ vs. v ∷ vs) (read_run starts fits (v ∷ seen) (t ++ more)) (run_far (v ∷ seen) t more vs h.1))

    pub forth_run : (seen : List V) → Forth K F (run fits seen) (read_run starts fits seen)
    forth_run seen = record { got = λ own more vs h a. inl (run_got seen own more vs h a); far = λ front more h. run_far seen front more h.0 h.1; short = run_short seen }

-- what is read of a run derives
module _ {T V : Type 0} (starts : T → Bool) (fits : List V → T → Option V) where
  one_more : (seen : List V) (c : T) (cs : List T) (v : V) (o : Outcome T (List V)) → fits seen c ≡ Some v → Shown (run fits (v ∷ seen)) cs o → Shown (run fits seen) (c ∷ cs) (before v o)
  one_more seen c cs v (Got vs r) e k = (c ∷ k.0, ap (λ t. c ∷ t) k.1, (e, k.2))
  one_more seen c cs v (Wrong r) e k = (c ∷ k.0, ap (λ t. c ∷ t) k.1, (v ∷ k.2.0, (e, k.2.1)))
  one_more seen c cs v (Deep r) e k = (c ∷ k.0, k.1, k.2, k.3, ap (λ t. c ∷ t) k.4, (v ∷ k.5.0, (e, k.5.1)))

  on_one : (seen : List V) (c : T) (cs : List T) (o : Option V) → fits seen c ≡ o → ((v : V) → Shown (run fits (v ∷ seen)) cs (read_run starts fits (v ∷ seen) cs)) → Shown (run fits seen) (c ∷ cs) (run_on o (c ∷ cs) (λ v. read_run starts fits (v ∷ seen) cs))
  on_one seen c cs None e h = ([], refl, ([], refl))
  on_one seen c cs (Some v) e h = one_more seen c cs v (read_run starts fits (v ∷ seen) cs) e (h v)

  on_start : (seen : List V) (c : T) (cs : List T) (b : Bool) → ((v : V) → Shown (run fits (v ∷ seen)) cs (read_run starts fits (v ∷ seen) cs)) → Shown (run fits seen) (c ∷ cs) (cond b (run_on (fits seen c) (c ∷ cs) (λ v. read_run starts fits (v ∷ seen) cs)) (Got [] (c ∷ cs)))
  on_start seen c cs true h = on_one seen c cs (fits seen c) refl h
  on_start seen c cs false h = ([], refl, refl)

  run_shown : (seen : List V) (ts : List T) → Shown (run fits seen) ts (read_run starts fits seen ts)
  run_shown seen [] = ([], refl, refl)
  run_shown seen (c ∷ cs) = on_start seen c cs (starts c) (λ v. run_shown (v ∷ seen) cs)

  pub back_run : (seen : List V) → Back (run fits seen) (read_run starts fits seen)
  back_run seen = record { shown = run_shown seen }

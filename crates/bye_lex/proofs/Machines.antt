-- What a machine reads, from what each of its states still wants.
use Rattle.std.proofs.Common.{◌≡◌, refl, ℕ, List, [], ◌∷◌, ◌++◌, Option, Some, None, option_and_then, sym, ◌∙◌, ap, subst}
use Rattle.bye_lex.specs.Languages.{Viable}
use Rattle.bye_lex.proofs.Branches.{some_same, none_some}
use Rattle.bye_lex.proofs.Scans.{Exact}
use Rattle.bye_lex.specs.Running.{run}

pub bind_some : {S T : Type 0} (o : Option S) (f : S → Option T) (y : T) → option_and_then f o ≡ Some y → (n : S) × (o ≡ Some n) × (f n ≡ Some y)
bind_some None f y e = none_some e
bind_some (Some n) f y e = (n, refl, e)

pub run_append : {S : Type 0} (step : S → ℕ → Option S) (s : S) (front back : List ℕ) → run step s (front ++ back) ≡ option_and_then (λ n. run step n back) (run step s front)
run_append step s [] back = refl
run_append step s (c ∷ cs) back = elim (step s c) as (λ o. option_and_then (λ n. run step n (cs ++ back)) o ≡ option_and_then (λ n. run step n back) (option_and_then (λ n. run step n cs) o)) [ None ↦ refl | Some m ↦ run_append step m cs back ]

-- on from where a front leads
pub run_on : {S : Type 0} (step : S → ℕ → Option S) (s n : S) (front back : List ℕ) → run step s front ≡ Some n → run step s (front ++ back) ≡ run step n back
run_on step s n front back e = run_append step s front back ∙ ap (λ o. option_and_then (λ n. run step n back) o) e

-- one step more
pub run_step : {S : Type 0} (step : S → ℕ → Option S) (s n : S) (front : List ℕ) (c : ℕ) → run step s front ≡ Some n → run step s (front ++ c ∷ []) ≡ step n c
run_step step s n front c e = run_on step s n front (c ∷ []) e ∙ one (step n c)
  where
    one : {S : Type 0} (o : Option S) → option_and_then (λ n. Some n) o ≡ o
    one None = refl
    one (Some n) = refl

-- Left s text value: from the state s on, the text completes what was read, and the whole stands for the value. Good states are
-- those that are reached.
pub record Machine {S V : Type 0} (Left : S → List ℕ → V → Type 0) (step : S → ℕ → Option S) (Good : S → Type 0) : Type 0 where
  pub forth : (s : S) (c : ℕ) (t : List ℕ) (v : V) → Good s → Left s (c ∷ t) v → (n : S) × (step s c ≡ Some n) × Left n t v
  pub back : (s n : S) (c : ℕ) (t : List ℕ) (v : V) → Good s → step s c ≡ Some n → Left n t v → Left s (c ∷ t) v
  pub stays : (s n : S) (c : ℕ) → Good s → step s c ≡ Some n → Good n
  pub can : (s : S) → Good s → Viable (Left s) []

-- the machine of a token is one
pub of_token : {S V : Type 0} (Left : S → List ℕ → V → Type 0) (step : S → ℕ → Option S) (final : S → Option V) → Exact Left step final → Machine Left step (λ s. Viable (Left s) [])
of_token Left step final x = record {
  forth = λ s c t v g h. x.forth s c t v h;
  back = λ s n c t v g e h. x.back s n c t v g e h;
  stays = λ s n c g e. x.alive s n c g e;
  can = λ s g. g;
}

module _ {S V : Type 0} (Left : S → List ℕ → V → Type 0) (step : S → ℕ → Option S) (Good : S → Type 0) (x : Machine Left step Good) where
  pub run_good : (s n : S) (front : List ℕ) → Good s → run step s front ≡ Some n → Good n
  run_good s n [] g e = subst Good (some_same e) g
  run_good s n (c ∷ cs) g e =
      let m = bind_some (step s c) (λ n. run step n cs) n e in
      run_good m.0 n cs (x.stays s m.0 c g m.1) m.2

  pub run_gives : (s : S) (front t : List ℕ) (v : V) → Good s → Left s (front ++ t) v → (n : S) × (run step s front ≡ Some n) × Left n t v
  run_gives s [] t v g h = (s, refl, h)
  run_gives s (c ∷ cs) t v g h =
      let m = x.forth s c (cs ++ t) v g h in
      let n = run_gives m.0 cs t v (x.stays s m.0 c g m.1) m.2 in
      (n.0, ap (λ o. option_and_then (λ n. run step n cs) o) m.1 ∙ n.1, n.2)

  pub run_takes : (s n : S) (front t : List ℕ) (v : V) → Good s → run step s front ≡ Some n → Left n t v → Left s (front ++ t) v
  run_takes s n [] t v g e h = subst (λ (s : S). Left s t v) (sym (some_same e)) h
  run_takes s n (c ∷ cs) t v g e h =
      let m = bind_some (step s c) (λ n. run step n cs) n e in
      x.back s m.0 c (cs ++ t) v g m.1 (run_takes m.0 n cs t v (x.stays s m.0 c g m.1) m.2 h)

  -- a front on which the machine runs can go on
  pub viable : (s n : S) (front : List ℕ) → Good s → run step s front ≡ Some n → Viable (Left s) front
  viable s n front g e =
      let w = x.can n (run_good s n front g e) in
      record { more = w.more; scalars = w.scalars; value = w.value; whole = run_takes s n front w.more w.value g e w.whole }

  -- one on which it stops cannot
  pub not_viable : (s : S) (front : List ℕ) → Good s → run step s front ≡ None → Viable (Left s) front → ⊥
  not_viable s front g e w = let m = run_gives s front w.more w.value g w.whole in none_some (sym e ∙ m.1)

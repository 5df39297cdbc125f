-- Machines of which each state accepts, by a test, the texts that complete what was read.
use Rattle.std.proofs.Common.{◌≡◌, refl, ℕ, Bool, true, false, List, [], ◌∷◌, Option, Some, None, sym, ◌∙◌, ap}
use Rattle.bye_lex.specs.Languages.{Viable}
use Rattle.bye_lex.proofs.Scans.{Exact}

abbrev pub after : {S V : Type 0} → (S → V → List ℕ → Bool) → Option S → V → List ℕ → Bool
after accepts None v text = false
after accepts (Some n) v text = accepts n v text

-- what each state still wants
abbrev pub Left : {S V : Type 0} → (S → V → List ℕ → Bool) → S → List ℕ → V → Type 0
Left accepts s text v = accepts s v text ≡ true

-- a state accepts a text exactly where its next state accepts the rest, and each can go on
pub record Accepts {S V : Type 0} (accepts : S → V → List ℕ → Bool) (step : S → ℕ → Option S) (final : S → Option V) : Type 0 where
  pub takes : (s : S) (v : V) (c : ℕ) (t : List ℕ) → accepts s v (c ∷ t) ≡ after accepts (step s c) v t
  pub can : (s : S) → Viable (Left accepts s) []
  pub ends : (s : S) (v : V) → accepts s v [] ≡ true → final s ≡ Some v
  pub may_end : (s : S) (v : V) → final s ≡ Some v → accepts s v [] ≡ true

pub exact : {S V : Type 0} (accepts : S → V → List ℕ → Bool) (step : S → ℕ → Option S) (final : S → Option V) → Accepts accepts step final → Exact (Left accepts) step final
exact {S} {V} accepts step final x = record {
  forth = λ s c t v h. go s c t v (step s c) refl (sym (x.takes s v c t) ∙ h);
  back = λ s n c t v a e h. x.takes s v c t ∙ ap (λ o. after accepts o v t) e ∙ h;
  alive = λ s n c a e. x.can n;
  ends = x.ends;
  may_end = x.may_end;
}
  where
    go : (s : S) (c : ℕ) (t : List ℕ) (v : V) (o : Option S) → step s c ≡ o → after accepts o v t ≡ true → (n : S) × (step s c ≡ Some n) × Left accepts n t v
    go s c t v None e k = cc
    go s c t v (Some n) e k = (n, e, k)

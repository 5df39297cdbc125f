-- Going down the characters once, with a machine that stops where no continuation is a token.
use Rattle.std.specs.Prelude.{◌≡◌, ℕ, ◌-◌, List, [], ◌∷◌, length, Option, Some, None, Result, Ok, Err}
use Rattle.std.specs.Str.{encode_utf8_all}
use Rattle.bye_lex.specs.declared.fault.LexErr.{LexErr}
use Rattle.bye_lex.specs.declared.fault.LexErr.TheVariants.{NoToken, Cut, Memory}

-- what is found: a value with the place after its token; the place at which no continuation is a token; or the end, where some is
pub data Scanned (V : Type 0) : Type 0 where
  Found : V → ℕ → Scanned V
  Fault : ℕ → Scanned V
  End : Scanned V

-- the place before the rest, in a document of so many bytes
abbrev pub place : ℕ → List ℕ → ℕ
place total rest = total - length (encode_utf8_all rest)

-- the longest token so far, or else the other
abbrev pub settle : {V : Type 0} → Option (V × ℕ) → Scanned V → Scanned V
settle None other = other
settle (Some best) other = Found best.0 best.1

-- the later of two tokens, with the place after it
abbrev pub better : {V : Type 0} → Option V → ℕ → Option (V × ℕ) → Option (V × ℕ)
better None here best = best
better (Some v) here best = Some (v, here)

-- what comes after a step
abbrev pub onward : {S V : Type 0} → Scanned V → (S → Scanned V) → Option S → Scanned V
onward stopped go None = stopped
onward stopped go (Some n) = go n

-- from a state and the longest token so far, with the rest of a document of so many bytes
abbrev pub scan : {S V : Type 0} → (S → ℕ → Option S) → (S → Option V) → ℕ → S → Option (V × ℕ) → List ℕ → Scanned V
scan step final total s best [] = settle best End
scan step final total s best (c ∷ cs) = onward (settle best (Fault (place total (c ∷ cs)))) (λ n. scan step final total n (better (final n) (place total cs) best) cs) (step s c)

-- the answer says what was found, or that memory was refused
abbrev pub Gives : {V : Type 0} → Result (V × ℕ) LexErr → Scanned V → Type 0
Gives (Ok r) (Found v p) = (r.0 ≡ v) × (r.1 ≡ p)
Gives (Err (NoToken place)) (Fault p) = place ≡ p
Gives (Err Cut) End = Unit {0}
Gives (Err Memory) s = Unit {0}
Gives (Ok r) (Fault p) = ⊥
Gives (Ok r) End = ⊥
Gives (Err (NoToken place)) (Found v p) = ⊥
Gives (Err (NoToken place)) End = ⊥
Gives (Err Cut) (Found v p) = ⊥
Gives (Err Cut) (Fault p) = ⊥

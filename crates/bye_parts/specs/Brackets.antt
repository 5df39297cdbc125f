-- How many brackets may still be opened after some tokens.
use Rattle.std.specs.Prelude.{◌≡◌, ℕ, zero, suc, cond, List, [], ◌∷◌, Option, Some, None}
use Rattle.bye_parts.specs.Sets.{has}

-- a token opens a bracket, closes one, or does neither
pub data Turn : Type 0 where
  Opens : Turn
  Closes : Turn
  Plain : Turn

-- by the kinds of tokens that open a bracket and those that close one
abbrev pub turn_of : {T : Type 0} → (T → ℕ) → List ℕ → List ℕ → T → Turn
turn_of kind opening closing t = cond (has opening (kind t)) Opens (cond (has closing (kind t)) Closes Plain)

-- how many may be opened after the token, where n may be before it, and None where that is one too many
abbrev pub turned : Turn → ℕ → Option ℕ
turned Plain n = Some n
turned Closes n = Some (suc n)
turned Opens zero = None
turned Opens (suc n) = Some n

-- the next step, where there is a number
abbrev pub onto : {A B : Type 0} → Option A → (A → Option B) → Option B
onto None f = None
onto (Some x) f = f x

-- how many may be opened after the tokens, where n may be before them, and None where at some place more than n were open
abbrev pub room : {T : Type 0} → (T → Turn) → ℕ → List T → Option ℕ
room turn n [] = Some n
room turn n (c ∷ cs) = onto (turned (turn c) n) (λ m. room turn m cs)

-- at no place in the tokens more than n brackets are open
abbrev pub IsWithin : {T : Type 0} → (T → Turn) → ℕ → List T → Type 0
IsWithin turn n ts = (k : ℕ) × (room turn n ts ≡ Some k)

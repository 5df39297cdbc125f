-- A rule of a grammar is a relation between the texts in the rule and the values that they stand for. A text is the list of
-- its characters.
use Rattle.std.specs.Prelude.{◌≡◌, ◌<◌, ℕ, true, List, [], ◌∷◌, ◌++◌, length}
use Rattle.std.specs.Str.{all_scalars}

-- some continuation of the text is in the rule
pub record Viable {V : Type 0} (L : List ℕ → V → Type 0) (front : List ℕ) : Type 0 where
  pub more : List ℕ
  pub scalars : all_scalars more ≡ true
  pub value : V
  pub whole : L (front ++ more) value

-- the text stops being viable with the character after the front
pub record FaultAfter {V : Type 0} (L : List ℕ → V → Type 0) (text front : List ℕ) : Type 0 where
  pub next : ℕ
  pub rest : List ℕ
  pub parts : text ≡ front ++ next ∷ rest
  pub before : Viable L front
  pub after : Viable L (front ++ next ∷ []) → ⊥

-- the text is a token where the rest follows it: it is in the rule, stands for the value, and no longer one of the two is in
-- the rule
pub record Token {V : Type 0} (L : List ℕ → V → Type 0) (text rest : List ℕ) (value : V) : Type 0 where
  pub is : L text value
  pub longest : (more after : List ℕ) (other : V) → rest ≡ more ++ after → 0 < length more → L (text ++ more) other → ⊥

-- no front of the text is in the rule
abbrev pub NoFront : {V : Type 0} → (List ℕ → V → Type 0) → List ℕ → Type 0
NoFront {V} L text = (front rest : List ℕ) (value : V) → text ≡ front ++ rest → L front value → ⊥

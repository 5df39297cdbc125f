-- What a reader of all tokens may answer, where n brackets may be open at once.
use Rattle.std.specs.Prelude.{◌≡◌, ℕ, List, [], ◌∷◌, ◌++◌, Some, ◌⊎◌}
use Rattle.bye_parts.specs.Parts.{Part}
use Rattle.bye_parts.specs.Readers.{Outcome, Got, Wrong, Deep}
use Rattle.bye_parts.specs.Brackets.{Turn, Opens, room, IsWithin}

-- The tokens from the wrong one on are left: those before it are a front, and with it they are none. Where none are left, the
-- tokens are a front, and do not derive. Before the wrong token no more than n brackets are open at any place.
pub record WrongToken {T V : Type 0} (P : Part T V) (turn : T → Turn) (n : ℕ) (ts left : List T) : Type 0 where
  pub front : List T
  pub parts : ts ≡ front ++ left
  pub before : P.front front
  pub after : (c : T) (cs : List T) → left ≡ c ∷ cs → P.front (front ++ c ∷ []) → ⊥
  pub whole : left ≡ [] → (v : V) → P.derives ts v → ⊥
  pub within : IsWithin turn n front

-- The tokens from a bracket on are left, and up to it, itself included, they are a front. Before it exactly n brackets are open, and
-- at no place more.
pub record DeepToken {T V : Type 0} (P : Part T V) (turn : T → Turn) (n : ℕ) (ts left : List T) : Type 0 where
  pub front : List T
  pub bracket : T
  pub rest : List T
  pub is : left ≡ bracket ∷ rest
  pub parts : ts ≡ front ++ left
  pub fits : P.front (front ++ bracket ∷ [])
  pub opens : turn bracket ≡ Opens
  pub full : room turn n front ≡ Some 0

-- The answer says of the tokens what holds by the grammar. Where they are read, no more than n brackets are open in them at any place.
abbrev pub Answers : {T V : Type 0} → Part T V → (T → Turn) → ℕ → List T → Outcome T V → Type 0
Answers P turn n ts (Got v left) = (left ≡ []) × P.derives ts v × IsWithin turn n ts
Answers P turn n ts (Wrong left) = WrongToken P turn n ts left
Answers P turn n ts (Deep left) = DeepToken P turn n ts left

-- the value and these tokens, or a bracket that is too deep
abbrev pub Comes : {T V : Type 0} → Outcome T V → V → List T → Type 0
Comes {T} o v more = (o ≡ Got v more) ⊎ ((left : List T) × (o ≡ Deep left))

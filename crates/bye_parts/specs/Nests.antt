-- A small grammar that has most of the forms: lists in brackets, whose items are tokens with a value or such lists.
use Rattle.std.specs.Prelude.{ℕ, zero, suc, List, [], ◌∷◌, Option, Some, None}
use Rattle.std.specs.List.{flat_map}
use Rattle.bye_parts.specs.Parts.{Part, ◌>>=◌, token, yield, nothing, either, trailing, mapped, between}
use Rattle.bye_parts.specs.Brackets.{Turn, turn_of}

-- what a token is
pub data Mark (V : Type 0) : Type 0 where
  Opening : Mark V
  Closing : Mark V
  Comma : Mark V
  Item : V → Mark V
  Other : Mark V

-- a bracket that opens a list
abbrev pub opens : {V : Type 0} → Mark V → Option (Unit {0})
opens Opening = Some tt
opens _ = None

-- a bracket that closes a list
abbrev pub closes : {V : Type 0} → Mark V → Option (Unit {0})
closes Closing = Some tt
closes _ = None

-- a comma between items
abbrev pub separates : {V : Type 0} → Mark V → Option (Unit {0})
separates Comma = Some tt
separates _ = None

-- the value of an item that is one token
abbrev pub item : {V : Type 0} → Mark V → Option V
item (Item v) = Some v
item _ = None

-- a number for each kind of token
abbrev pub kind : {V : Type 0} → Mark V → ℕ
kind Opening = 0
kind Closing = 1
kind Comma = 2
kind (Item v) = 3
kind Other = 4

-- what a token does to brackets
abbrev pub nest_turn : {T V : Type 0} → (T → Mark V) → T → Turn
nest_turn mark = turn_of (λ t. kind (mark t)) (0 ∷ []) (1 ∷ [])

-- Entry = Item | Nest
abbrev pub entry : {T V : Type 0} → (T → Mark V) → Part T (List V) → Part T (List V)
entry mark nest = either nest (mapped (λ v. v ∷ []) (token (λ t. item (mark t))))

-- Entry ( ',' Entry )* ','?
abbrev pub entries : {T V : Type 0} → (T → Mark V) → Part T (List V) → Part T (List V)
entries mark nest = do
  first ← entry mark nest
  more ← trailing (token (λ t. separates (mark t))) (entry mark nest)
  yield (flat_map (λ vs. vs) (first ∷ more))

-- Nest = '(' Entry ( ',' Entry )* ','? ')', with so many brackets at most open in one another; all values in order
abbrev pub nest : {T V : Type 0} → (T → Mark V) → ℕ → Part T (List V)
nest mark zero = nothing
nest mark (suc d) = between (λ t. opens (mark t)) (λ t. closes (mark t)) (entries mark (nest mark d))

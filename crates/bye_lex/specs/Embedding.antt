-- A token within a longer text: the machine of the text has states that hold those of the token's machine.
use Rattle.std.specs.Prelude.{ℕ, Option, Some, None, option_and_then}

-- within a token, or after its value
abbrev pub settle : {S V A : Type 0} → (S → A) → (V → Option A) → S → Option V → Option A
settle within after n None = Some (within n)
settle within after n (Some v) = after v

-- one character more of a token that ends by itself
abbrev pub in_closed : {S V A : Type 0} → (S → ℕ → Option S) → (S → Option V) → (S → A) → (V → Option A) → S → ℕ → Option A
in_closed step whole within after s c = option_and_then (λ n. settle within after n (whole n)) (step s c)

-- still within a token; or, where it does not go on and is whole, after its value with this character
abbrev pub enter : {S V A : Type 0} → (S → A) → (V → ℕ → Option A) → Option V → ℕ → Option S → Option A
enter within after None c None = None
enter within after (Some v) c None = after v c
enter within after whole c (Some n) = Some (within n)

-- one character more of a token that ends where a character does not go on in it
abbrev pub in_open : {S V A : Type 0} → (S → ℕ → Option S) → (S → Option V) → (S → A) → (V → ℕ → Option A) → S → ℕ → Option A
in_open step whole within after s c = enter within after (whole s) c (step s c)

-- Machines that read a token a character at a time.
use Rattle.std.specs.Prelude.{ℕ, Option, Some, None, ⊤}
use Rattle.bye_lex.specs.declared.stepped.Stepped.{Stepped}
use Rattle.bye_lex.specs.declared.stepped.Stepped.TheVariants.{On, Off}

-- on to the next state, or where there is none, still at this one
abbrev pub stepped : {S : Type 0} → S → Option S → Stepped S
stepped s None = Off s
stepped s (Some n) = On n

-- what holds of the next state, where there is one
abbrev pub IfOn : {S : Type 0} → Stepped S → (S → Type 0) → Type 0
IfOn (On n) P = P n
IfOn (Off s) P = ⊤

-- the later value, where there is one
abbrev pub later : {V : Type 0} → Option V → Option V → Option V
later None before = before
later (Some v) before = Some v

-- a value with the place after its token
abbrev pub best_of : {V : Type 0} → Option V → Option ℕ → Option (V × ℕ)
best_of None end = None
best_of (Some v) None = None
best_of (Some v) (Some end) = Some (v, end)

-- Running a machine over a text.
use Rattle.std.specs.Prelude.{ℕ, List, [], ◌∷◌, Option, Some, option_and_then}

-- the state after the text, where no step of it fails
abbrev pub run : {S : Type 0} → (S → ℕ → Option S) → S → List ℕ → Option S
run step s [] = Some s
run step s (c ∷ cs) = option_and_then (λ n. run step n cs) (step s c)

-- Reading from the front of a text. Each word gives what is read and the rest of the text, and None where nothing is.
use Rattle.std.specs.Prelude.{ℕ, ◌-◌, Bool, cond, List, [], ◌∷◌, length, take, Option, Some, None}

-- the first of the two, where there is one
abbrev pub or_else : {V : Type 0} → Option V → Option V → Option V
or_else None other = other
or_else (Some v) other = Some v

-- what comes after a step
abbrev pub onward : {S R : Type 0} → R → (S → R) → Option S → R
onward stopped go None = stopped
onward stopped go (Some n) = go n

-- the later of two tokens, with what is left after it
abbrev pub better : {V : Type 0} → Option V → List ℕ → Option (V × List ℕ) → Option (V × List ℕ)
better None rest best = best
better (Some v) rest best = Some (v, rest)

-- what a machine takes for the longest token at the front, from a state and the longest one so far
abbrev pub longest : {S V : Type 0} → (S → ℕ → Option S) → (S → Option V) → S → Option (V × List ℕ) → List ℕ → Option (V × List ℕ)
longest step final s best [] = best
longest step final s best (c ∷ cs) = onward best (λ n. longest step final n (better (final n) cs best) cs) (step s c)

-- what stands before the rest of a text
abbrev pub before : List ℕ → List ℕ → List ℕ
before text rest = take (length text - length rest) text

-- the rest after the characters at the front that pass
abbrev pub after_all : (ℕ → Bool) → List ℕ → List ℕ
after_all p [] = []
after_all p (c ∷ cs) = cond (p c) (after_all p cs) (c ∷ cs)

-- the text cut at its first such character, or before its end
abbrev pub cut_at : (ℕ → Bool) → List ℕ → List ℕ × List ℕ
cut_at p [] = ([], [])
cut_at p (c ∷ cs) = cond (p c) ([], cs) (c ∷ (cut_at p cs).0, (cut_at p cs).1)

-- a token and what is left after it, where both are known
abbrev pub both : {V : Type 0} → Option V → Option (List ℕ) → Option (V × List ℕ)
both None end = None
both (Some v) None = None
both (Some v) (Some end) = Some (v, end)

-- Sets of kinds of tokens, as lists of their numbers.
use Rattle.std.specs.Prelude.{ℕ, Bool, true, not, ◌==◌, ◌&&◌, List, [], ◌∷◌}
use Rattle.std.specs.List.{list_any}

-- whether the number is in the set
abbrev pub has : List ℕ → ℕ → Bool
has ks k = list_any (λ x. x == k) ks

-- whether two sets have no number in common
abbrev pub disjoint : List ℕ → List ℕ → Bool
disjoint [] ys = true
disjoint (x ∷ xs) ys = not (has ys x) && disjoint xs ys

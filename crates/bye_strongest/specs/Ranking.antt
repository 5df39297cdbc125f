-- Patterns that are sorted, without repeats.
use Rattle.std.specs.Prelude.{Bool, false, cond, List, [], ◌∷◌, ◌++◌}
use Rattle.std.specs.Ordering.{is_eq}
use Rattle.bye_pattern.specs.Patterns.{Pattern}
use Rattle.bye_pattern.specs.TrialOrder.{trial_cmp}

-- whether the first of those that come after it is the same
abbrev pub is_repeated : Pattern → List Pattern → Bool
is_repeated p [] = false
is_repeated p (q ∷ qs) = is_eq (trial_cmp p q)

-- the pattern, where it is the last of those that are the same
abbrev pub last : Pattern → List Pattern → List Pattern
last p ps = cond (is_repeated p ps) [] (p ∷ [])

-- of those that are the same one
abbrev pub each_once : List Pattern → List Pattern
each_once [] = []
each_once (p ∷ ps) = last p ps ++ each_once ps

-- Rows that bind different variables, as tests over lists.
use Rattle.std.specs.Prelude.{ℕ, suc, Bool, not, cond, List, [], ◌∷◌, Option, Some, None, is_some, find}
use Rattle.bye_table.specs.Mappings.{Name, Pairs, row_mapping}

-- whether the row binds the variable
abbrev pub binds : Pairs → Name → Bool
binds row v = is_some (row_mapping row v)

-- whether exactly one of the rows binds it
abbrev pub differs : Pairs → Pairs → Name → Bool
differs row other v = cond (binds row v) (not (binds other v)) (binds other v)

-- the number with the variable, where there is one, and else what comes later
abbrev pub numbered : ℕ → Option Name → Option (ℕ × Name) → Option (ℕ × Name)
numbered n None later = later
numbered n (Some x) later = Some (n, x)

-- the number of the first of the others, which are numbered from n on, that differs from the row, and the first variable of which it does
abbrev pub first_apart : List Name → Pairs → ℕ → List Pairs → Option (ℕ × Name)
first_apart vs row n [] = None
first_apart vs row n (other ∷ others) = numbered n (find (differs row other) vs) (first_apart vs row (suc n) others)

-- The order in which triple patterns are tried, and written: by how many distinct variables they have, and then by the bytes of their lines.
use Rattle.std.specs.Prelude.{◌≡◌, ℕ, ◌+◌, true, false, cond, List, [], ◌∷◌}
use Rattle.std.specs.Str.{encode_utf8_all}
use Rattle.std.specs.List.{AllByRecursion}
use Rattle.std.specs.Cmp.Lexicographic.{slice_cmp}
use Rattle.std.specs.Ordering.{nat_cmp, ordering_then, is_lt}
use Rattle.std.specs.declared.cmp.Ordering.{Ordering}
use Rattle.bye_table.specs.Mappings.{Name, is_in}
use Rattle.bye_pattern.specs.Patterns.{Pattern, vars}
use Rattle.bye_pattern.specs.Printed.{root_line}

-- how many different names the list has
abbrev pub distinct_count : List Name → ℕ
distinct_count [] = 0
distinct_count (v ∷ vs) = cond (is_in vs v) (distinct_count vs) (1 + distinct_count vs)

-- the line of a pattern in the group of a query, in UTF-8
abbrev pub line_bytes : Pattern → List ℕ
line_bytes p = encode_utf8_all (root_line p)

-- the order of two patterns
abbrev pub trial_cmp : Pattern → Pattern → Ordering
trial_cmp p q = ordering_then (nat_cmp (distinct_count (vars p)) (distinct_count (vars q))) (slice_cmp nat_cmp (line_bytes p) (line_bytes q))

-- none stands before one that is tried earlier
abbrev pub IsInTrialOrder : List Pattern → Type 0
IsInTrialOrder [] = Unit {0}
IsInTrialOrder (p ∷ ps) = AllByRecursion (λ q. is_lt (trial_cmp q p) ≡ false) ps × IsInTrialOrder ps

-- each stands before all that come later; so each stands once, and no other list of the same patterns does so
abbrev pub IsInStrictOrder : List Pattern → Type 0
IsInStrictOrder [] = Unit {0}
IsInStrictOrder (p ∷ ps) = AllByRecursion (λ q. is_lt (trial_cmp p q) ≡ true) ps × IsInStrictOrder ps

-- How many distinct variables three places have, as a sum.
use Rattle.std.specs.Prelude.{ℕ, ◌+◌, Bool, false, cond, not, ◌&&◌}
use Rattle.std.specs.Str.{bytes_eq}
use Rattle.bye_pattern.specs.declared.slot.Slot.{Slot}
use Rattle.bye_pattern.specs.declared.slot.Slot.TheVariants.{Var}
use Rattle.bye_pattern.specs.Candidates.{is_var}

-- whether both places are the same variable
abbrev pub is_same_var : Slot → Slot → Bool
is_same_var (Var v) (Var w) = bytes_eq v w
is_same_var _ _ = false

-- 1 where the test is true, and else 0
abbrev pub one_if : Bool → ℕ
one_if b = cond b 1 0

-- how many distinct variables the three places have
unfoldable pub variable_count : Slot → Slot → Slot → ℕ
variable_count s p o = one_if (is_var s && not (is_same_var p s) && not (is_same_var o s)) + one_if (is_var p && not (is_same_var o p)) + one_if (is_var o)

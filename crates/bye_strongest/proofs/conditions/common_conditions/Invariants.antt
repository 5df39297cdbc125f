use Rattle.std.proofs.Common.{◌≡◌}
use Rattle.std.specs.List.{filter}
use Rattle.bye_strongest.specs.Conds.{holds_in_all}
use Rattle.bye_strongest.proofs.conditions.common_conditions.Given as goal

abbrev pub invariant-loop-cond : goal.invariant-loop-cond
invariant-loop-cond l = l.out.items ≡ filter (holds_in_all l.rows) l.yielded

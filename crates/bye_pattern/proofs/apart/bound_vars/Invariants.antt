use Rattle.std.proofs.Common.{◌≡◌, take}
use Rattle.std.specs.List.{filter}
use Rattle.bye_pattern.specs.Apart as spec
use Rattle.bye_pattern.proofs.apart.bound_vars.Given as goal

abbrev pub invariant-loop-variable : goal.invariant-loop-variable
invariant-loop-variable l = l.bound.items ≡ filter (spec.binds l.row) (take l.variable-index l.vars)

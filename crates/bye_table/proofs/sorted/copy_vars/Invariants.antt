use Rattle.std.proofs.Common.{◌≡◌, take}
use Rattle.bye_table.proofs.sorted.copy_vars.Given as goal

abbrev pub invariant-loop-variable : goal.invariant-loop-variable
invariant-loop-variable l = l.out.items ≡ take l.variable-index l.vars

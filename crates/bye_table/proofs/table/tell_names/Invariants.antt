use Rattle.std.proofs.Common.{take}
use Rattle.std.specs.List.{AllByRecursion}
use Rattle.bye_table.specs.Tables.{IsName}
use Rattle.bye_table.proofs.table.tell_names.Given as goal

abbrev pub invariant-loop-variable : goal.invariant-loop-variable
invariant-loop-variable l = AllByRecursion IsName (take l.variable-index l.vars)

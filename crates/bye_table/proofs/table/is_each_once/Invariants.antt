use Rattle.std.proofs.Common.{◌≡◌, length}
use Rattle.bye_table.specs.Tables.{distinct}
use Rattle.bye_table.proofs.table.is_each_once.Given as goal

abbrev pub invariant-loop-first : goal.invariant-loop-first
invariant-loop-first l = distinct l.rest ≡ distinct l.initial.rest

abbrev pub decreases-loop-first : goal.decreases-loop-first
decreases-loop-first l = length l.rest

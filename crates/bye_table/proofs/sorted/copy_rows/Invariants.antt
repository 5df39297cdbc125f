use Rattle.std.proofs.Common.{◌≡◌, map, take}
use Rattle.bye_table.proofs.sorted.copy_rows.Given as goal

abbrev pub invariant-loop-one : goal.invariant-loop-one
invariant-loop-one l = l.out.items ≡ map (λ c. c.row.now) (take l.one-index l.celled)

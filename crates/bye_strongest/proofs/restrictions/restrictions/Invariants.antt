use Rattle.std.proofs.Common.{◌≡◌, map, take}
use Rattle.bye_strongest.specs.Restrictions.{restrict}
use Rattle.bye_strongest.proofs.restrictions.restrictions.Given as goal

abbrev pub invariant-loop-row : goal.invariant-loop-row
invariant-loop-row l = l.out.items ≡ map (restrict l.columns) (take l.row-index l.rows)

use Rattle.std.proofs.Common.{◌<◌, length}
use Rattle.bye_node.proofs.search.fewest.Given as goal

abbrev pub invariant-loop-i : goal.invariant-loop-i
invariant-loop-i g l = l.best < length l.shapes

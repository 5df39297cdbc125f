use Rattle.std.proofs.Common.{ℕ, ◌<◌}
use Rattle.bye_node.specs.Envs.{cell}
use Rattle.bye_node.specs.Pins.{pin_at}
use Rattle.bye_member.specs.Searches.{Keeps}
use Rattle.bye_member.proofs.wanted.is_pinned.Given as goal

abbrev pub invariant-loop-i : goal.invariant-loop-i
invariant-loop-i l = (k : ℕ) → k < l.i → Keeps (pin_at l.pins k) (cell l.env k)

use Rattle.std.proofs.Common.{◌≡◌, length, take}
use Rattle.bye_member.specs.Plans as plans
use Rattle.bye_member.proofs.rows.room.Given as goal

abbrev pub invariant-loop-group : goal.invariant-loop-group
invariant-loop-group l = length l.room.items ≡ plans.room (take l.group-index l.groups)

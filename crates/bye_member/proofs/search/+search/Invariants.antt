use Rattle.std.proofs.Common.{◌+◌, ◌*◌, length}
use Rattle.bye_member.proofs.Taking.{IsWalked}
use Rattle.bye_member.specs.Plans.{count, room}
use Rattle.bye_member.proofs.search.+search.Given as goal

abbrev pub decreases-descend : goal.decreases-descend
decreases-descend g l = room l.groups.now + 3 * length l.groups.now

abbrev pub decreases-enter : goal.decreases-enter
decreases-enter g l = count l.group.now.shapes + 2 + (room l.after.now + 3 * length l.after.now)

abbrev pub decreases-fill : goal.decreases-fill
decreases-fill g l = length l.shapes.now + 1 + (room l.groups.now + 3 * length l.groups.now)

abbrev pub invariant-fill-loop-key : goal.invariant-fill-loop-key
invariant-fill-loop-key g l =
    IsWalked l.task l.conds l.fn.shapes l.shape l.initial.others l.groups l.initial.found l.fn.env l.env l.others l.found l.fn.out l.out l.any

abbrev pub decreases-fill-loop-key : goal.decreases-fill-loop-key
decreases-fill-loop-key g l = length l.found

use Rattle.std.proofs.Common.{◌∙◌, ap, length}
use Rattle.bye_member.proofs.Rowing.{room_grown, room_same_on}
use Rattle.bye_member.proofs.rows.room.Goals as goal
use Rattle.bye_member.proofs.rows.room.Goals.{in-Some+in_ok-extend_from_slice, in_default}

pub loop-group-preserved : goal.loop-group-preserved
loop-group-preserved c =
    elim c.match-shapes.branch [
      | in-Some+in_ok-extend_from_slice w ↦
          room_grown c.args.groups.now c.loop-group.group-index c.group-item.result (λ s. s.now) c.shapes.result _ c.loop-group.room.items c.match-shapes.room.items c.loop-group-test.true c.group-item.is c.shapes.ensures w.in-Some.is
          (ap (λ v. v.items) w.room-is ∙ w.in_ok-extend_from_slice.ensures.items) c.loop-group.invariant
      | in_default w ↦
          ap (λ v. length v.items) w.room-is
          ∙ room_same_on c.args.groups.now c.loop-group.group-index c.group-item.result (λ s. s.now) c.shapes.result c.loop-group.room.items c.loop-group-test.true c.group-item.is c.shapes.ensures w.in_default.is c.loop-group.invariant
    ]

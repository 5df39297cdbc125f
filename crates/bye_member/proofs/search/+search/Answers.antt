use Rattle.std.proofs.Common.{Some, inl, inr, refl, sym, ◌∙◌, ap, length, option_map, rules, ◌+◌, ◌*◌}
use Rattle.bye_node.proofs.Solving.{is_empty_list, is_some_list}
use Rattle.bye_member.specs.Plans.{room}
use Rattle.bye_member.proofs.Taking.{any_shape, front_reordered, full_all, full_tells, nothing_fits, reached_none, reordered_more, stage_end, swapped_reordered, tells_none, up_front, up_shut, up_sought, walked_clash, walked_fit, walked_start, walked_stop}
use Rattle.bye_member.proofs.Walking.{below_fits, below_measure, count_shapes, enter_adds, enter_blocked, enter_found, enter_less, enter_none, few_most, fill_less, first_adds, first_all, first_plan, inner_plan, last_adds, last_all, lost_enters, others_less, past_adds, past_all, past_less, past_plan, room_after, room_first, room_past, room_same}
use Rattle.bye_member.proofs.search.+search.Goals as goal
use Rattle.bye_member.proofs.search.+search.Goals.{fill-then-branch, fill-else-branch}

pub descend-returns-in_err-put_row-clause-adds : goal.descend-returns-in_err-put_row-clause-adds
descend-returns-in_err-put_row-clause-adds g t c = last_adds c.args.task.now c.args.env.now c.args.groups.now _ _ c.in_default.ensures.cases c.in_err-put_row.ensures.adds

pub descend-returns-in_default-clause-adds : goal.descend-returns-in_default-clause-adds
descend-returns-in_default-clause-adds g t c = last_adds c.args.task.now c.args.env.now c.args.groups.now _ _ c.in_default.ensures.cases c.in_ok-put_row.ensures.adds

pub descend-returns-in_default-clause-all : goal.descend-returns-in_default-clause-all
descend-returns-in_default-clause-all g t c = last_all c.args.task.now c.args.env.now c.args.groups.now _ c.in_default.ensures.cases c.in_ok-put_row.ensures.all

pub descend-returns-in_err-enter-clause-adds : goal.descend-returns-in_err-enter-clause-adds
descend-returns-in_err-enter-clause-adds g t c =
    first_adds c.args.task.now c.args.env.now c.args.groups.now c.in-Some.group.now c.in-Some.after.now _ _ c.in-Some.ensures.cases.0 c.in_err-enter.ensures.adds

pub descend-returns-then-branch-clause-adds : goal.descend-returns-then-branch-clause-adds
descend-returns-then-branch-clause-adds g t c =
    first_adds c.args.task.now c.args.env.now c.args.groups.now c.in-Some.group.now c.in-Some.after.now _ _ c.in-Some.ensures.cases.0 c.in_ok-enter.ensures.adds

pub descend-returns-then-branch-clause-all : goal.descend-returns-then-branch-clause-all
descend-returns-then-branch-clause-all g t c =
    first_all c.args.task.now c.args.env.now c.args.groups.now c.in-Some.group.now c.in-Some.after.now _ _ c.in-Some.ensures.cases.0 c.if-branch.true c.in_ok-enter.ensures.enters

pub descend-split_at-requires : goal.descend-split_at-requires
descend-split_at-requires g t c =
    below_fits c.args.task.now c.args.groups.now c.in-Some.group.now c.in-Some.after.now c.below.result c.in-Some.ensures.cases.0 c.below.ensures c.requires.plan

pub descend-returns-in_err-descend-clause-adds : goal.descend-returns-in_err-descend-clause-adds
descend-returns-in_err-descend-clause-adds g t c =
    past_adds c.args.task.now c.args.env.now c.enter.new.env c.args.groups.now c.in-Some.group.now c.in-Some.after.now c.split_at.result.1.now c.below.result _ _ _ _ c.in-Some.ensures.cases.0 c.below.ensures c.split_at.ensures.back
    c.in_ok-enter.ensures.env c.if-branch.false c.in_ok-enter.ensures.adds c.in_ok-enter.ensures.enters c.in_err-descend.ensures.adds

pub descend-returns-clause-adds : goal.descend-returns-clause-adds
descend-returns-clause-adds g t c =
    past_adds c.args.task.now c.args.env.now c.enter.new.env c.args.groups.now c.in-Some.group.now c.in-Some.after.now c.split_at.result.1.now c.below.result _ _ _ _ c.in-Some.ensures.cases.0 c.below.ensures c.split_at.ensures.back
    c.in_ok-enter.ensures.env c.if-branch.false c.in_ok-enter.ensures.adds c.in_ok-enter.ensures.enters c.in_ok-descend.ensures.adds

pub descend-returns-clause-all : goal.descend-returns-clause-all
descend-returns-clause-all g t c =
    past_all c.args.task.now c.args.env.now c.enter.new.env c.args.groups.now c.in-Some.group.now c.in-Some.after.now c.split_at.result.1.now c.below.result _ _ _ c.in-Some.ensures.cases.0 c.below.ensures c.split_at.ensures.back
    c.in_ok-enter.ensures.env c.if-branch.false c.in_ok-enter.ensures.enters c.in_ok-descend.ensures.all

pub descend-enter-requires : goal.descend-enter-requires
descend-enter-requires g t c = λ κs lt. (
  below_measure _ _ t c.decreases (enter_less c.args.groups.now c.in-Some.group.now c.in-Some.after.now c.in-Some.ensures.cases.0),
  (
    search rules,
    (
      room_first c.args.groups.now c.in-Some.group.now c.in-Some.after.now _ c.in-Some.ensures.cases.0 c.requires.room,
      (first_plan c.args.task.now c.args.groups.now c.in-Some.group.now c.in-Some.after.now c.in-Some.ensures.cases.0 c.requires.plan, c.requires.few),
    ),
  ),
)

pub descend-descend-requires : goal.descend-descend-requires
descend-descend-requires g t c = λ κs lt. (
  below_measure _ _ t c.decreases (past_less c.args.groups.now c.in-Some.group.now c.in-Some.after.now c.split_at.result.1.now c.below.result c.in-Some.ensures.cases.0 c.split_at.ensures.back),
  (
    search rules,
    (
      room_past c.args.groups.now c.in-Some.group.now c.in-Some.after.now c.split_at.result.1.now c.below.result _ _ c.in-Some.ensures.cases.0 c.split_at.ensures.back c.requires.room c.enter.auto.room,
      (past_plan c.args.task.now c.args.groups.now c.in-Some.group.now c.in-Some.after.now c.split_at.result.1.now c.below.result c.in-Some.ensures.cases.0 c.below.ensures c.split_at.ensures.back c.requires.plan, c.in_ok-enter.ensures.few),
    ),
  ),
)

pub enter-fill-requires : goal.enter-fill-requires
enter-fill-requires g t c = λ κs lt. (
  below_measure _ _ t c.decreases (fill_less c.args.group.now c.in-Some.shapes.now c.copy_from_slice.new.self _ (count_shapes c.args.group.now (λ s. s.now) c.shapes.result _ c.shapes.ensures c.in-Some.is) c.copy_from_slice.ensures.after),
  (
    search rules,
    (
      room_after c.args.group.now c.args.after.now c.in-Some.shapes.now c.split_at_mut-here.result.1.now _ _ (count_shapes c.args.group.now (λ s. s.now) c.shapes.result _ c.shapes.ensures c.in-Some.is) c.split_at_mut-here.ensures.back_len refl
          c.requires.room,
      (inner_plan c.args.task.now c.args.group.now c.args.after.now c.requires.plan, c.requires.few),
    ),
  ),
)

pub enter-returns-in_default-clause-enters : goal.enter-returns-in_default-clause-enters
enter-returns-in_default-clause-enters g t c = λ t f.
    lost_enters c.args.task.now c.args.env.now t f c.args.group.now c.args.after.now _ c.graph-graph.ensures.numbered (sym c.shapes.ensures ∙ ap (option_map (λ s. s.now)) c.in_default.is)

pub enter-returns-in_err-fill-clause-adds : goal.enter-returns-in_err-fill-clause-adds
enter-returns-in_err-fill-clause-adds g t c =
    enter_adds c.args.task.now c.args.env.now c.args.group.now c.args.after.now c.conds-conds.result.now c.copy_from_slice.new.self _ _
    (record { good = c.graph-graph.ensures.numbered; shapes = count_shapes c.args.group.now (λ s. s.now) c.shapes.result _ c.shapes.ensures c.in-Some.is ∙ ap Some (sym c.copy_from_slice.ensures.after); tests = c.conds-conds.ensures })
    c.in_err-fill.ensures.adds

pub enter-returns-then-branch-clause-adds : goal.enter-returns-then-branch-clause-adds
enter-returns-then-branch-clause-adds g t c =
    enter_adds c.args.task.now c.args.env.now c.args.group.now c.args.after.now c.conds-conds.result.now c.copy_from_slice.new.self _ _
    (record { good = c.graph-graph.ensures.numbered; shapes = count_shapes c.args.group.now (λ s. s.now) c.shapes.result _ c.shapes.ensures c.in-Some.is ∙ ap Some (sym c.copy_from_slice.ensures.after); tests = c.conds-conds.ensures })
    c.in_ok-fill.ensures.adds

pub enter-returns-then-is_empty-clause-adds : goal.enter-returns-then-is_empty-clause-adds
enter-returns-then-is_empty-clause-adds g t c =
    enter_adds c.args.task.now c.args.env.now c.args.group.now c.args.after.now c.conds-conds.result.now c.copy_from_slice.new.self _ _
    (record { good = c.graph-graph.ensures.numbered; shapes = count_shapes c.args.group.now (λ s. s.now) c.shapes.result _ c.shapes.ensures c.in-Some.is ∙ ap Some (sym c.copy_from_slice.ensures.after); tests = c.conds-conds.ensures })
    c.in_ok-fill.ensures.adds

pub enter-returns-in_err-blocked-clause-adds : goal.enter-returns-in_err-blocked-clause-adds
enter-returns-in_err-blocked-clause-adds g t c =
    enter_adds c.args.task.now c.args.env.now c.args.group.now c.args.after.now c.conds-conds.result.now c.copy_from_slice.new.self _ _
    (record { good = c.graph-graph.ensures.numbered; shapes = count_shapes c.args.group.now (λ s. s.now) c.shapes.result _ c.shapes.ensures c.in-Some.is ∙ ap Some (sym c.copy_from_slice.ensures.after); tests = c.conds-conds.ensures })
    c.in_ok-fill.ensures.adds

pub enter-returns-clause-adds : goal.enter-returns-clause-adds
enter-returns-clause-adds g t c =
    enter_adds c.args.task.now c.args.env.now c.args.group.now c.args.after.now c.conds-conds.result.now c.copy_from_slice.new.self _ _
    (record { good = c.graph-graph.ensures.numbered; shapes = count_shapes c.args.group.now (λ s. s.now) c.shapes.result _ c.shapes.ensures c.in-Some.is ∙ ap Some (sym c.copy_from_slice.ensures.after); tests = c.conds-conds.ensures })
    c.in_ok-fill.ensures.adds

pub enter-returns-then-branch-clause-enters : goal.enter-returns-then-branch-clause-enters
enter-returns-then-branch-clause-enters g t c =
    enter_found c.args.task.now c.args.env.now c.args.group.now c.args.after.now c.conds-conds.result.now c.copy_from_slice.new.self _ c.in_ok-fill.field-0
    (record { good = c.graph-graph.ensures.numbered; shapes = count_shapes c.args.group.now (λ s. s.now) c.shapes.result _ c.shapes.ensures c.in-Some.is ∙ ap Some (sym c.copy_from_slice.ensures.after); tests = c.conds-conds.ensures })
    c.if-branch.true c.in_ok-fill.ensures.tells c.in_ok-fill.ensures.all

pub enter-returns-then-is_empty-clause-enters : goal.enter-returns-then-is_empty-clause-enters
enter-returns-then-is_empty-clause-enters g t c =
    enter_none c.args.task.now c.args.env.now c.args.group.now c.args.after.now c.conds-conds.result.now c.copy_from_slice.new.self _ c.in_ok-fill.field-0
    (record { good = c.graph-graph.ensures.numbered; shapes = count_shapes c.args.group.now (λ s. s.now) c.shapes.result _ c.shapes.ensures c.in-Some.is ∙ ap Some (sym c.copy_from_slice.ensures.after); tests = c.conds-conds.ensures })
    (sym c.pins.ensures ∙ is_empty_list c.pins.result.now c.is_empty.result c.is_empty.ensures c.if-is_empty.true) c.if-branch.false c.in_ok-fill.ensures.tells

pub enter-returns-clause-enters : goal.enter-returns-clause-enters
enter-returns-clause-enters g t c =
    enter_blocked c.args.task.now c.args.env.now c.args.group.now c.args.after.now c.conds-conds.result.now c.copy_from_slice.new.self c.fill.new.shapes _ c.in_ok-fill.field-0 c.in_ok-blocked.blocked
    (record { good = c.graph-graph.ensures.numbered; shapes = count_shapes c.args.group.now (λ s. s.now) c.shapes.result _ c.shapes.ensures c.in-Some.is ∙ ap Some (sym c.copy_from_slice.ensures.after); tests = c.conds-conds.ensures })
    c.if-branch.false c.in_ok-fill.ensures.tells c.in_ok-fill.ensures.shapes c.fill.new.env c.in_ok-fill.ensures.env c.in_ok-blocked.ensures

pub fill-returns-then-not-all_hold-clause-all : goal.fill-returns-then-not-all_hold-clause-all
fill-returns-then-not-all_hold-clause-all g t c = λ f plan.
    reached_none c.args.task.now f _ _
    (λ z h a. nothing_fits c.args.task.now c.args.conds.now c.args.shapes.now c.args.env.now z (is_empty_list c.args.shapes.now c.is_empty.result c.is_empty.ensures c.if-is_empty.true) (sym c.all_hold.ensures ∙ c.if-not-all_hold.true) h)

pub fill-returns-then-not-all_hold-clause-tells : goal.fill-returns-then-not-all_hold-clause-tells
fill-returns-then-not-all_hold-clause-tells g t c =
    tells_none c.args.task.now _
    (λ z h a. nothing_fits c.args.task.now c.args.conds.now c.args.shapes.now c.args.env.now z (is_empty_list c.args.shapes.now c.is_empty.result c.is_empty.ensures c.if-is_empty.true) (sym c.all_hold.ensures ∙ c.if-not-all_hold.true) h)

pub fill-returns-then-is_empty-clause-all : goal.fill-returns-then-is_empty-clause-all
fill-returns-then-is_empty-clause-all g t c = λ f plan.
    full_all c.args.task.now c.args.conds.now c.args.shapes.now c.args.env.now f _ (is_empty_list c.args.shapes.now c.is_empty.result c.is_empty.ensures c.if-is_empty.true) (c.in_ok-descend.ensures.all f plan)

pub fill-returns-then-is_shut-clause-all : goal.fill-returns-then-is_shut-clause-all
fill-returns-then-is_shut-clause-all g t c = λ f plan. reached_none c.args.task.now f _ _
    (up_shut c.args.task.now c.args.conds.now c.args.env.now c.args.shapes.now c.swap.new.self c.pins-2.result.now _ c.is_shut.result (is_some_list c.args.shapes.now c.is_empty.result c.is_empty.ensures c.if-is_empty.false) c.swap.ensures.permutation
    c.swap.ensures.len c.pins-2.ensures c.if-is_shut.true c.is_shut.ensures.0)

pub fill-returns-then-is_shut-clause-tells : goal.fill-returns-then-is_shut-clause-tells
fill-returns-then-is_shut-clause-tells g t c = tells_none c.args.task.now _
    (up_shut c.args.task.now c.args.conds.now c.args.env.now c.args.shapes.now c.swap.new.self c.pins-2.result.now _ c.is_shut.result (is_some_list c.args.shapes.now c.is_empty.result c.is_empty.ensures c.if-is_empty.false) c.swap.ensures.permutation
    c.swap.ensures.len c.pins-2.ensures c.if-is_shut.true c.is_shut.ensures.0)

pub fill-returns-then-is_shut-clause-shapes : goal.fill-returns-then-is_shut-clause-shapes
fill-returns-then-is_shut-clause-shapes g t c = swapped_reordered c.args.shapes.now c.swap.new.self c.swap.ensures.permutation c.swap.ensures.len

pub fill-loop-key-init : goal.fill-loop-key-init
fill-loop-key-init g t c = walked_start c.args.task.now c.args.conds.now c.args.shapes.now _ _ c.args.groups.now _ c.args.env.now c.args.out.now c.requires.few

pub fill-loop-key-preserved : goal.fill-loop-key-preserved
fill-loop-key-preserved g t c =
    walked_clash c.args.task.now c.args.conds.now c.args.shapes.now _ _ c.args.groups.now _ c.args.env.now c.loop-key.env c.bind_key.new.self c.loop-key.others c.loop-key.found c.next_counted.new.self c.in-Some.key c.args.out.now c.loop-key.out
    c.loop-key.any c.in-Some.ensures.next c.in_default-bind_key.ensures.0 c.in_default-bind_key.ensures.1 c.loop-key.invariant

pub fill-loop-key-preserved-in-Some-bind_key : goal.fill-loop-key-preserved-in-Some-bind_key
fill-loop-key-preserved-in-Some-bind_key g t c =
    walked_fit c.args.task.now c.args.conds.now c.args.shapes.now _ c.split_at_mut-others.result.1.now c.args.groups.now c.seek-found.result c.args.env.now c.loop-key.env c.bind_key.new.self c.fill.new.env c.unbind.new.self c.loop-key.others
    c.fill.new.shapes c.loop-key.found c.next_counted.new.self c.in-Some.key c.args.out.now c.loop-key.out c.fill.new.out c.loop-key.any c.in_ok-fill.field-0 c.if-branch.any c.in-Some-bind_key.bound
    c.in-Some.ensures.next c.in-Some-bind_key.ensures c.in_ok-fill.ensures.env c.unbind.ensures c.in_ok-fill.ensures.shapes c.in_ok-fill.ensures.limit c.in_ok-fill.ensures.few c.in_ok-fill.ensures.adds c.in_ok-fill.ensures.all c.in_ok-fill.ensures.tells
    (elim c.if-branch.branch [ fill-then-branch w ↦ inl (w.if-branch.true, w.any-is) | fill-else-branch w ↦ inr (w.if-branch.false, w.any-is) ])
    c.loop-key.invariant

pub fill-fill-requires : goal.fill-fill-requires
fill-fill-requires g t c =
    let front = (up_front c.args.task.now c.args.env.now c.args.shapes.now c.swap.new.self c.split_at_mut-others.result.0.now c.split_at_mut-others.result.1.now c.pins-3.result.now any_shape
    (record { some = is_some_list c.args.shapes.now c.is_empty.result c.is_empty.ensures c.if-is_empty.false; permuted = c.swap.ensures.permutation; count = c.swap.ensures.len; first = c.split_at_mut-others.ensures.front; rest = c.split_at_mut-others.ensures.back; wanted = c.pins-3.ensures })) in
    λ κs lt. (
      below_measure _ _ t c.decreases (others_less c.args.shapes.now c.split_at_mut-others.result.0.now c.split_at_mut-others.result.1.now c.loop-key.others _ (room c.args.groups.now + 3 * length c.args.groups.now) front c.loop-key.invariant.order),
      (search rules, (room_same c.args.groups.now _ _ c.requires.room c.loop-key.auto.room, (c.requires.plan, c.loop-key.invariant.few))),
    )

pub fill-returns-in_err-fill-clause-adds : goal.fill-returns-in_err-fill-clause-adds
fill-returns-in_err-fill-clause-adds g t c =
    walked_stop c.args.task.now c.args.conds.now c.args.shapes.now _ c.split_at_mut-others.result.1.now c.args.groups.now c.seek-found.result c.args.env.now c.loop-key.env c.bind_key.new.self c.loop-key.others c.loop-key.found
    c.next_counted.new.self c.in-Some.key c.args.out.now c.loop-key.out c.fill.new.out c.loop-key.any c.in-Some.ensures.next c.in-Some-bind_key.ensures.0
    (up_sought c.args.task.now c.args.env.now c.args.shapes.now c.swap.new.self c.split_at_mut-others.result.0.now c.split_at_mut-others.result.1.now c.pins-3.result.now _ c.graph-2.result.now c.seek-found.result
    (record { some = is_some_list c.args.shapes.now c.is_empty.result c.is_empty.ensures c.if-is_empty.false; permuted = c.swap.ensures.permutation; count = c.swap.ensures.len; first = c.split_at_mut-others.ensures.front; rest = c.split_at_mut-others.ensures.back; wanted = c.pins-3.ensures })
    c.graph-2.ensures.graph c.seek-found.ensures.matches)
    c.in_err-fill.ensures.adds c.loop-key.invariant

pub fill-returns-in_err-fill-clause-shapes : goal.fill-returns-in_err-fill-clause-shapes
fill-returns-in_err-fill-clause-shapes g t c =
    front_reordered c.args.shapes.now c.split_at_mut-others.result.0.now c.split_at_mut-others.result.1.now c.fill.new.shapes _
    (up_front c.args.task.now c.args.env.now c.args.shapes.now c.swap.new.self c.split_at_mut-others.result.0.now c.split_at_mut-others.result.1.now c.pins-3.result.now any_shape
    (record { some = is_some_list c.args.shapes.now c.is_empty.result c.is_empty.ensures c.if-is_empty.false; permuted = c.swap.ensures.permutation; count = c.swap.ensures.len; first = c.split_at_mut-others.ensures.front; rest = c.split_at_mut-others.ensures.back; wanted = c.pins-3.ensures }))
    (reordered_more c.split_at_mut-others.result.1.now c.loop-key.others c.fill.new.shapes c.loop-key.invariant.order c.in_err-fill.ensures.shapes)

pub fill-returns : goal.fill-returns
fill-returns g t c =
    let done =
    stage_end c.args.task.now c.args.conds.now c.args.env.now c.args.shapes.now _ c.split_at_mut-others.result.1.now c.args.groups.now c.seek-found.result c.loop-key.found c.args.out.now.rows c.loop-key.out.rows c.loop-key.any
    c.in_default.ensures.next.0
    (up_sought c.args.task.now c.args.env.now c.args.shapes.now c.swap.new.self c.split_at_mut-others.result.0.now c.split_at_mut-others.result.1.now c.pins-3.result.now _ c.graph-2.result.now c.seek-found.result
    (record { some = is_some_list c.args.shapes.now c.is_empty.result c.is_empty.ensures c.if-is_empty.false; permuted = c.swap.ensures.permutation; count = c.swap.ensures.len; first = c.split_at_mut-others.ensures.front; rest = c.split_at_mut-others.ensures.back; wanted = c.pins-3.ensures })
    c.graph-2.ensures.graph c.seek-found.ensures.matches)
    c.loop-key.invariant.stage in
    record {
      adds = done.adds;
      all = done.all;
      tells = done.tells;
      env = c.loop-key.invariant.same;
      shapes =
          front_reordered c.args.shapes.now c.split_at_mut-others.result.0.now c.split_at_mut-others.result.1.now c.loop-key.others _
          (up_front c.args.task.now c.args.env.now c.args.shapes.now c.swap.new.self c.split_at_mut-others.result.0.now c.split_at_mut-others.result.1.now c.pins-3.result.now any_shape
          (record { some = is_some_list c.args.shapes.now c.is_empty.result c.is_empty.ensures c.if-is_empty.false; permuted = c.swap.ensures.permutation; count = c.swap.ensures.len; first = c.split_at_mut-others.ensures.front; rest = c.split_at_mut-others.ensures.back; wanted = c.pins-3.ensures }))
          c.loop-key.invariant.order;
      few = c.loop-key.invariant.few;
      most = few_most c.loop-key.out.rows c.loop-key.out.limit c.loop-key.invariant.few;
      full = λ e. cc;
      limit = c.loop-key.invariant.limit;
    }

pub fill-returns-then-is_empty-clause-tells : goal.fill-returns-then-is_empty-clause-tells
fill-returns-then-is_empty-clause-tells g t c =
    full_tells c.args.task.now c.args.conds.now c.args.shapes.now c.args.env.now (is_empty_list c.args.shapes.now c.is_empty.result c.is_empty.ensures c.if-is_empty.true) (sym c.all_hold.ensures ∙ c.if-not-all_hold.false)

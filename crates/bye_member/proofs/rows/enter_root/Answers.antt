use Rattle.std.proofs.Common.{Some, ap, option_map, sym, ◌∙◌}
use Rattle.bye_member.proofs.Rowing.{root_adds, root_all, root_lost, root_plan}
use Rattle.bye_member.proofs.Walking.{count_shapes}
use Rattle.bye_member.proofs.rows.enter_root.Goals as goal

pub returns-in_default-clause-all : goal.returns-in_default-clause-all
returns-in_default-clause-all g c =
    root_lost c.args.task.now c.args.env.now c.args.root.now c.args.groups.now _ c.graph-graph.ensures.numbered (sym c.shapes.ensures ∙ ap (option_map (λ s. s.now)) c.in_default.is)

pub fill-requires-clause-plan : goal.fill-requires-clause-plan
fill-requires-clause-plan g c = root_plan c.args.task.now c.args.root.now c.args.groups.now c.requires.plan

pub returns-in_err-fill-clause-adds : goal.returns-in_err-fill-clause-adds
returns-in_err-fill-clause-adds g c =
    root_adds c.args.task.now c.args.env.now c.args.root.now c.args.groups.now c.conds-conds.result.now c.copy_from_slice.new.self _ _
    (record { good = c.graph-graph.ensures.numbered; shapes = count_shapes c.args.root.now (λ s. s.now) c.shapes.result _ c.shapes.ensures c.in-Some.is ∙ ap Some (sym c.copy_from_slice.ensures.after); tests = c.conds-conds.ensures })
    c.in_err-fill.ensures.adds

pub returns-clause-adds : goal.returns-clause-adds
returns-clause-adds g c =
    root_adds c.args.task.now c.args.env.now c.args.root.now c.args.groups.now c.conds-conds.result.now c.copy_from_slice.new.self _ _
    (record { good = c.graph-graph.ensures.numbered; shapes = count_shapes c.args.root.now (λ s. s.now) c.shapes.result _ c.shapes.ensures c.in-Some.is ∙ ap Some (sym c.copy_from_slice.ensures.after); tests = c.conds-conds.ensures })
    c.in_ok-fill.ensures.adds

pub returns-clause-all : goal.returns-clause-all
returns-clause-all g c =
    root_all c.args.task.now c.args.env.now c.args.root.now c.args.groups.now c.conds-conds.result.now c.copy_from_slice.new.self _
    (record { good = c.graph-graph.ensures.numbered; shapes = count_shapes c.args.root.now (λ s. s.now) c.shapes.result _ c.shapes.ensures c.in-Some.is ∙ ap Some (sym c.copy_from_slice.ensures.after); tests = c.conds-conds.ensures })
    c.in_ok-fill.ensures.all

use Rattle.std.proofs.Common.{ap, length, option_map}
use Rattle.bye_pattern.specs.declared.node.Node.{out-Node}
use Rattle.bye_member.specs.Plans.{Planned}
use Rattle.bye_member.proofs.Planning.{node_planned, one_first, so_far_more, so_far_none}
use Rattle.bye_member.proofs.Viewing.{shapes_of}
use Rattle.bye_member.proofs.plan.+plan.Goals as goal

pub loop-child-init : goal.loop-child-init
loop-child-init t c = so_far_none c.args.task.now.vars c.args.task.now.graph.terms _ _ c.new-rest.ensures.items

pub loop-child-preserved : goal.loop-child-preserved
loop-child-preserved t c =
    so_far_more c.args.task.now.vars c.args.task.now.graph.terms c.as_slice-child-items.result.now c.loop-child.child-index c.child-item.result c.loop-child.rest.items c.in_ok-more.more.items c.append.new.self.items
    c.loop-child-test.true c.child-item.is c.in_ok-more.ensures c.in_ok-append.ensures.items c.loop-child.invariant

pub returns : goal.returns
returns t c =
    let p : Planned = record { shapes = option_map (λ v. v.items) c.in_ok-shapes.shapes; conds = c.as_slice-2.result.now; below = length c.as_slice-below.result.now } in
    node_planned c.args.task.now.vars c.args.task.now.graph.terms c.args.node.now c.as_slice-child-items.result.now c.loop-child.child-index p c.loop-child.rest.items c.append-2.new.self.items
    c.as_slice-child-items.ensures c.loop-child-test.false
    (shapes_of c.args.task.now.vars c.args.task.now.graph c.view.result.names.now c.view.result.graph.now c.view.result.row.now (out-Node c.args.node.now).triples c.as_slice.result.now (λ v. v.items) c.in_ok-shapes.shapes
    (record { names = c.view.ensures.names; graphs = c.view.ensures.graph; rows = c.view.ensures.row }) c.as_slice.ensures c.in_ok-shapes.ensures)
    c.as_slice-2.ensures (ap length c.as_slice-below.ensures.value)
    (one_first p c.loop-child.rest.items c.new-entries.result.items c.push_item.new.items.items c.append-2.new.self.items c.new-entries.ensures.items c.in_ok-push_item.ensures.ok c.in_ok-append-2.ensures.items)
    c.loop-child.invariant

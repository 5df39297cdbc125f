use Rattle.std.proofs.Common.{◌≤◌, length, arith, ap}
use Rattle.bye_graph.proofs.graph.Graph.build.Goals as goal

pub add-requires : goal.add-requires
add-requires c =
    let added = ap length c.loop-triple.invariant.added in
    let left = c.loop-triple.invariant.left in
    let next = ap length c.in-Some.ensures.steps.0 in
    let most : length c.args.triples.items ≤ 1048576 = c.requires in
    omega (arith, added, left, next, most)

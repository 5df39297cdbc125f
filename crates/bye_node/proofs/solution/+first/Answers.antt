use Rattle.bye_table.specs.Mappings.{row_mapping}
use Rattle.bye_node.proofs.Solving.{empty_first, is_empty_list, left_begin, left_clash, left_failed, left_fits, left_none, left_reordered, reordered_self}
use Rattle.bye_node.proofs.solution.+first.Goals as goal

pub returns-then-is_empty : goal.returns-then-is_empty
returns-then-is_empty g t c = record {
  first =
      empty_first (row_mapping c.args.view.row.now) c.args.view.names.now c.args.view.graph.now c.args.conds.now c.args.shapes.now c.args.env.now c.all_hold.result
      (is_empty_list c.args.shapes.now c.is_empty.result c.is_empty.ensures c.if-is_empty.true) c.all_hold.ensures;
  shapes = reordered_self c.args.shapes.now;
}

pub loop-key-init : goal.loop-key-init
loop-key-init g t c =
    left_begin (row_mapping c.args.view.row.now) c.args.view.names.now c.args.view.graph.now c.args.conds.now c.args.shapes.now c.swap.new.self c.split_at_mut-rest.result.1.now _ c.args.env.now c.seek-found.result c.is_empty.result
    c.is_empty.ensures c.if-is_empty.false c.swap.ensures.permutation c.swap.ensures.len c.split_at_mut-rest.ensures.back c.seek-found.ensures.matches

pub loop-key-preserved : goal.loop-key-preserved
loop-key-preserved g t c =
    left_clash (row_mapping c.args.view.row.now) c.args.view.names.now c.args.view.graph.now c.args.conds.now c.args.shapes.now c.loop-key.rest _ c.args.env.now c.loop-key.env c.bind_key.new.self c.loop-key.found c.next_counted.new.self c.in-Some.key
    c.in-Some.ensures.next c.in_default-bind_key.ensures.0 c.in_default-bind_key.ensures.1 c.loop-key.invariant

pub loop-key-preserved-in-Some-bind_key : goal.loop-key-preserved-in-Some-bind_key
loop-key-preserved-in-Some-bind_key g t c =
    left_failed (row_mapping c.args.view.row.now) c.args.view.names.now c.args.view.graph.now c.args.conds.now c.args.shapes.now c.loop-key.rest c.first.new.shapes _ c.args.env.now c.loop-key.env c.bind_key.new.self c.first.new.env
    c.unbind.new.self c.loop-key.found c.next_counted.new.self c.in-Some.key c.in-Some-bind_key.bound c.first.result c.in-Some.ensures.next c.in-Some-bind_key.ensures c.if-first.false c.first.ensures.first c.first.ensures.shapes
    c.unbind.ensures c.loop-key.invariant

pub returns-then-first-clause-first : goal.returns-then-first-clause-first
returns-then-first-clause-first g t c =
    left_fits (row_mapping c.args.view.row.now) c.args.view.names.now c.args.view.graph.now c.args.conds.now c.args.shapes.now c.loop-key.rest _ c.args.env.now c.loop-key.env c.bind_key.new.self c.first.new.env c.loop-key.found
    c.next_counted.new.self c.in-Some.key c.in-Some-bind_key.bound c.first.result c.in-Some.ensures.next c.in-Some-bind_key.ensures c.if-first.true c.first.ensures.first c.loop-key.invariant

pub returns-then-first-clause-shapes : goal.returns-then-first-clause-shapes
returns-then-first-clause-shapes g t c =
    left_reordered (row_mapping c.args.view.row.now) c.args.view.names.now c.args.view.graph.now c.args.conds.now c.args.shapes.now c.swap.new.self c.split_at_mut-rest.result.0.now c.loop-key.rest c.first.new.shapes _ c.args.env.now
    c.loop-key.env c.loop-key.found c.is_empty.result c.is_empty.ensures c.if-is_empty.false c.swap.ensures.len c.split_at_mut-rest.ensures.front c.first.ensures.shapes c.loop-key.invariant

pub returns : goal.returns
returns g t c = record {
  first =
      left_none (row_mapping c.args.view.row.now) c.args.view.names.now c.args.view.graph.now c.args.conds.now c.args.shapes.now c.loop-key.rest _ c.args.env.now c.loop-key.env c.loop-key.found c.in_default.ensures.next.0
      c.loop-key.invariant;
  shapes =
      left_reordered (row_mapping c.args.view.row.now) c.args.view.names.now c.args.view.graph.now c.args.conds.now c.args.shapes.now c.swap.new.self c.split_at_mut-rest.result.0.now c.loop-key.rest c.loop-key.rest _ c.args.env.now
      c.loop-key.env c.loop-key.found c.is_empty.result c.is_empty.ensures c.if-is_empty.false c.swap.ensures.len c.split_at_mut-rest.ensures.front (reordered_self c.loop-key.rest) c.loop-key.invariant;
}

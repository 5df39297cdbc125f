use Rattle.std.proofs.Common.{arith}
use Rattle.bye_graph.proofs.Halving.{halved_step}
use Rattle.bye_graph.proofs.Sorted.{below_upto, from_on, less_below, not_less_from}
use Rattle.bye_graph.proofs.search.first_from.Goals as goal

pub loop-low-preserved-then-lt : goal.loop-low-preserved-then-lt
loop-low-preserved-then-lt g c = record {
  ordered = omega arith;
  within = c.loop-low.invariant.within;
  before = below_upto c.args.entries.now c.middle-place.result c.give-entry.result c.args.bound c.requires c.give-entry.ensures.entry (less_below c.give-entry.result c.args.bound _ c.lt.ensures c.if-lt.true);
  after = c.loop-low.invariant.after;
  there = c.loop-low.invariant.there;
  grows = omega arith;
  cost = halved_step _ _ _ _ _ _ c.loop-low.invariant.grows c.give-entry.ensures.step c.loop-low.invariant.cost (omega arith) (omega arith);
}

pub loop-low-preserved : goal.loop-low-preserved
loop-low-preserved g c = record {
  ordered = omega arith;
  within = omega arith;
  before = c.loop-low.invariant.before;
  after = from_on c.args.entries.now c.middle-place.result c.give-entry.result c.args.bound c.requires c.give-entry.ensures.entry (not_less_from c.give-entry.result c.args.bound _ c.lt.ensures c.if-lt.false);
  there = c.give-entry.ensures.entry;
  grows = omega arith;
  cost = halved_step _ _ _ _ _ _ c.loop-low.invariant.grows c.give-entry.ensures.step c.loop-low.invariant.cost (omega arith) (omega arith);
}

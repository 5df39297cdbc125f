use Rattle.std.proofs.Common.{◌≡◌, ◌-◌, ◌≤◌, length, take, drop, slice_get}
use Rattle.std.specs.List.{AllByRecursion}
use Rattle.bye_graph.specs.Orders.{IsBelow, IsFrom}
use Rattle.bye_graph.proofs.Halving.{IsHalved}
use Rattle.bye_graph.proofs.search.first_from.Given as goal

abbrev pub invariant-loop-low : goal.invariant-loop-low
invariant-loop-low g l = record {
  ordered : l.low ≤ l.high;
  within : l.high ≤ length l.entries;
  before : AllByRecursion (IsBelow l.bound) (take l.low l.entries);
  after : AllByRecursion (IsFrom l.bound) (drop l.high l.entries);
  there : l.there ≡ slice_get l.entries l.high;
  grows : l.initial.steps ≤ l.steps;
  cost : IsHalved (length l.entries) (l.steps - l.initial.steps) (l.high - l.low);
}

abbrev pub decreases-loop-low : goal.decreases-loop-low
decreases-loop-low g l = l.high - l.low

use Rattle.std.proofs.Common.{◌≡◌, ◌+◌, length}
use Rattle.bye_graph.proofs.graph.Graph.build.Given as goal

abbrev pub invariant-loop-triple : goal.invariant-loop-triple
invariant-loop-triple l = record {
  added : l.builder ≡ l.yielded;
  left : length l.yielded + length l.triple-iterator.rest.items ≡ length l.fn.triples.items;
}

use Rattle.std.proofs.Common.{◌≡◌, take}
use Rattle.std.specs.List.{flat_map}
use Rattle.bye_strongest.specs.Patterns.{patterns_of}
use Rattle.bye_strongest.proofs.patterns.patterns.Given as goal

abbrev pub invariant-loop-shape : goal.invariant-loop-shape
invariant-loop-shape l = l.out.items ≡ flat_map (patterns_of l.vars l.graph.terms) (take l.shape-index l.shapes)

use Rattle.std.proofs.Common.{map}
use Rattle.bye_pattern.specs.Nodes.{tree_of}
use Rattle.bye_tree.specs.Exprs.{expr_of}
use Rattle.bye_tree.specs.Parted.{IsParts}
use Rattle.bye_tree.specs.Written.{elements_of}
use Rattle.bye_tree.proofs.gathers.+parts_of.Given as goal

abbrev pub invariant-loop-element : goal.invariant-loop-element
invariant-loop-element l = IsParts (elements_of l.yielded) l.triples.items (map expr_of l.tests.items) (map tree_of l.children.items)

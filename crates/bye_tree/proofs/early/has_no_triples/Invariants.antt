use Rattle.std.proofs.Common.{◌≡◌, drop}
use Rattle.bye_tree.specs.Written.{elements_of, no_triples}
use Rattle.bye_tree.proofs.early.has_no_triples.Given as goal

abbrev pub invariant-loop-element : goal.invariant-loop-element
invariant-loop-element l = no_triples (elements_of (drop l.element-index l.elements)) ≡ no_triples (elements_of l.elements)

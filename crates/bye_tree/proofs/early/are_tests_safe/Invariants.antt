use Rattle.std.proofs.Common.{◌≡◌, drop}
use Rattle.bye_tree.specs.Written.{elements_of, tests_safe}
use Rattle.bye_tree.proofs.early.are_tests_safe.Given as goal

abbrev pub invariant-loop-element : goal.invariant-loop-element
invariant-loop-element l = tests_safe l.parent l.own (elements_of (drop l.element-index l.elements)) ≡ tests_safe l.parent l.own (elements_of l.elements)

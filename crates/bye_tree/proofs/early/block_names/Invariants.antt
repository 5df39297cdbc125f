use Rattle.std.proofs.Common.{◌≡◌, [], drop}
use Rattle.bye_pattern.specs.Patterns.{all_vars}
use Rattle.bye_pattern.specs.Written.{triples}
use Rattle.bye_tree.specs.Names.{with_names}
use Rattle.bye_tree.specs.Written.{elements_of}
use Rattle.bye_tree.proofs.early.block_names.Given as goal

abbrev pub invariant-loop-element : goal.invariant-loop-element
invariant-loop-element l = with_names l.names (all_vars (triples (elements_of (drop l.element-index l.elements)))) ≡ with_names [] (all_vars (triples (elements_of l.elements)))

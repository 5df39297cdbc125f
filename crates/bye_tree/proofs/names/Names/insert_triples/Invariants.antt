use Rattle.std.proofs.Common.{◌≡◌, drop}
use Rattle.bye_pattern.specs.Patterns.{all_vars}
use Rattle.bye_tree.specs.Names.{with_names}
use Rattle.bye_tree.proofs.names.Names.insert_triples.Given as goal

abbrev pub invariant-loop-pattern : goal.invariant-loop-pattern
invariant-loop-pattern l = with_names l.self (all_vars (drop l.pattern-index l.triples)) ≡ with_names l.initial.self (all_vars l.triples)

use Rattle.std.proofs.Common.{[], map}
use Rattle.std.specs.List.{flat_map}
use Rattle.bye_pattern.specs.Gathered.{conjuncts}
use Rattle.bye_tree.specs.Exprs.{expr_of}
use Rattle.bye_tree.specs.Taken.{IsTaken}
use Rattle.bye_tree.proofs.gathers.split_tests.Given as goal

abbrev pub invariant-loop-test : goal.invariant-loop-test
invariant-loop-test l = IsTaken l.root l.own (flat_map conjuncts (map expr_of l.yielded)) [] l.conds.items [] (map expr_of l.outer.items)

use Rattle.std.proofs.Common.{◌≡◌, map}
use Rattle.std.specs.List.{flat_map}
use Rattle.bye_pattern.specs.Gathered.{conjuncts}
use Rattle.bye_tree.specs.Exprs.{expr_of}
use Rattle.bye_tree.specs.Taken.{IsTaken}
use Rattle.bye_tree.proofs.gathers.+push_test.Given as goal

abbrev pub invariant-loop-test : goal.invariant-loop-test
invariant-loop-test l = IsTaken l.root l.own (flat_map conjuncts (map expr_of l.yielded)) l.initial.conds.items l.conds.items (map expr_of l.initial.outer.items) (map expr_of l.outer.items)

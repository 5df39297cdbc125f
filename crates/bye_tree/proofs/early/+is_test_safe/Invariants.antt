use Rattle.std.proofs.Common.{◌≡◌, drop, map}
use Rattle.std.specs.List.{list_all}
use Rattle.bye_tree.specs.Exprs.{expr_of}
use Rattle.bye_tree.specs.Written.{test_safe}
use Rattle.bye_tree.proofs.early.+is_test_safe.Given as goal

abbrev pub invariant-loop-test : goal.invariant-loop-test
invariant-loop-test l = list_all (test_safe l.parent l.own) (map expr_of (drop l.test-index l.test-items)) ≡ list_all (test_safe l.parent l.own) (map expr_of l.test-items)

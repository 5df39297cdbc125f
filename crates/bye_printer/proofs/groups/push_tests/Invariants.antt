use Rattle.std.proofs.Common.{◌≡◌, ◌++◌, map, take}
use Rattle.std.specs.List.{AllByRecursion, flat_map}
use Rattle.bye_pattern.specs.Printed.{filter_line}
use Rattle.bye_tree.specs.Exprs.{expr_of}
use Rattle.bye_grammar.specs.Valid.{IsExpr}
use Rattle.bye_printer.proofs.groups.push_tests.Given as goal

abbrev pub invariant-loop-test : goal.invariant-loop-test
invariant-loop-test l = record {
  text : l.out ≡ l.initial.out ++ flat_map (filter_line l.margin) (map expr_of (take l.test-index l.tests));
  valid : AllByRecursion IsExpr (map expr_of (take l.test-index l.tests));
}

use Rattle.std.proofs.Common.{List, [], map, sym, subst}
use Rattle.std.specs.List.{flat_map}
use Rattle.bye_pattern.specs.Conditions.{Expr}
use Rattle.bye_pattern.specs.Gathered.{conjuncts}
use Rattle.bye_tree.specs.Exprs.{expr_of}
use Rattle.bye_tree.specs.Taken.{IsTaken}
use Rattle.bye_tree.proofs.Taking.{more_taken, one_more}
use Rattle.bye_tree.proofs.gathers.split_tests.Goals as goal

pub loop-test-preserved : goal.loop-test-preserved
loop-test-preserved c =
    subst (λ (es : List Expr). IsTaken c.args.root c.args.own.now es [] c.push_test.new.conds.items [] (map expr_of c.push_test.new.outer.items)) (sym (one_more c.loop-test.yielded c.in-Some.test))
    (more_taken c.args.root c.args.own.now (flat_map conjuncts (map expr_of c.loop-test.yielded)) (conjuncts (expr_of c.in-Some.test)) [] c.loop-test.conds.items c.push_test.new.conds.items
    [] (map expr_of c.loop-test.outer.items) (map expr_of c.push_test.new.outer.items) c.loop-test.invariant c.in_ok-push_test.ensures)

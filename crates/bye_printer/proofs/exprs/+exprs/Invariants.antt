use Rattle.std.proofs.Common.{◌≡◌, ◌++◌, map, take}
use Rattle.std.specs.List.{AllByRecursion, flat_map}
use Rattle.bye_tree.specs.Exprs.{expr_of}
use Rattle.bye_grammar.specs.Valid.{IsExpr}
use Rattle.bye_printer.specs.Joined.{closed}
use Rattle.bye_printer.proofs.exprs.+exprs.Given as goal

abbrev pub invariant-push_later-loop-expr : goal.invariant-push_later-loop-expr
invariant-push_later-loop-expr l = record {
  text : l.out ≡ l.initial.out ++ flat_map (closed l.sign) (map expr_of (take l.expr-index l.later));
  valid : AllByRecursion IsExpr (map expr_of (take l.expr-index l.later));
}

use Rattle.std.proofs.Common.{◌≡◌, ◌++◌, take}
use Rattle.std.specs.List.{AllByRecursion, flat_map}
use Rattle.bye_pattern.specs.Conditions.{cond_expr}
use Rattle.bye_pattern.specs.Printed.{filter_line}
use Rattle.bye_grammar.specs.Valid.{IsExpr}
use Rattle.bye_printer.proofs.groups.push_conds.Given as goal

abbrev pub invariant-loop-cond : goal.invariant-loop-cond
invariant-loop-cond l = record {
  text : l.out ≡ l.initial.out ++ flat_map (λ c. filter_line l.margin (cond_expr c)) (take l.cond-index l.conds);
  valid : AllByRecursion (λ c. IsExpr (cond_expr c)) (take l.cond-index l.conds);
}

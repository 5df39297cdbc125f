use Rattle.std.proofs.Common.{refl, List, map, sym, ◌∙◌, ap}
use Rattle.bye_table.specs.Mappings.{is_in}
use Rattle.bye_pattern.specs.declared.slot.Slot.TheVariants as slots
use Rattle.bye_pattern.specs.declared.cond.Cond.TheVariants as conds
use Rattle.bye_pattern.specs.Conditions as plain
use Rattle.bye_tree.specs.declared.expr.Expr.TheFolds.{fold-roll-Expr}
use Rattle.bye_tree.specs.declared.expr.Expr.TheVariants.{rolls-Bound, rolls-KindOf, rolls-Same, rolls-And, rolls-Or}
use Rattle.bye_tree.specs.declared.expr.Expr.TheOpen as layer
use Rattle.bye_tree.specs.Exprs.{expr_of, expr_step, joined}
use Rattle.bye_tree.specs.Taken.{taken}
use Rattle.bye_tree.proofs.Taking.{leave_on, one_var, own_left, own_taken, take_on, two_vars}
use Rattle.bye_tree.specs.declared.expr.Expr.TheVariants.{Same}
use Rattle.bye_tree.proofs.gathers.push_turned.Goals as goal

pub returns-then-is_own : goal.returns-then-is_own
returns-then-is_own c =
    take_on c.push_item.result c.args.root c.args.own.now (plain.Same (slots.Const c.args.constant) (slots.Var c.args.var)) (conds.SameConst c.args.var c.args.constant) c.args.conds.now.items c.push_item.new.items.items (map expr_of c.args.outer.now.items) refl
    (own_taken c.args.root c.args.own.now (conds.SameConst c.args.var c.args.constant) (is_in c.args.own.now c.args.var) c.is_own.result (one_var c.args.own.now c.args.var) c.is_own.ensures c.if-is_own.true) c.push_item.ensures.ok

pub returns : goal.returns
returns c =
    leave_on c.leave.result c.args.root c.args.own.now (plain.Same (slots.Const c.args.constant) (slots.Var c.args.var)) (expr_of (Same (slots.Const c.args.constant) (slots.Var c.args.var))) c.args.conds.now.items (map expr_of c.args.outer.now.items) (map expr_of c.leave.new.outer.items)
    (ap expr_of (sym (rolls-Same (slots.Const c.args.constant) (slots.Var c.args.var))) ∙ fold-roll-Expr plain.Expr expr_step (layer.Same (slots.Const c.args.constant) (slots.Var c.args.var))) refl
    (own_left c.args.root c.args.own.now (conds.SameConst c.args.var c.args.constant) (is_in c.args.own.now c.args.var) c.is_own.result (one_var c.args.own.now c.args.var) c.is_own.ensures c.if-is_own.false) c.leave.ensures

use Rattle.std.proofs.Common.{refl, List, map, sym, ◌∙◌, ap}
use Rattle.bye_table.specs.Mappings.{is_in}
use Rattle.bye_pattern.specs.declared.slot.Slot.TheVariants as slots
use Rattle.bye_pattern.specs.declared.cond.Cond.TheVariants as conds
use Rattle.bye_pattern.specs.Conditions as plain
use Rattle.bye_tree.specs.declared.expr.Expr.TheFolds.{fold-roll-Expr}
use Rattle.bye_tree.specs.declared.expr.Expr.TheVariants.{rolls-Bound, rolls-KindOf, rolls-Same, rolls-And, rolls-Or}
use Rattle.bye_tree.specs.declared.expr.Expr.TheOpen as layer
use Rattle.bye_tree.specs.Exprs.{expr_of, expr_step, joined}
use Rattle.bye_tree.specs.Taken.{taken}
use Rattle.bye_tree.proofs.Taking.{leave_on, one_var, own_left, own_taken, take_on, two_vars}
use Rattle.bye_tree.specs.declared.expr.Expr.TheVariants.{KindOf}
use Rattle.bye_tree.proofs.gathers.push_kind.Goals as goal

pub returns-else-is_own : goal.returns-else-is_own
returns-else-is_own c =
    leave_on c.leave-in-Var.result c.args.root c.args.own.now (plain.KindOf c.args.kind c.args.slot) (expr_of (KindOf c.args.kind (slots.Var c.in-Var.var))) c.args.conds.now.items (map expr_of c.args.outer.now.items) (map expr_of c.leave-in-Var.new.outer.items)
    (ap expr_of (sym (rolls-KindOf c.args.kind (slots.Var c.in-Var.var))) ∙ fold-roll-Expr plain.Expr expr_step (layer.KindOf c.args.kind (slots.Var c.in-Var.var)) ∙ ap (λ s. plain.KindOf c.args.kind s) (sym c.in-Var.is)) refl
    (ap (λ s. taken c.args.root c.args.own.now (plain.KindOf c.args.kind s)) c.in-Var.is
    ∙ own_left c.args.root c.args.own.now (conds.KindOf c.args.kind c.in-Var.var) (is_in c.args.own.now c.in-Var.var) c.is_own.result (one_var c.args.own.now c.in-Var.var) c.is_own.ensures c.if-is_own.false)
    c.leave-in-Var.ensures

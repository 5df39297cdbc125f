use Rattle.std.proofs.Common.{List, sym, ◌∙◌, ap, map}
use Rattle.bye_pattern.specs.Conditions as plain
use Rattle.bye_tree.specs.declared.expr.Expr.{Expr}
use Rattle.bye_tree.specs.declared.expr.Expr.TheFolds.{fold-roll-Expr}
use Rattle.bye_tree.specs.declared.expr.Expr.TheVariants.{rolls-And, rolls-Or}
use Rattle.bye_tree.specs.declared.expr.Expr.TheOpen as layer
use Rattle.bye_tree.specs.Exprs.{expr_of, expr_step, joined}
use Rattle.bye_pattern.specs.Printed.{is_call}
use Rattle.bye_printer.proofs.Chains.{alone, several_and, several_or}
use Rattle.bye_printer.proofs.exprs.+is_written_as_call.Goals as goal

pub returns-else-is_empty : goal.returns-else-is_empty
returns-else-is_empty t c =
    several_and (expr_of c.args.expr.now) (expr_of c.in-And.first.value) c.as_slice.result.now c.is_empty.result
    (ap expr_of (c.in-And.is ∙ sym (rolls-And c.in-And.first c.in-And.later)) ∙ fold-roll-Expr plain.Expr expr_step (layer.And c.in-And.first c.in-And.later)
    ∙ ap (λ (es : List Expr). joined plain.And (expr_of c.in-And.first.value) (map expr_of es)) (sym c.as_slice.ensures.value))
    c.is_empty.ensures c.if-is_empty.false

pub returns-then-is_empty-2 : goal.returns-then-is_empty-2
returns-then-is_empty-2 t c =
    alone plain.Or (expr_of c.args.expr.now) (expr_of c.in-Or.first.value) c.as_slice-in-Or.result.now c.is_empty-in-Or.result c.is_written_as_call-then-is_empty-2.result
    (ap expr_of (c.in-Or.is ∙ sym (rolls-Or c.in-Or.first c.in-Or.later)) ∙ fold-roll-Expr plain.Expr expr_step (layer.Or c.in-Or.first c.in-Or.later)
    ∙ ap (λ (es : List Expr). joined plain.Or (expr_of c.in-Or.first.value) (map expr_of es)) (sym c.as_slice-in-Or.ensures.value))
    c.is_empty-in-Or.ensures c.if-is_empty-2.true (c.is_written_as_call-then-is_empty-2.ensures ∙ ap (λ e. is_call (expr_of e)) c.deref-then-is_empty-2.ensures)

pub returns-else-is_empty-2 : goal.returns-else-is_empty-2
returns-else-is_empty-2 t c =
    several_or (expr_of c.args.expr.now) (expr_of c.in-Or.first.value) c.as_slice-in-Or.result.now c.is_empty-in-Or.result
    (ap expr_of (c.in-Or.is ∙ sym (rolls-Or c.in-Or.first c.in-Or.later)) ∙ fold-roll-Expr plain.Expr expr_step (layer.Or c.in-Or.first c.in-Or.later)
    ∙ ap (λ (es : List Expr). joined plain.Or (expr_of c.in-Or.first.value) (map expr_of es)) (sym c.as_slice-in-Or.ensures.value))
    c.is_empty-in-Or.ensures c.if-is_empty-2.false

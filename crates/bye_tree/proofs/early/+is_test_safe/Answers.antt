use Rattle.std.proofs.Common.{◌≡◌, refl, List, sym, ◌∙◌, ap, map}
use Rattle.bye_pattern.specs.Conditions as plain
use Rattle.bye_tree.specs.declared.expr.Expr.{Expr}
use Rattle.bye_tree.specs.declared.expr.Expr.TheFolds.{fold-roll-Expr}
use Rattle.bye_tree.specs.declared.expr.Expr.TheVariants.{rolls-And, rolls-Or}
use Rattle.bye_tree.specs.declared.expr.Expr.TheOpen as layer
use Rattle.bye_tree.specs.Exprs.{expr_of, expr_step, joined}
use Rattle.bye_tree.specs.Written.{test_safe}
use Rattle.bye_tree.proofs.Truths.{all_safe, first_unsafe, later_unsafe, not_none, or_several}
use Rattle.bye_tree.proofs.early.+is_test_safe.Goals as goal

pub returns-then-not-is_test_safe : goal.returns-then-not-is_test_safe
returns-then-not-is_test_safe t c =
    first_unsafe c.args.parent.now c.args.own.now (expr_of c.args.test.now) (expr_of c.in-And.first.value) (map expr_of c.in-And.later.items) c.is_test_safe.result
    (ap expr_of (c.in-And.is ∙ sym (rolls-And c.in-And.first c.in-And.later)) ∙ fold-roll-Expr plain.Expr expr_step (layer.And c.in-And.first c.in-And.later))
    (c.is_test_safe.ensures ∙ ap (λ e. test_safe c.args.parent.now c.args.own.now (expr_of e)) c.deref.ensures) c.if-not-is_test_safe.true

pub returns-then-not-is_test_safe-2 : goal.returns-then-not-is_test_safe-2
returns-then-not-is_test_safe-2 t c =
    later_unsafe c.args.parent.now c.args.own.now (expr_of c.args.test.now) (expr_of c.in-And.first.value) c.as_slice-test-items.result.now c.loop-test.test-index c.test-item.result c.is_test_safe.result
    c.is_test_safe-in-loop-test.result
    (ap expr_of (c.in-And.is ∙ sym (rolls-And c.in-And.first c.in-And.later)) ∙ fold-roll-Expr plain.Expr expr_step (layer.And c.in-And.first c.in-And.later)
    ∙ ap (λ (es : List Expr). joined plain.And (expr_of c.in-And.first.value) (map expr_of es)) (sym c.as_slice-test-items.ensures.value))
    (c.is_test_safe.ensures ∙ ap (λ e. test_safe c.args.parent.now c.args.own.now (expr_of e)) c.deref.ensures) c.if-not-is_test_safe.false c.loop-test-test.true c.test-item.is c.loop-test.invariant
    c.is_test_safe-in-loop-test.ensures c.if-not-is_test_safe-2.true

pub returns-after-loop-test : goal.returns-after-loop-test
returns-after-loop-test t c =
    all_safe c.args.parent.now c.args.own.now (expr_of c.args.test.now) (expr_of c.in-And.first.value) c.as_slice-test-items.result.now c.loop-test.test-index c.is_test_safe.result
    (ap expr_of (c.in-And.is ∙ sym (rolls-And c.in-And.first c.in-And.later)) ∙ fold-roll-Expr plain.Expr expr_step (layer.And c.in-And.first c.in-And.later)
    ∙ ap (λ (es : List Expr). joined plain.And (expr_of c.in-And.first.value) (map expr_of es)) (sym c.as_slice-test-items.ensures.value))
    (c.is_test_safe.ensures ∙ ap (λ e. test_safe c.args.parent.now c.args.own.now (expr_of e)) c.deref.ensures) c.if-not-is_test_safe.false c.loop-test-test.false c.loop-test.invariant

pub returns-else-is_empty : goal.returns-else-is_empty
returns-else-is_empty t c =
    or_several c.args.parent.now c.args.own.now (expr_of c.args.test.now) (expr_of c.in-Or.first.value) c.as_slice-later.result.now
    (ap expr_of (c.in-Or.is ∙ sym (rolls-Or c.in-Or.first c.in-Or.later)) ∙ fold-roll-Expr plain.Expr expr_step (layer.Or c.in-Or.first c.in-Or.later)
    ∙ ap (λ (es : List Expr). joined plain.Or (expr_of c.in-Or.first.value) (map expr_of es)) (sym c.as_slice-later.ensures.value))
    (not_none c.as_slice-later.result.now c.is_empty.result c.is_empty.ensures c.if-is_empty.false)

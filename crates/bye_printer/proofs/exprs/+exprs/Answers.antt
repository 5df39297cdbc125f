use Rattle.std.proofs.Common.{◌≡◌, ◌++◌, ℕ, List, codes, sym, ◌∙◌, ap, subst, map, OnOk}
use Rattle.bye_pattern.specs.Conditions as plain
use Rattle.bye_tree.specs.declared.expr.Expr.{Expr}
use Rattle.bye_tree.specs.declared.expr.Expr.TheFolds.{fold-roll-Expr}
use Rattle.bye_tree.specs.declared.expr.Expr.TheVariants.{rolls-And, rolls-Or}
use Rattle.bye_tree.specs.declared.expr.Expr.TheOpen as layer
use Rattle.bye_tree.specs.Exprs.{expr_of, expr_step, joined}
use Rattle.bye_grammar.specs.Valid.{IsExpr}
use Rattle.bye_printer.specs.Joined.{inner_text}
use Rattle.bye_printer.proofs.Chains.{and_put, and_valid, or_put, or_valid, later_ok, later_text, later_valid}
use Rattle.bye_printer.proofs.exprs.+exprs.Goals as goal

pub push_later-loop-expr-preserved : goal.push_later-loop-expr-preserved
push_later-loop-expr-preserved t c =
    let sign = c.args.sign.now in
    let es = c.args.later.now in
    let x = c.expr-item.result in
    record {
      text = later_text sign c.args.out.now c.loop-expr.out c.push_ascii-in-loop-expr.new.self es c.loop-expr.expr-index x c.loop-expr-test.true c.expr-item.is c.loop-expr.invariant.text
          (c.in_ok-push_ascii-2.ensures.ok ∙ ap (λ text. text ++ codes ")") (c.in_ok-push_inner.ensures.text ∙ ap (λ text. text ++ inner_text (expr_of x)) c.in_ok-push_ascii.ensures.ok));
      valid = later_valid es c.loop-expr.expr-index x c.loop-expr-test.true c.expr-item.is c.loop-expr.invariant.valid c.in_ok-push_inner.ensures.valid;
    }

pub push_inner-returns-in_ok-push_inner-in-And-clause-text : goal.push_inner-returns-in_ok-push_inner-in-And-clause-text
push_inner-returns-in_ok-push_inner-in-And-clause-text t c =
    subst (λ (text : List ℕ). OnOk c.push_later.result (c.push_later.new.out ≡ text))
    (and_put (expr_of c.args.expr.now) (expr_of c.in-And.first.value) c.as_slice-later.result.now c.args.out.now c.push_opened.new.out c.push_inner-in-And.new.out
    (ap expr_of (c.in-And.is ∙ sym (rolls-And c.in-And.first c.in-And.later)) ∙ fold-roll-Expr plain.Expr expr_step (layer.And c.in-And.first c.in-And.later)
    ∙ ap (λ (es : List Expr). joined plain.And (expr_of c.in-And.first.value) (map expr_of es)) (sym c.as_slice-later.ensures.value))
    c.in_ok-push_opened-in-And.ensures (c.in_ok-push_inner-in-And.ensures.text ∙ ap (λ e. c.push_opened.new.out ++ inner_text (expr_of e)) c.deref-in-And.ensures))
    c.push_later.ensures.text

pub push_inner-returns-in_ok-push_inner-in-And-clause-valid : goal.push_inner-returns-in_ok-push_inner-in-And-clause-valid
push_inner-returns-in_ok-push_inner-in-And-clause-valid t c =
    later_ok c.push_later.result (and_valid (expr_of c.args.expr.now) (expr_of c.in-And.first.value) c.as_slice-later.result.now
    (ap expr_of (c.in-And.is ∙ sym (rolls-And c.in-And.first c.in-And.later)) ∙ fold-roll-Expr plain.Expr expr_step (layer.And c.in-And.first c.in-And.later)
    ∙ ap (λ (es : List Expr). joined plain.And (expr_of c.in-And.first.value) (map expr_of es)) (sym c.as_slice-later.ensures.value))
    (subst (λ e. IsExpr (expr_of e)) c.deref-in-And.ensures c.in_ok-push_inner-in-And.ensures.valid)) c.push_later.ensures.valid

pub push_inner-returns-in_ok-push_inner-in-Or-clause-text : goal.push_inner-returns-in_ok-push_inner-in-Or-clause-text
push_inner-returns-in_ok-push_inner-in-Or-clause-text t c =
    subst (λ (text : List ℕ). OnOk c.push_later-in-Or.result (c.push_later-in-Or.new.out ≡ text))
    (or_put (expr_of c.args.expr.now) (expr_of c.in-Or.first.value) c.as_slice-later-in-Or.result.now c.args.out.now c.push_opened-in-Or.new.out c.push_inner-in-Or.new.out
    (ap expr_of (c.in-Or.is ∙ sym (rolls-Or c.in-Or.first c.in-Or.later)) ∙ fold-roll-Expr plain.Expr expr_step (layer.Or c.in-Or.first c.in-Or.later)
    ∙ ap (λ (es : List Expr). joined plain.Or (expr_of c.in-Or.first.value) (map expr_of es)) (sym c.as_slice-later-in-Or.ensures.value))
    c.in_ok-push_opened-in-Or.ensures (c.in_ok-push_inner-in-Or.ensures.text ∙ ap (λ e. c.push_opened-in-Or.new.out ++ inner_text (expr_of e)) c.deref-in-Or.ensures))
    c.push_later-in-Or.ensures.text

pub push_inner-returns-in_ok-push_inner-in-Or-clause-valid : goal.push_inner-returns-in_ok-push_inner-in-Or-clause-valid
push_inner-returns-in_ok-push_inner-in-Or-clause-valid t c =
    later_ok c.push_later-in-Or.result (or_valid (expr_of c.args.expr.now) (expr_of c.in-Or.first.value) c.as_slice-later-in-Or.result.now
    (ap expr_of (c.in-Or.is ∙ sym (rolls-Or c.in-Or.first c.in-Or.later)) ∙ fold-roll-Expr plain.Expr expr_step (layer.Or c.in-Or.first c.in-Or.later)
    ∙ ap (λ (es : List Expr). joined plain.Or (expr_of c.in-Or.first.value) (map expr_of es)) (sym c.as_slice-later-in-Or.ensures.value))
    (subst (λ e. IsExpr (expr_of e)) c.deref-in-Or.ensures c.in_ok-push_inner-in-Or.ensures.valid)) c.push_later-in-Or.ensures.valid

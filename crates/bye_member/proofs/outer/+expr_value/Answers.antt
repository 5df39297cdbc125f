use Rattle.std.proofs.Common.{◌≡◌, List, map, sym, ◌∙◌, ap}
use Rattle.bye_table.specs.Mappings.{Mapping, row_mapping}
use Rattle.bye_pattern.specs.Conditions as plain
use Rattle.bye_tree.specs.declared.expr.Expr.{Expr}
use Rattle.bye_tree.specs.declared.expr.Expr.TheFolds.{fold-roll-Expr}
use Rattle.bye_tree.specs.declared.expr.Expr.TheVariants.{rolls-And, rolls-Or}
use Rattle.bye_tree.specs.declared.expr.Expr.TheOpen as layer
use Rattle.bye_tree.specs.Exprs.{expr_of, expr_step, joined}
use Rattle.bye_node.specs.Steps.{beside}
use Rattle.bye_member.proofs.Valued.{and_whole, or_whole}
use Rattle.bye_member.proofs.outer.+expr_value.Goals as goal

pub returns-after-loop-next : goal.returns-after-loop-next
returns-after-loop-next t c =
    let m : Mapping = beside (row_mapping c.args.view.row.now) c.args.view.names.now c.args.view.graph.now.terms c.args.env.now in
    let level : expr_of c.args.expr.now ≡ joined plain.And (expr_of c.in-And.first.value) (map expr_of c.in-And.later.items) =
    ap expr_of (c.in-And.is ∙ sym (rolls-And c.in-And.first c.in-And.later)) ∙ fold-roll-Expr plain.Expr expr_step (layer.And c.in-And.first c.in-And.later) in
    let is : expr_of c.args.expr.now ≡ joined plain.And (expr_of c.in-And.first.value) (map expr_of c.as_slice-next-items.result.now) =
    level ∙ ap (λ (es : List Expr). joined plain.And (expr_of c.in-And.first.value) (map expr_of es)) (sym c.as_slice-next-items.ensures.value) in
    and_whole m (expr_of c.args.expr.now) (expr_of c.in-And.first.value) (expr_of c.deref-in-And.result.now) c.as_slice-next-items.result.now c.loop-next.next-index c.expr_value-all.result c.loop-next.all is
    (ap expr_of c.deref-in-And.ensures) c.expr_value-all.ensures c.loop-next-test.false c.loop-next.invariant

pub returns-after-loop-next-2 : goal.returns-after-loop-next-2
returns-after-loop-next-2 t c =
    let m : Mapping = beside (row_mapping c.args.view.row.now) c.args.view.names.now c.args.view.graph.now.terms c.args.env.now in
    let level : expr_of c.args.expr.now ≡ joined plain.Or (expr_of c.in-Or.first.value) (map expr_of c.in-Or.later.items) =
    ap expr_of (c.in-Or.is ∙ sym (rolls-Or c.in-Or.first c.in-Or.later)) ∙ fold-roll-Expr plain.Expr expr_step (layer.Or c.in-Or.first c.in-Or.later) in
    let is : expr_of c.args.expr.now ≡ joined plain.Or (expr_of c.in-Or.first.value) (map expr_of c.as_slice-next-items-in-Or.result.now) =
    level ∙ ap (λ (es : List Expr). joined plain.Or (expr_of c.in-Or.first.value) (map expr_of es)) (sym c.as_slice-next-items-in-Or.ensures.value) in
    or_whole m (expr_of c.args.expr.now) (expr_of c.in-Or.first.value) (expr_of c.deref-in-Or.result.now) c.as_slice-next-items-in-Or.result.now c.loop-next-2.next-index c.expr_value-any.result c.loop-next-2.any is
    (ap expr_of c.deref-in-Or.ensures) c.expr_value-any.ensures c.loop-next-2-test.false c.loop-next-2.invariant

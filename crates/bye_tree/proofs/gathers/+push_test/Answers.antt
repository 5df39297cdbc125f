use Rattle.std.proofs.Common.{refl, List, map, sym, ◌∙◌, ap}
use Rattle.bye_table.specs.Mappings.{is_in}
use Rattle.bye_pattern.specs.declared.slot.Slot.TheVariants as slots
use Rattle.bye_pattern.specs.declared.cond.Cond.TheVariants as conds
use Rattle.bye_pattern.specs.Conditions as plain
use Rattle.bye_tree.specs.declared.expr.Expr.TheFolds.{fold-roll-Expr}
use Rattle.bye_tree.specs.declared.expr.Expr.TheVariants.{rolls-Bound, rolls-KindOf, rolls-Same, rolls-And, rolls-Or}
use Rattle.bye_tree.specs.declared.expr.Expr.TheOpen as layer
use Rattle.bye_tree.specs.Exprs.{expr_of, expr_step, joined}
use Rattle.bye_tree.specs.Taken.{taken}
use Rattle.bye_tree.proofs.Taking.{leave_on, one_var, own_left, own_taken, take_on, two_vars}
use Rattle.std.proofs.Common.{◌≡◌, subst}
use Rattle.std.proofs.lemmas.List.{map-id}
use Rattle.std.proofs.lemmas.Iterator.Adapters.{YieldsList-from_vec}
use Rattle.std.proofs.lemmas.Iterator.Consumers.{YieldsList-end}
use Rattle.std.specs.List.{flat_map}
use Rattle.bye_pattern.specs.Gathered.{conjuncts}
use Rattle.bye_tree.specs.declared.expr.Expr.{Expr}
use Rattle.bye_tree.specs.declared.expr.Expr.TheVariants.{Bound, Or}
use Rattle.bye_tree.specs.Taken.{IsTaken}
use Rattle.bye_tree.proofs.Truths.{not_none}
use Rattle.bye_tree.proofs.Taking.{and_taken, more_taken, one_conjunct, one_more, same_on, several_conjuncts, several_left, single}
use Rattle.bye_tree.proofs.gathers.+push_test.Goals as goal

pub loop-test-preserved : goal.loop-test-preserved
loop-test-preserved t c =
    subst (λ (es : List plain.Expr). IsTaken c.args.root c.args.own.now es c.push_test.new.conds.items c.push_test-in-loop-test.new.conds.items (map expr_of c.push_test.new.outer.items) (map expr_of c.push_test-in-loop-test.new.outer.items))
    (sym (one_more c.loop-test.yielded c.in-Some.test))
    (more_taken c.args.root c.args.own.now (flat_map conjuncts (map expr_of c.loop-test.yielded)) (conjuncts (expr_of c.in-Some.test)) c.push_test.new.conds.items c.loop-test.conds.items c.push_test-in-loop-test.new.conds.items
    (map expr_of c.push_test.new.outer.items) (map expr_of c.loop-test.outer.items) (map expr_of c.push_test-in-loop-test.new.outer.items) c.loop-test.invariant c.in_ok-push_test-in-And-2.ensures)

pub returns-then-is_empty : goal.returns-then-is_empty
returns-then-is_empty t c =
    same_on c.push_test-then-is_empty.result c.args.root c.args.own.now (expr_of c.into_inner-then-is_empty.result) (expr_of c.args.test) c.args.conds.now.items c.push_test-then-is_empty.new.conds.items
    (map expr_of c.args.outer.now.items) (map expr_of c.push_test-then-is_empty.new.outer.items)
    (single (expr_of c.args.test) (expr_of c.in-Or.first.value) c.as_slice.result.now c.is_empty.result
    (ap expr_of (c.in-Or.is ∙ sym (rolls-Or c.in-Or.first c.in-Or.later)) ∙ fold-roll-Expr plain.Expr expr_step (layer.Or c.in-Or.first c.in-Or.later) ∙ ap (λ (es : List Expr). joined plain.Or (expr_of c.in-Or.first.value) (map expr_of es)) (sym c.as_slice.ensures.value))
    c.is_empty.ensures c.if-is_empty.true ∙ ap expr_of (sym c.into_inner-then-is_empty.ensures))
    c.push_test-then-is_empty.ensures

pub returns-then-is_own : goal.returns-then-is_own
returns-then-is_own t c =
    let e = ap expr_of (c.in-Bound.is ∙ sym (rolls-Bound c.in-Bound.var)) ∙ fold-roll-Expr plain.Expr expr_step (layer.Bound c.in-Bound.var) in
    take_on c.push_item.result c.args.root c.args.own.now (expr_of c.args.test) (conds.Bound c.in-Bound.var) c.args.conds.now.items c.push_item.new.items.items (map expr_of c.args.outer.now.items)
    (one_conjunct (expr_of c.args.test) (plain.IsBound c.in-Bound.var) e refl)
    (ap (taken c.args.root c.args.own.now) e ∙ own_taken c.args.root c.args.own.now (conds.Bound c.in-Bound.var) (is_in c.args.own.now c.in-Bound.var) c.is_own.result (one_var c.args.own.now c.in-Bound.var) c.is_own.ensures c.if-is_own.true)
    c.push_item.ensures.ok

pub returns-else-is_own : goal.returns-else-is_own
returns-else-is_own t c =
    let e = ap expr_of (c.in-Bound.is ∙ sym (rolls-Bound c.in-Bound.var)) ∙ fold-roll-Expr plain.Expr expr_step (layer.Bound c.in-Bound.var) in
    leave_on c.leave-in-Bound.result c.args.root c.args.own.now (expr_of c.args.test) (expr_of (Bound c.in-Bound.var)) c.args.conds.now.items (map expr_of c.args.outer.now.items) (map expr_of c.leave-in-Bound.new.outer.items)
    (ap expr_of (sym c.in-Bound.is)) (one_conjunct (expr_of c.args.test) (plain.IsBound c.in-Bound.var) e refl)
    (ap (taken c.args.root c.args.own.now) e ∙ own_left c.args.root c.args.own.now (conds.Bound c.in-Bound.var) (is_in c.args.own.now c.in-Bound.var) c.is_own.result (one_var c.args.own.now c.in-Bound.var) c.is_own.ensures c.if-is_own.false)
    c.leave-in-Bound.ensures

pub returns-else-is_empty : goal.returns-else-is_empty
returns-else-is_empty t c =
    let e = ap expr_of (c.in-Or.is ∙ sym (rolls-Or c.in-Or.first c.in-Or.later)) ∙ fold-roll-Expr plain.Expr expr_step (layer.Or c.in-Or.first c.in-Or.later) ∙ ap (λ (es : List Expr). joined plain.Or (expr_of c.in-Or.first.value) (map expr_of es)) (sym c.as_slice.ensures.value) in
    let some = not_none c.as_slice.result.now c.is_empty.result c.is_empty.ensures c.if-is_empty.false in
    leave_on c.leave.result c.args.root c.args.own.now (expr_of c.args.test) (expr_of (Or c.in-Or.first c.in-Or.later)) c.args.conds.now.items (map expr_of c.args.outer.now.items) (map expr_of c.leave.new.outer.items)
    (ap expr_of (sym c.in-Or.is)) (several_conjuncts (expr_of c.args.test) (expr_of c.in-Or.first.value) c.as_slice.result.now e some)
    (several_left c.args.root c.args.own.now (expr_of c.args.test) (expr_of c.in-Or.first.value) c.as_slice.result.now e some)
    c.leave.ensures

pub returns-in-None : goal.returns-in-None
returns-in-None t c =
    let gives = c.into_iter-test-iterator.ensures.into_iter_gives in
    let all : c.loop-test.yielded ≡ c.in-And.later.items = sym (map-id c.loop-test.yielded)
    ∙ (YieldsList-end (YieldsList-from_vec c.in-And.later.items gives.0 (gives.1 ∙ c.in-And.later.ok.0)) c.loop-test.yielded c.loop-test.test-iterator c.loop-test.yielded_by c.next.result c.next.new.self c.in-None.is c.next.ensures.steps).0 in
    and_taken c.args.root c.args.own.now (expr_of c.args.test) (expr_of c.in-And.first.value) c.in-And.later.items c.loop-test.yielded c.args.conds.now.items c.push_test.new.conds.items c.loop-test.conds.items
    (map expr_of c.args.outer.now.items) (map expr_of c.push_test.new.outer.items) (map expr_of c.loop-test.outer.items)
    (ap expr_of (c.in-And.is ∙ sym (rolls-And c.in-And.first c.in-And.later)) ∙ fold-roll-Expr plain.Expr expr_step (layer.And c.in-And.first c.in-And.later)) all (expr_of c.into_inner.result) (ap expr_of c.into_inner.ensures)
    c.in_ok-push_test-in-And.ensures c.loop-test.invariant

use Rattle.std.proofs.Common.{sym, ◌∙◌, ap}
use Rattle.bye_parts.specs.Readers.{Got}
use Rattle.bye_descent.proofs.Depths.{call_bound, call_kind}
use Rattle.bye_descent.proofs.filter.call.Goals as goal

pub returns-then-begins_with_word : goal.returns-then-begins_with_word
returns-then-begins_with_word c =
    call_bound c.args.prefixes.now c.args.place c.args.depth c.args.left.now c.take_word.new.self c.open.new.left c.variable.new.left c.take_sign.new.self c.in_ok-open.field-0 c.in_ok-take_sign.field-0 c.in_ok-take_word.field-0 c.in_ok-v.v
    (sym c.if-begins_with_word.ensures) c.in_ok-take_word.ensures c.in_ok-open.ensures c.in_ok-v.ensures c.in_ok-take_sign.ensures
    ∙ ap (λ e. Got e c.take_sign.new.self) (sym c.bound.ensures)

pub returns : goal.returns
returns c =
    call_kind c.args.prefixes.now c.args.place c.args.depth c.args.left.now c.kind_test.new.left c.open-2.new.left c.argument.new.left c.take_sign-2.new.self c.in_ok-open-3.field-0 c.in_ok-take_sign-3.field-0 c.in_ok-kind.kind c.in_ok-s.s
    (sym c.if-begins_with_word.ensures) (sym c.if-begins_with_word-2.ensures) c.in_ok-kind.ensures c.in_ok-open-3.ensures c.in_ok-s.ensures c.in_ok-take_sign-3.ensures
    ∙ ap (λ e. Got e c.take_sign-2.new.self) (sym c.kind_of.ensures)

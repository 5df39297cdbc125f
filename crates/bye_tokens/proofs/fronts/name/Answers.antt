use Rattle.std.proofs.Common.{sym, ◌∙◌}
use Rattle.bye_tokens.proofs.Ending.{name_ends_at, name_is_at}
use Rattle.bye_tokens.proofs.fronts.name.Goals as goal

pub before-requires : goal.before-requires
before-requires c =
    name_ends_at c.args.rest.now c.next.new.self c.after_name_parts-after.result c.in-Some.c (sym c.rest.ensures ∙ sym c.new-later.ensures ∙ c.in-Some.ensures) c.after_name_parts-after.ensures

pub new-requires : goal.new-requires
new-requires c =
    name_is_at c.args.rest.now c.next.new.self c.after_name_parts-after.result c.in_ok-text.text c.in-Some.c (sym c.rest.ensures ∙ sym c.new-later.ensures ∙ c.in-Some.ensures)
    c.after_name_parts-after.ensures (sym c.is_name_start.ensures ∙ c.if-is_name_start.true) (c.in_ok-text.ensures ∙ c.before-then-is_name_start.ensures)

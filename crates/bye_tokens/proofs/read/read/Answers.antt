use Rattle.std.proofs.Common.{false, ◌-◌, sym, ◌∙◌, ap}
use Rattle.bye_tokens.specs.Splitting as spec
use Rattle.bye_tokens.proofs.ReadingOn.{next_found, next_bad}
use Rattle.bye_tokens.proofs.read.read.Goals as goal

pub returns-in-Ok-Some : goal.returns-in-Ok-Some
returns-in-Ok-Some c =
    next_found c.args.total c.saturating_sub-place.result c.args.rest.now c.skip-text.result c.next.new.self c.in-Some.c c.in-Ok-Some.field-0 _ c.in-Ok-Some.token c.in-Ok-Some.after
    (c.skip-text.ensures ∙ ap (spec.skip false) (c.new.ensures ∙ c.rest.ensures))
    (sym c.rest-2.ensures ∙ sym c.new-later.ensures ∙ c.in-Some.ensures)
    (c.saturating_sub-place.ensures ∙ ap (λ n. c.args.total - n) c.len.ensures)
    c.in-Ok-Some.ensures c.in-Ok-Some.field-0-is c.in-Ok-Some.token-is c.in-Ok-Some.after-is

pub returns-in-Ok-None : goal.returns-in-Ok-None
returns-in-Ok-None c =
    next_bad c.args.total c.saturating_sub-place.result c.args.rest.now c.skip-text.result c.next.new.self c.in-Some.c c.in-Ok-None.field-0
    (c.skip-text.ensures ∙ ap (spec.skip false) (c.new.ensures ∙ c.rest.ensures))
    (sym c.rest-2.ensures ∙ sym c.new-later.ensures ∙ c.in-Some.ensures)
    (c.saturating_sub-place.ensures ∙ ap (λ n. c.args.total - n) c.len.ensures)
    c.in-Ok-None.ensures c.in-Ok-None.field-0-is

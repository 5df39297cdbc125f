use Rattle.std.proofs.Common.{◌++◌, sym, ◌∙◌, ap, arith}
use Rattle.std.specs.Str.{chars}
use Rattle.bye_tokens.specs.Ends.{EndsIn}
use Rattle.bye_tokens.specs.Reading as reading
use Rattle.bye_tokens.proofs.Cuts.{byte_cut}
use Rattle.bye_tokens.proofs.front.before.Goals as goal

pub overflow_sub-whole : goal.overflow_sub-whole
overflow_sub-whole c =
    let ends : EndsIn (chars c.rest-whole.result.now) (chars c.rest-last.result.now) = record { front = c.requires.front; parts = c.rest-whole.ensures ∙ c.requires.parts ∙ ap (λ t. c.requires.front ++ t) (sym c.rest-last.ensures) } in
    let k = byte_cut _ _ c.rest-whole.utf8 c.rest-last.utf8 ends in
    omega (arith, k.within)

pub split_at-requires : goal.split_at-requires
split_at-requires c =
    let ends : EndsIn (chars c.rest-whole.result.now) (chars c.rest-last.result.now) = record { front = c.requires.front; parts = c.rest-whole.ensures ∙ c.requires.parts ∙ ap (λ t. c.requires.front ++ t) (sym c.rest-last.ensures) } in
    (byte_cut _ _ c.rest-whole.utf8 c.rest-last.utf8 ends).border

pub returns : goal.returns
returns c =
    let ends : EndsIn (chars c.rest-whole.result.now) (chars c.rest-last.result.now) = record { front = c.requires.front; parts = c.rest-whole.ensures ∙ c.requires.parts ∙ ap (λ t. c.requires.front ++ t) (sym c.rest-last.ensures) } in
    ap chars c.split_at.ensures.front ∙ (byte_cut _ _ c.rest-whole.utf8 c.rest-last.utf8 ends).value ∙ (λ i. reading.before (c.rest-whole.ensures i) (c.rest-last.ensures i))

use Rattle.std.proofs.Common.{length, ◌∙◌, ap}
use Rattle.bye_tokens.specs.Fronts.{tokens_of}
use Rattle.bye_tokens.specs.Left.{with_next}
use Rattle.bye_tokens.proofs.ReadingOn.{are_tokens, only_tokens}
use Rattle.bye_tokens.proofs.tokens.Tokens.new.Goals as goal

pub returns-in-Ok-clause-tokens : goal.returns-in-Ok-clause-tokens
returns-in-Ok-clause-tokens c =
    are_tokens c.args.text.now _ c.utf8.text
    ((λ i. with_next (c.in-Ok.next-is i) (tokens_of (length c.args.text.now) (c.in-Ok.rest-is i))) ∙ c.in-Ok.ensures ∙ ap (tokens_of (length c.args.text.now)) c.new.ensures)

pub returns-in-Ok-clause-only : goal.returns-in-Ok-clause-only
returns-in-Ok-clause-only c = λ other.
    only_tokens c.args.text.now _ other c.utf8.text
    ((λ i. with_next (c.in-Ok.next-is i) (tokens_of (length c.args.text.now) (c.in-Ok.rest-is i))) ∙ c.in-Ok.ensures ∙ ap (tokens_of (length c.args.text.now)) c.new.ensures)

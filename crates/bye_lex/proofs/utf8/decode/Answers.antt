use Rattle.std.proofs.Common.{refl, subst, sym, ◌∙◌, ap, drop}
use Rattle.bye_lex.specs.Utf8.{NoCharacter}
use Rattle.bye_lex.proofs.Beginnings.{begins_empty, empty_none, valid_none, left_begins}
use Rattle.bye_lex.proofs.utf8.decode.Goals as goal

pub returns-in-Ok-clause-whole : goal.returns-in-Ok-clause-whole
returns-in-Ok-clause-whole c = empty_none

pub returns-in-Ok-clause-begins : goal.returns-in-Ok-clause-begins
returns-in-Ok-clause-begins c = (λ _. begins_empty, λ _. refl)

pub returns-in-Ok-from_utf8-clause-whole : goal.returns-in-Ok-from_utf8-clause-whole
returns-in-Ok-from_utf8-clause-whole c =
    subst NoCharacter (sym (c.split_at.ensures.back ∙ ap (λ n. drop n c.args.bytes.now) c.valid_up_to.ensures))
    (valid_none c.args.bytes.now c.in-Err.error.valid_up_to c.in-Err.ensures.cases.1)

pub returns-in-Ok-from_utf8-clause-begins : goal.returns-in-Ok-from_utf8-clause-begins
returns-in-Ok-from_utf8-clause-begins c =
    left_begins c.args.bytes.now c.split_at.result.1.now c.in-Err.error.valid_up_to c.error_len.result c.is_none.result c.in-Err.ensures.cases.1
    (c.split_at.ensures.back ∙ ap (λ n. drop n c.args.bytes.now) c.valid_up_to.ensures) (c.error_len.ensures ∙ c.in-Err.ensures.fault) c.is_none.ensures

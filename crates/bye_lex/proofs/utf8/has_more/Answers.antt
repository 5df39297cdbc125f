use Rattle.std.proofs.Common.{Some, ◌∙◌}
use Rattle.std.proofs.lemmas.Bool.Decides.{Decides-eqb}
use Rattle.std.proofs.lemmas.Slice.Eq.{strip_prefix_is}
use Rattle.bye_lex.proofs.LabelParts.{more_is}
use Rattle.bye_lex.proofs.utf8.has_more.Goals as goal

pub returns-in-Some : goal.returns-in-Some
returns-in-Some c =
    more_is c.args.c c.args.bytes.now c.in-Some.rest.now c.as_bytes.result.now c.is_empty.result (c.as_bytes.ensures.value ∙ c.encode_utf8.ensures.value)
    (strip_prefix_is Decides-eqb c.as_bytes.result.now c.args.bytes.now (Some c.in-Some.rest) c.in-Some.ensures.cases) c.is_empty.ensures

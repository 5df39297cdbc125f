use Rattle.std.proofs.Common.{◌∙◌}
use Rattle.bye_tokens.proofs.Ending.{iri_ends_at}
use Rattle.bye_tokens.proofs.fronts.iri.Goals as goal

pub before-value-requires : goal.before-value-requires
before-value-requires c = iri_ends_at c.take.new.self c.new.result c.after_iri_chars-after.result (c.new.ensures ∙ c.rest-2.ensures) c.after_iri_chars-after.ensures

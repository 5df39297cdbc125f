use Rattle.std.proofs.Common.{refl, sym, ◌∙◌}
use Rattle.bye_terms.proofs.Texts.{tested}
use Rattle.bye_terms.specs.Names.{is_iri}
use Rattle.bye_terms.proofs.iri.Iri.from_text.Goals as goal

pub invariant_of-result : goal.invariant_of-result
invariant_of-result c = sym (tested is_iri _ _ _ c.as_str.ensures.text c.as_str.ensures.scalars c.is_iri.ensures) ∙ c.if-is_iri.true

pub returns-then-is_iri-clause-some : goal.returns-then-is_iri-clause-some
returns-then-is_iri-clause-some c = (refl, sym (tested is_iri _ _ _ c.as_str.ensures.text c.as_str.ensures.scalars c.is_iri.ensures) ∙ c.if-is_iri.true)

pub returns-else-is_iri-clause-none : goal.returns-else-is_iri-clause-none
returns-else-is_iri-clause-none c = sym (tested is_iri _ _ _ c.as_str.ensures.text c.as_str.ensures.scalars c.is_iri.ensures) ∙ c.if-is_iri.false

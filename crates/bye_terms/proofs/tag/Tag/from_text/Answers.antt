use Rattle.std.proofs.Common.{refl, sym, ◌∙◌}
use Rattle.bye_terms.proofs.Texts.{tested}
use Rattle.bye_terms.specs.Names.{is_tag}
use Rattle.bye_terms.proofs.tag.Tag.from_text.Goals as goal

pub invariant_of-result : goal.invariant_of-result
invariant_of-result c = sym (tested is_tag _ _ _ c.as_str.ensures.text c.as_str.ensures.scalars c.is_tag.ensures) ∙ c.if-is_tag.true

pub returns-then-is_tag-clause-some : goal.returns-then-is_tag-clause-some
returns-then-is_tag-clause-some c = (refl, sym (tested is_tag _ _ _ c.as_str.ensures.text c.as_str.ensures.scalars c.is_tag.ensures) ∙ c.if-is_tag.true)

pub returns-else-is_tag-clause-none : goal.returns-else-is_tag-clause-none
returns-else-is_tag-clause-none c = sym (tested is_tag _ _ _ c.as_str.ensures.text c.as_str.ensures.scalars c.is_tag.ensures) ∙ c.if-is_tag.false

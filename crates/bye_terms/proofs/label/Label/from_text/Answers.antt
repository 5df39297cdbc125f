use Rattle.std.proofs.Common.{refl, sym, ◌∙◌}
use Rattle.bye_terms.proofs.Texts.{tested}
use Rattle.bye_terms.specs.Names.{is_label}
use Rattle.bye_terms.proofs.label.Label.from_text.Goals as goal

pub invariant_of-result : goal.invariant_of-result
invariant_of-result c = sym (tested is_label _ _ _ c.as_str.ensures.text c.as_str.ensures.scalars c.is_label.ensures) ∙ c.if-is_label.true

pub returns-then-is_label-clause-some : goal.returns-then-is_label-clause-some
returns-then-is_label-clause-some c = (refl, sym (tested is_label _ _ _ c.as_str.ensures.text c.as_str.ensures.scalars c.is_label.ensures) ∙ c.if-is_label.true)

pub returns-else-is_label-clause-none : goal.returns-else-is_label-clause-none
returns-else-is_label-clause-none c = sym (tested is_label _ _ _ c.as_str.ensures.text c.as_str.ensures.scalars c.is_label.ensures) ∙ c.if-is_label.false

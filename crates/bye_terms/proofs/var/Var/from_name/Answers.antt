use Rattle.std.proofs.Common.{refl, sym, ◌∙◌}
use Rattle.bye_terms.proofs.Texts.{tested}
use Rattle.bye_terms.specs.Names.{is_name}
use Rattle.bye_terms.proofs.var.Var.from_name.Goals as goal

pub invariant_of-result : goal.invariant_of-result
invariant_of-result c = sym (tested is_name _ _ _ c.as_str.ensures.text c.as_str.ensures.scalars c.is_name.ensures) ∙ c.if-is_name.true

pub returns-then-is_name-clause-some : goal.returns-then-is_name-clause-some
returns-then-is_name-clause-some c = (refl, sym (tested is_name _ _ _ c.as_str.ensures.text c.as_str.ensures.scalars c.is_name.ensures) ∙ c.if-is_name.true)

pub returns-else-is_name-clause-none : goal.returns-else-is_name-clause-none
returns-else-is_name-clause-none c = sym (tested is_name _ _ _ c.as_str.ensures.text c.as_str.ensures.scalars c.is_name.ensures) ∙ c.if-is_name.false

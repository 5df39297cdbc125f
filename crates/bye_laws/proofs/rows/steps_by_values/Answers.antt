use Rattle.std.proofs.Common.{sym, subst}
use Rattle.bye_laws.specs.Descending.{IsStep}
use Rattle.bye_laws.proofs.Values.{step_values, values_step}
use Rattle.bye_laws.proofs.rows.steps_by_values.Goals as goal

pub returns : goal.returns
returns c g m t z = (step_values g m t z, λ h. subst (λ z. IsStep g m t z) (sym h.2) (values_step g m t h.0 h.1))

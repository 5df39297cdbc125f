use Rattle.bye_laws.proofs.Values.{none_open, open_none}
use Rattle.bye_laws.proofs.rows.no_values_by_rows.Goals as goal

pub returns : goal.returns
returns c g m t = (none_open g m t, open_none g m t)

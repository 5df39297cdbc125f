use Rattle.bye_laws.proofs.ReachedNodes.{row_reaches, reaches_row}
use Rattle.bye_laws.proofs.rows.rows_by_reaching.Goals as goal

pub returns : goal.returns
returns c g q m designed = (row_reaches g q m designed, λ h. reaches_row g q m designed h.0 h.1)

use Rattle.bye_laws.proofs.Descending.{descends_row, row_descends}
use Rattle.bye_laws.proofs.rows.rows_by_descending.Goals as goal

pub returns : goal.returns
returns c g q m designed = (row_descends g q m designed, descends_row g q m designed)

use Rattle.bye_laws.proofs.Restricting.{agrees_restricted, answer_agrees, answer_row, row_answer}
use Rattle.bye_laws.proofs.rows.answers_are_restricted_rows.Goals as goal

pub returns : goal.returns
returns c = record {
  agrees = λ g q m. (answer_agrees g q m, λ h. (h.1.0, h.1.1, agrees_restricted q.vars m h.1.0 h.0 h.1.2));
  whole = λ g q m all. (answer_row g q m all, row_answer g q m all);
}

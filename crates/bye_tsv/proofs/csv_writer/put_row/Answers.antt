use Rattle.std.proofs.Common.{ℕ, List, OnOk, map, ◌∙◌, ap, subst}
use Rattle.bye_table.specs.Cells.{found}
use Rattle.bye_tsv.specs.Records.{Adds, field_bytes, record_text}
use Rattle.bye_tsv.proofs.csv_writer.put_row.Goals as goal

pub returns : goal.returns
returns c =
    let Put : List (List ℕ) → Type 0 = λ fields. OnOk c.put.result (Adds c.args.writer.now c.put.new.writer (record_text fields)) in
    let fields = c.in_ok-fill.ensures ∙ ap (λ cells. map field_bytes (found cells)) c.as_slice.ensures.value ∙ ap (map field_bytes) c.in_ok-cells.ensures.are in
    subst Put fields c.put.ensures

use Rattle.std.proofs.Common.{ℕ, List, OnOk, subst}
use Rattle.bye_tsv.specs.Records.{Adds, record_text}
use Rattle.bye_tsv.proofs.csv_writer.put_header.Goals as goal

pub returns : goal.returns
returns c =
    let Put : List (List ℕ) → Type 0 = λ fields. OnOk c.put.result (Adds c.args.writer.now c.put.new.writer (record_text fields)) in
    subst Put c.in_ok-fill_names.ensures c.put.ensures

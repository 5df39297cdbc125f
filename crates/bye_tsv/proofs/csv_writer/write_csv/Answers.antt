use Rattle.std.proofs.Common.{◌++◌, map, ◌∙◌}
use Rattle.std.specs.List.{flat_map}
use Rattle.std.specs.Str.{encode_utf8_all}
use Rattle.std.proofs.lemmas.Result.{IfOk-weaker}
use Rattle.bye_tsv.specs.Records.{record_bytes, record_text}
use Rattle.bye_tsv.proofs.CsvText.{csv_encoded}
use Rattle.bye_tsv.proofs.csv_writer.write_csv.Goals as goal

pub returns : goal.returns
returns c =
    let header = c.in_ok-put_header.ensures _ c.new_writer-writer.ensures in
    let whole = c.in_ok-put_rows.ensures _ header in
    IfOk-weaker c.finish.result _ _
    (λ v is. is _ whole
    ∙ (λ i. record_text (map encode_utf8_all (c.vars.ensures.vars i)) ++ flat_map (record_bytes (c.vars-2.ensures.vars i)) (c.rows.ensures.rows i))
    ∙ csv_encoded c.args.table.now)
    c.finish.ensures

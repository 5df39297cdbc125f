use Rattle.bye_tsv.specs.Records.{record_bytes}
use Rattle.bye_tsv.proofs.Added.{adds_all, adds_next}
use Rattle.bye_tsv.proofs.csv_writer.put_rows.Goals as goal

pub loop-row-preserved : goal.loop-row-preserved
loop-row-preserved c =
    adds_next (record_bytes c.args.variables.now) c.args.rows.now c.loop-row.row-index c.row-item.result c.args.writer.now c.loop-row.writer c.put_row.new.writer c.loop-row-test.true c.row-item.is
    c.loop-row.invariant c.in_ok-put_row.ensures

pub returns : goal.returns
returns c = adds_all (record_bytes c.args.variables.now) c.args.rows.now c.loop-row.row-index c.args.writer.now c.loop-row.writer c.loop-row-test.false c.loop-row.invariant

use Rattle.std.proofs.Common.{Some, map, sym, ap, ◌∙◌, subst}
use Rattle.serde_json.specs.View.{view}
use Rattle.bye_json.specs.PartFaults.{IsRowsFault}
use Rattle.bye_json.specs.Documents.{row_of}
use Rattle.bye_json.specs.Trees.{collect}
use Rattle.bye_json.proofs.Cells.{is_some_of}
use Rattle.bye_json.proofs.Faults.{rows_fault}
use Rattle.bye_json.proofs.Steps.{collect_more, one_more_of}
use Rattle.bye_json.proofs.rows.read_rows.Goals as goal

pub returns-in-Err-clause-err : goal.returns-in-Err-clause-err
returns-in-Err-clause-err c =
    subst (IsRowsFault c.args.vars.now (map view c.args.bindings.now)) (sym c.in_row.ensures)
    (rows_fault c.args.vars.now c.args.bindings.now c.loop-i.i c.index-bindings-i.result c.in-Err.fault c.loop-i-test.true c.index-bindings-i.is (is_some_of _ _ c.loop-i.invariant) c.in-Err.ensures.err)

pub loop-i-preserved : goal.loop-i-preserved
loop-i-preserved c =
    ap (collect (row_of c.args.vars.now)) (one_more_of view c.args.bindings.now c.loop-i.i c.index-bindings-i.result c.loop-i-test.true c.index-bindings-i.is)
    ∙ collect_more (row_of c.args.vars.now) _ (view c.index-bindings-i.result) _ c.in-Ok.row c.loop-i.invariant c.in-Ok.ensures.ok
    ∙ ap (λ rows. Some rows) (sym c.in_ok-push_item-in-Ok.ensures.ok)

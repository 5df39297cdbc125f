use Rattle.std.proofs.Common.{◌≡◌, length, map, Some, ap, sym, subst, arith}
use Rattle.std.proofs.lemmas.List.{length-map}
use Rattle.serde_json.specs.View.{view}
use Rattle.bye_json.specs.Answers.{IsResults}
use Rattle.bye_json.specs.PartFaults.{IsRowsFault}
use Rattle.bye_json.specs.Documents.{name_of, row_of}
use Rattle.bye_json.specs.Trees.{collect}
use Rattle.bye_json.proofs.Answering.{handed, is_results, is_table, many_rows, many_vars, names_are, rows_fault, vars_fault}
use Rattle.bye_json.proofs.Steps.{collected_length}
use Rattle.bye_json.proofs.reader.read_json.Goals as goal

pub returns-then-lists-vars : goal.returns-then-lists-vars
returns-then-lists-vars c =
    many_vars c.args.bytes.now (view c.in_ok-tree.tree) _ c.args.vars (record { json = c.in_ok-tree.ensures.ok; has = sym c.in-Some.ensures }) (omega (arith, length-map c.in-Some.lists.vars.now view))

pub returns-in_err-names : goal.returns-in_err-names
returns-in_err-names c =
    handed c.args.bytes.now c.args.vars c.args.rows _ c.in_err-names.field-0.0 c.from_residual-in_err-names.ensures.1
    (vars_fault c.args.bytes.now (view c.in_ok-tree.tree) _ c.args.vars c.args.rows c.in_err-names.field-0.0 (record { json = c.in_ok-tree.ensures.ok; has = sym c.in-Some.ensures })
    (omega (arith, length-map c.in-Some.lists.vars.now view)) c.in_err-names.ensures.err)

pub returns-then-lists-rows : goal.returns-then-lists-rows
returns-then-lists-rows c =
    many_rows c.args.bytes.now _ c.args.vars c.args.rows c.in_ok-names.names.items
    (names_are c.args.bytes.now (view c.in_ok-tree.tree) _ c.args.vars c.in_ok-names.names.items (record { json = c.in_ok-tree.ensures.ok; has = sym c.in-Some.ensures })
    (omega (arith, length-map c.in-Some.lists.vars.now view)) c.in_ok-names.ensures.ok)
    (omega (arith, length-map c.in-Some.lists.bindings.now view))

pub read_rows-requires-clause-count : goal.read_rows-requires-clause-count
read_rows-requires-clause-count c =
    let names = collected_length name_of (map view c.in-Some.lists.vars.now) c.in_ok-names.names.items c.in_ok-names.ensures.ok.0 in
    omega (arith, length-map c.in-Some.lists.vars.now view, names, ap length c.as_slice.ensures.value)

pub returns-in_err-table_rows : goal.returns-in_err-table_rows
returns-in_err-table_rows c =
    handed c.args.bytes.now c.args.vars c.args.rows _ c.in_err-table_rows.field-0.0 c.from_residual-in_err-table_rows.ensures.1
    (rows_fault c.args.bytes.now _ c.args.vars c.args.rows c.in_ok-names.names.items c.in_err-table_rows.field-0.0
    (names_are c.args.bytes.now (view c.in_ok-tree.tree) _ c.args.vars c.in_ok-names.names.items (record { json = c.in_ok-tree.ensures.ok; has = sym c.in-Some.ensures })
    (omega (arith, length-map c.in-Some.lists.vars.now view)) c.in_ok-names.ensures.ok)
    (omega (arith, length-map c.in-Some.lists.bindings.now view))
    (subst (λ vars. IsRowsFault vars (map view c.in-Some.lists.bindings.now) c.in_err-table_rows.field-0.0) c.as_slice.ensures.value c.in_err-table_rows.ensures.err))

pub of_rows-requires : goal.of_rows-requires
of_rows-requires c =
    is_table (record { vars = map view c.in-Some.lists.vars.now; bindings = map view c.in-Some.lists.bindings.now }) _ c.in_ok-names.ensures.ok
    (subst (λ vars. collect (row_of vars) (map view c.in-Some.lists.bindings.now) ≡ Some c.in_ok-table_rows.table_rows.items) c.as_slice.ensures.value c.in_ok-table_rows.ensures.ok)

pub returns : goal.returns
returns c =
    subst (IsResults c.args.bytes.now c.args.vars c.args.rows) (sym c.of_rows.ensures)
    (is_results c.args.bytes.now (view c.in_ok-tree.tree) _ c.args.vars c.args.rows (record { vars = c.in_ok-names.names.items; rows = c.in_ok-table_rows.table_rows.items })
    (record { json = c.in_ok-tree.ensures.ok; has = sym c.in-Some.ensures }) (omega (arith, length-map c.in-Some.lists.vars.now view)) (omega (arith, length-map c.in-Some.lists.bindings.now view))
    c.in_ok-names.ensures.ok
    (subst (λ vars. collect (row_of vars) (map view c.in-Some.lists.bindings.now) ≡ Some c.in_ok-table_rows.table_rows.items) c.as_slice.ensures.value c.in_ok-table_rows.ensures.ok))

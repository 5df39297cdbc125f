use Rattle.bye_member.proofs.Listed.{is_table, mappings_told, rows_told}
use Rattle.bye_member.proofs.listing.table_of.Goals as goal

pub of_rows-requires : goal.of_rows-requires
of_rows-requires c =
    is_table c.args.vars.now c.in_ok-vars.vars.items c.args.graph.now.terms c.args.lines.now.rows c.in_ok-rows.rows.items c.requires c.in_ok-vars.ensures
    (rows_told c.args.vars.now c.in_ok-vars.vars.items c.as_slice.result.now c.args.graph.now.terms c.rows.result.now c.args.lines.now.rows c.in_ok-rows.rows.items
    c.in_ok-vars.ensures c.as_slice.ensures.value c.rows.ensures.rows c.in_ok-rows.ensures)

pub returns-clause-mappings : goal.returns-clause-mappings
returns-clause-mappings c =
    mappings_told c.of_rows.result c.args.vars.now c.in_ok-vars.vars.items c.args.graph.now.terms c.args.lines.now.rows c.in_ok-rows.rows.items c.of_rows.ensures
    (rows_told c.args.vars.now c.in_ok-vars.vars.items c.as_slice.result.now c.args.graph.now.terms c.rows.result.now c.args.lines.now.rows c.in_ok-rows.rows.items
    c.in_ok-vars.ensures c.as_slice.ensures.value c.rows.ensures.rows c.in_ok-rows.ensures)

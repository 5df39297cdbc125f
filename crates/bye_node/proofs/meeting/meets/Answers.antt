use Rattle.bye_table.specs.Mappings.{row_mapping}
use Rattle.bye_node.proofs.Holding.{has_at, meets_by}
use Rattle.bye_node.proofs.meeting.meets.Goals as goal

pub returns-clause-meets : goal.returns-clause-meets
returns-clause-meets g c =
    meets_by c.args.graph.now (row_mapping c.args.row.now) c.args.pattern.now c.in-Some.s c.in-Some-number_of.p c.in-Some-number_of-2.o c.has.result c.terms-count.ensures.numbered
    (has_at c.args.graph.now (row_mapping c.args.row.now) c.s.result.now c.args.pattern.now.s _ c.in-Some.s c.slot_term.ensures c.s.ensures.value c.in-Some.ensures)
    (has_at c.args.graph.now (row_mapping c.args.row.now) c.p.result.now c.args.pattern.now.p _ c.in-Some-number_of.p c.slot_term-2.ensures c.p.ensures.value c.in-Some-number_of.ensures)
    (has_at c.args.graph.now (row_mapping c.args.row.now) c.o.result.now c.args.pattern.now.o _ c.in-Some-number_of-2.o c.slot_term-3.ensures c.o.ensures c.in-Some-number_of-2.ensures) c.has.ensures.found

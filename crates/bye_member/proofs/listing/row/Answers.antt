use Rattle.std.proofs.Common.{sym, subst}
use Rattle.bye_table.specs.Mappings.{NoRepeat}
use Rattle.bye_member.proofs.Listed.{row_more, row_once, row_whole}
use Rattle.bye_member.proofs.listing.row.Goals as goal

pub loop-place-preserved : goal.loop-place-preserved
loop-place-preserved c =
    row_more c.args.vars.now c.args.graph.now.terms c.args.cells.now c.loop-place.place c.index-vars-place.result _ c.loop-place.pairs.items _ c.requires c.loop-place-test.true c.index-vars-place.is
    c.term_at.ensures c.loop-place.invariant c.in_ok-push_bound.ensures

pub of_pairs-requires : goal.of_pairs-requires
of_pairs-requires c =
    subst NoRepeat (sym (row_whole c.args.vars.now c.args.graph.now.terms c.args.cells.now c.loop-place.place c.loop-place.pairs.items c.loop-place-test.false c.loop-place.invariant))
    (row_once c.args.vars.now c.args.graph.now.terms c.args.cells.now c.requires)

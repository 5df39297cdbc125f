use Rattle.std.proofs.Common.{refl}
use Rattle.bye_strongest.proofs.Around.{distinct_more}
use Rattle.bye_strongest.proofs.candidates.distinct.Goals as goal

pub loop-cell-preserved : goal.loop-cell-preserved
loop-cell-preserved c =
    distinct_more c.as_slice-cell-items.result.now c.loop-cell.cell-index _ c.loop-cell.out.items c.push_new.new.out.items c.loop-cell-test.true refl c.loop-cell.invariant c.in_ok-push_new.ensures

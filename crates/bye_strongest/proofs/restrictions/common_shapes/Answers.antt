use Rattle.std.proofs.Common.{◌∙◌, ap}
use Rattle.bye_strongest.specs.Numbers.{MeetsEach}
use Rattle.bye_strongest.proofs.Restricting.{group_met, kept_less, kept_more}
use Rattle.bye_strongest.proofs.restrictions.common_shapes.Goals as goal
use Rattle.bye_strongest.proofs.restrictions.common_shapes.Goals.{then-meets_all+in_ok-push_item, else-meets_all}

pub loop-shape-preserved : goal.loop-shape-preserved
loop-shape-preserved g c =
    let met = group_met c.args.graph.now.keys c.args.rows.now _ c.columns_of.result c.in_ok-group-2.group c.as_slice.result.now c.meets_all.result c.columns_of.ensures c.in_ok-group-2.ensures c.as_slice.ensures.value c.meets_all.ensures in
    record {
      group = c.in_ok-group-2.ensures.all;
      kept = elim c.if-meets_all.branch [
        | then-meets_all+in_ok-push_item w ↦ kept_more (MeetsEach c.args.graph.now.keys c.args.rows.now) c.as_slice-shape-items.result.now c.loop-shape.shape-index _ c.loop-shape.out.items c.if-meets_all.out.items c.meets_all.result c.loop-shape-test.true c.loop-shape.invariant.kept met w.if-meets_all.true
            (ap (λ v. v.items) w.out-is ∙ w.in_ok-push_item.ensures.ok)
        | else-meets_all w ↦ kept_less (MeetsEach c.args.graph.now.keys c.args.rows.now) c.as_slice-shape-items.result.now c.loop-shape.shape-index _ c.loop-shape.out.items c.if-meets_all.out.items c.meets_all.result c.loop-shape-test.true c.loop-shape.invariant.kept met w.if-meets_all.false
            (ap (λ v. v.items) w.out-is)
      ];
    }

use Rattle.std.proofs.Common.{ap, subst, sym}
use Rattle.bye_terms.specs.Members.{In}
use Rattle.bye_strongest.proofs.Numbering.{item_in}
use Rattle.bye_strongest.proofs.fewest.fewest.Goals as goal
use Rattle.bye_strongest.proofs.fewest.fewest.Goals.{then-count-least, else-count-least}

pub loop-row-preserved : goal.loop-row-preserved
loop-row-preserved g c =
    elim c.if-count-least.branch [
      | then-count-least w ↦ subst (In c.args.rows.now) (sym (ap (λ b. b.now) w.best-is)) (item_in c.args.rows.now c.loop-row.row-index c.row-item.result c.loop-row-test.true c.row-item.is)
      | else-count-least w ↦ subst (In c.args.rows.now) (sym (ap (λ b. b.now) w.best-is)) c.loop-row.invariant
    ]

use Rattle.bye_strongest.specs.Candidates.{IsAround}
use Rattle.bye_strongest.proofs.Around.{around_more}
use Rattle.bye_strongest.proofs.candidates.candidates.Goals as goal

pub loop-number-preserved : goal.loop-number-preserved
loop-number-preserved g c =
    around_more (IsAround c.args.graph.now c.args.row.now) c.loop-number.yielded c.in-Some.number c.loop-number.out.items c.push_around.new.out.items c.loop-number.invariant c.in_ok-push_around.ensures

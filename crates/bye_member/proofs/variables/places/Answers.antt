use Rattle.bye_member.proofs.Asking.{places_more}
use Rattle.bye_member.proofs.variables.places.Goals as goal

pub loop-var-preserved : goal.loop-var-preserved
loop-var-preserved c =
    places_more c.args.names.now c.args.vars.now c.loop-var.var-index c.loop-var.places.items c.push.new.self.items c.var-item.result c.place_of.result c.loop-var-test.true c.var-item.is c.loop-var.invariant
    c.place_of.ensures c.in_ok-push.ensures.items

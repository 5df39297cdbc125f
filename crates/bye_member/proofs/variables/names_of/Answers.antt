use Rattle.bye_member.proofs.Asking.{name_next}
use Rattle.bye_member.proofs.variables.names_of.Goals as goal

pub loop-var-preserved : goal.loop-var-preserved
loop-var-preserved c =
    name_next c.args.vars.now c.loop-var.var-index c.var-item.result c.loop-var.names c.insert.new.self c.requires c.loop-var-test.true c.var-item.is c.loop-var.invariant c.in_ok-insert.ensures

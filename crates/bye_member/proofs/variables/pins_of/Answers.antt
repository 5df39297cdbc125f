use Rattle.std.proofs.Common.{subst}
use Rattle.bye_table.specs.Mappings.{row_mapping}
use Rattle.bye_member.specs.Answers.{IsPinOf}
use Rattle.bye_member.proofs.Asking.{pins_more}
use Rattle.bye_member.proofs.variables.pins_of.Goals as goal

pub loop-name-preserved : goal.loop-name-preserved
loop-name-preserved c =
    pins_more c.args.graph.now.terms c.args.selected.now (row_mapping c.args.row.now) c.as_slice-name-items.result.now c.loop-name.name-index c.loop-name.pins.items c.push.new.self.items c.name-item.result
    c.in-Some.pin c.loop-name-test.true c.name-item.is c.loop-name.invariant
    (subst (λ v. IsPinOf c.args.graph.now.terms c.args.selected.now (row_mapping c.args.row.now) v c.in-Some.pin) c.var.ensures c.in-Some.ensures) c.in_ok-push-in-Some.ensures.items

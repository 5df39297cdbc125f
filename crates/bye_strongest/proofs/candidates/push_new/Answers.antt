use Rattle.bye_strongest.proofs.Around.{no_number, number_put, number_there}
use Rattle.bye_strongest.proofs.candidates.push_new.Goals as goal

pub returns-in_default : goal.returns-in_default
returns-in_default c = no_number c.args.out.now.items c.args.cell c.in_default.is

pub returns-then-is_listed : goal.returns-then-is_listed
returns-then-is_listed c = number_there c.args.out.now.items c.as_slice.result.now c.args.cell c.in-Some.number c.is_listed.result c.in-Some.is c.as_slice.ensures.value c.is_listed.ensures c.if-is_listed.true

pub returns : goal.returns
returns c = number_put c.args.out.now.items c.push_item.new.items.items c.args.cell c.in-Some.number c.in-Some.is c.in_ok-push_item.ensures.ok

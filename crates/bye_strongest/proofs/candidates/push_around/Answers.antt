use Rattle.bye_strongest.proofs.Around.{around}
use Rattle.bye_strongest.proofs.candidates.push_around.Goals as goal

pub returns : goal.returns
returns g c =
    around c.args.graph.now c.args.row.now c.args.number c.find-as_subject.result c.find-as_predicate.result c.find-as_object.result c.args.out.now.items c.push_found.new.out.items c.push_found-2.new.out.items c.push_found-3.new.out.items
    c.find-as_subject.ensures.matches c.find-as_predicate.ensures.matches c.find-as_object.ensures.matches c.in_ok-push_found.ensures c.in_ok-push_found-2.ensures c.in_ok-push_found-3.ensures

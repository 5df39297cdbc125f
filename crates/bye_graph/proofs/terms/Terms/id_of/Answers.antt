use Rattle.std.proofs.Common.{◌≡◌, refl, None, Some, slice_get, subst}
use Rattle.bye_terms.specs.Members.{In}
use Rattle.bye_graph.proofs.Numbers.{found_none, found_some}
use Rattle.bye_graph.proofs.terms.Terms.id_of.Goals as goal

pub returns-in-Some : goal.returns-in-Some
returns-in-Some c = subst (λ ts. slice_get ts c.in-Some.number ≡ Some c.args.term.now) c.self.view_is (found_some c.self.inside.set.keys c.args.term.now c.in-Some.number c.in-Some.ensures.index)

pub returns-in-None : goal.returns-in-None
returns-in-None c = subst (λ ts. In ts c.args.term.now → ⊥) c.self.view_is (found_none c.self.inside.set.keys c.args.term.now None refl c.in-None.ensures.found)

use Rattle.std.proofs.Common.{◌+◌, ◌<◌, length, sym, subst}
use Rattle.bye_graph.proofs.Numbers.{number_once, number_few, number_stands}
use Rattle.bye_graph.proofs.terms.Terms.number.Goals as goal

pub invariant_of-self-2 : goal.invariant_of-self-2
invariant_of-self-2 c = (
  number_once c.self.inside.set.keys _ c.args.term c.in_ok-number.ensures.keys c.self.invariant.0,
  number_few c.self.inside.set.keys _ c.args.term 4294967296 c.in_ok-number.ensures.keys (subst (λ ts. length ts + 1 < 4294967296) (sym c.self.view_is) c.requires),
)

pub returns-clause-number : goal.returns-clause-number
returns-clause-number c = number_stands c.insert_full.new.self.keys c.in_ok-number.number c.args.term c.in_ok-number.ensures.stored

pub returns-clause-once : goal.returns-clause-once
returns-clause-once c = number_once c.self.inside.set.keys _ c.args.term c.in_ok-number.ensures.keys c.self.invariant.0

use Rattle.std.proofs.Common.{◌<◌, length, subst, sym, arith}
use Rattle.bye_terms.specs.Members.{EachOnce}
use Rattle.bye_graph.proofs.Numbers.{once_front, few_front}
use Rattle.bye_graph.proofs.terms.Terms.truncate.Goals as goal

pub invariant_of-self : goal.invariant_of-self
invariant_of-self c =
    let few = few_front c.self.inside.set.keys c.args.count in
    let most : length c.self.inside.set.keys < 4294967296 = c.self.invariant.1 in (
      subst EachOnce (sym c.truncate.ensures.keys) (once_front c.self.inside.set.keys c.args.count c.self.invariant.0),
      subst (λ ts. length ts < 4294967296) (sym c.truncate.ensures.keys) (omega (arith, few, most)),
    )

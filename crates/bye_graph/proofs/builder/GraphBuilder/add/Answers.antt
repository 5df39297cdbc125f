use Rattle.std.proofs.Common.{◌∷◌, ◌++◌, [], ◌<◌, length, sym, ◌∙◌, ap, subst}
use Rattle.bye_graph.specs.Graphs.{most_triples}
use Rattle.bye_graph.proofs.Growing.{put_grows, put_statements}
use Rattle.bye_graph.proofs.builder.GraphBuilder.add.Goals as goal

pub invariant_of-self : goal.invariant_of-self
invariant_of-self c =
    put_grows c.self.inside.terms c.put.new.terms c.self.inside.entries.items c.put.new.entries.items c.args.triple c.self.invariant c.put.ensures.grew c.in-Ok.ensures.ok
    (subst (λ fs. length fs < most_triples) (sym c.self.view_is) c.requires)

pub returns-in-Ok-clause-ok : goal.returns-in-Ok-clause-ok
returns-in-Ok-clause-ok c =
    put_statements c.self.inside.terms c.put.new.terms c.self.inside.entries.items c.put.new.entries.items c.args.triple c.self.invariant c.put.ensures.grew c.in-Ok.ensures.ok
    ∙ ap (λ fs. fs ++ c.args.triple ∷ []) c.self.view_is

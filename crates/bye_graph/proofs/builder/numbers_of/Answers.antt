use Rattle.bye_graph.proofs.Numbers.{three_kept}
use Rattle.bye_graph.proofs.builder.numbers_of.Goals as goal

pub returns-clause-kept : goal.returns-clause-kept
returns-clause-kept c =
    three_kept _ _ _ _ _ _ _ c.args.s c.args.p c.args.o c.in_ok-s.ensures.number c.in_ok-s.ensures.grows c.in_ok-p.ensures.number c.in_ok-p.ensures.grows c.in_ok-o.ensures.number c.in_ok-o.ensures.grows c.in_ok-o.ensures.once

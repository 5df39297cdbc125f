use Rattle.std.proofs.Common.{ap}
use Rattle.bye_ntriples.proofs.KeyOrder.{ended}
use Rattle.bye_ntriples.proofs.keys.beyond.Goals as goal

pub returns-in-empty-clause-number : goal.returns-in-empty-clause-number
returns-in-empty-clause-number c = ap (λ p. p.number) (ended c.args.front.now c.loop-p.p-index c.loop-p.rest.now _ c.loop-p-test.true c.in-empty.len_below c.loop-p.invariant)

pub returns-in-empty-clause-rest : goal.returns-in-empty-clause-rest
returns-in-empty-clause-rest c = ap (λ p. p.rest) (ended c.args.front.now c.loop-p.p-index c.loop-p.rest.now _ c.loop-p-test.true c.in-empty.len_below c.loop-p.invariant)

use Rattle.bye_ntriples.proofs.Spelled.{statement}
use Rattle.bye_ntriples.proofs.writer.push_line.Goals as goal

pub returns-clause-valid : goal.returns-clause-valid
returns-clause-valid c = statement c.args.triple.now c.s.ensures.valid c.p.ensures.valid c.o.ensures.valid (c.s.ensures.subject, c.p.ensures.predicate)

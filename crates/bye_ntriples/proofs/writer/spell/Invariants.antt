use Rattle.std.proofs.Common.{take}
use Rattle.bye_ntriples.specs.Writing.{AreSpelled}
use Rattle.bye_ntriples.proofs.writer.spell.Given as goal

abbrev pub invariant-loop-triple : goal.invariant-loop-triple
invariant-loop-triple l = AreSpelled (take l.triple-index l.triples) l.spelled.text.items l.spelled.lengths.items

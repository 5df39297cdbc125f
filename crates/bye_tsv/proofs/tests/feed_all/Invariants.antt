use Rattle.std.proofs.Common.{length}
use Rattle.bye_tsv.specs.Feeding.{HasRoom}
use Rattle.bye_tsv.proofs.tests.feed_all.Given as goal

abbrev pub invariant-loop-rest : goal.invariant-loop-rest
invariant-loop-rest l = HasRoom l.reader.state (length l.rest)

abbrev pub decreases-loop-rest : goal.decreases-loop-rest
decreases-loop-rest l = length l.rest

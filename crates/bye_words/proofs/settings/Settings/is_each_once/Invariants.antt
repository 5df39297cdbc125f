use Rattle.std.proofs.Common.{length}
use Rattle.bye_words.proofs.Loops.{Repeats}
use Rattle.bye_words.proofs.settings.Settings.is_each_once.Given as goal

abbrev pub invariant-loop-name : goal.invariant-loop-name
invariant-loop-name l = Repeats l.fn.self l.rest

abbrev pub decreases-loop-name : goal.decreases-loop-name
decreases-loop-name l = length l.rest

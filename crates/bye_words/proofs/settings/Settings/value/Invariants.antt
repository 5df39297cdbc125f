use Rattle.std.proofs.Common.{length}
use Rattle.std.specs.Str.{chars}
use Rattle.bye_words.proofs.Loops.{Seeks}
use Rattle.bye_words.proofs.settings.Settings.value.Given as goal

abbrev pub invariant-loop-known : goal.invariant-loop-known
invariant-loop-known l = Seeks (chars l.fn.name) l.fn.self l.rest

abbrev pub decreases-loop-known : goal.decreases-loop-known
decreases-loop-known l = length l.rest

use Rattle.std.proofs.Common.{◌≡◌, length}
use Rattle.bye_ntriples.specs.PlainLines.{after_spaces}
use Rattle.bye_ntriples.proofs.plain.skip_spaces.Given as goal

abbrev pub invariant-loop-c : goal.invariant-loop-c
invariant-loop-c l = after_spaces l.rest ≡ after_spaces l.initial.rest

abbrev pub decreases-loop-c : goal.decreases-loop-c
decreases-loop-c l = length l.rest

use Rattle.std.proofs.Common.{◌≡◌, length}
use Rattle.bye_tokens.specs.Splitting as spec
use Rattle.bye_tokens.proofs.run.skip.Given as goal

abbrev pub invariant-loop-c : goal.invariant-loop-c
invariant-loop-c l = spec.skip l.comment l.rest ≡ spec.skip l.initial.comment l.initial.rest

abbrev pub decreases-loop-c : goal.decreases-loop-c
decreases-loop-c l = length l.rest

use Rattle.std.proofs.Common.{◌≡◌, drop, not}
use Rattle.std.specs.Prelude.{find}
use Rattle.bye_pattern.specs.Covering.{covers}
use Rattle.bye_pattern.proofs.learner.first_uncovered.Given as goal

abbrev pub invariant-loop-v : goal.invariant-loop-v
invariant-loop-v l = find (λ v. not (covers l.patterns v)) l.vars ≡ find (λ v. not (covers l.patterns v)) (drop l.v-index l.vars)

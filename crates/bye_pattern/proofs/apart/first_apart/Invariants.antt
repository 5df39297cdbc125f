use Rattle.std.proofs.Common.{◌≡◌, ◌+◌, drop}
use Rattle.bye_pattern.specs.Apart as spec
use Rattle.bye_pattern.proofs.apart.first_apart.Given as goal

abbrev pub invariant-loop-index : goal.invariant-loop-index
invariant-loop-index l = spec.first_apart l.vars l.first 2 l.later ≡ spec.first_apart l.vars l.first (2 + l.index) (drop l.index l.later)

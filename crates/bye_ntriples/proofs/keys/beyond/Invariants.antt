use Rattle.std.proofs.Common.{◌≡◌, drop}
use Rattle.bye_ntriples.specs.Keys as spec
use Rattle.bye_ntriples.proofs.keys.beyond.Given as goal

abbrev pub invariant-loop-p : goal.invariant-loop-p
invariant-loop-p l = spec.beyond (drop l.p-index l.front) l.rest ≡ spec.beyond l.front l.line

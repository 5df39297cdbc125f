use Rattle.std.proofs.Common.{◌≡◌, ◌≤◌, length}
use Rattle.std.specs.Str.{encode_utf8_all}
use Rattle.bye_ntriples.specs.DocSteps.{walk}
use Rattle.bye_ntriples.proofs.document.Document.walk.Given as goal

abbrev pub invariant-loop-rest : goal.invariant-loop-rest
invariant-loop-rest l = record {
  same : walk l.self l.rest ≡ walk l.initial.self l.initial.rest;
  within : length (encode_utf8_all l.rest) ≤ l.total;
}

abbrev pub decreases-loop-rest : goal.decreases-loop-rest
decreases-loop-rest l = length (encode_utf8_all l.rest)

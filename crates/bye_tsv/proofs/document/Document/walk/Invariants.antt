use Rattle.std.proofs.Common.{◌≡◌, ◌≤◌, length}
use Rattle.std.specs.Str.{encode_utf8_all}
use Rattle.bye_tsv.specs.DocSteps.{IsSound, walk}
use Rattle.bye_tsv.proofs.document.Document.walk.Given as goal

abbrev pub invariant-loop-c : goal.invariant-loop-c
invariant-loop-c l = record {
  same : walk l.bounds l.self l.rest ≡ walk l.bounds l.initial.self l.initial.rest;
  within : length (encode_utf8_all l.rest) ≤ l.total;
  sound : IsSound l.self;
}

abbrev pub decreases-loop-c : goal.decreases-loop-c
decreases-loop-c l = length l.rest

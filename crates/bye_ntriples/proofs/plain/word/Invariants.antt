use Rattle.std.proofs.Common.{◌≡◌, ◌++◌, length}
use Rattle.bye_ntriples.specs.PlainLines.{word}
use Rattle.bye_ntriples.proofs.plain.word.Given as goal

abbrev pub invariant-loop-c : goal.invariant-loop-c
invariant-loop-c l = record {
  spelled : l.text ++ (word l.rest).0 ≡ (word l.initial.rest).0;
  left : (word l.rest).1 ≡ (word l.initial.rest).1;
}

abbrev pub decreases-loop-c : goal.decreases-loop-c
decreases-loop-c l = length l.rest

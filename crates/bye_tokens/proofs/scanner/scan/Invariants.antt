use Rattle.std.proofs.Common.{◌≡◌, length}
use Rattle.bye_tokens.specs.Reading.{longest}
use Rattle.bye_tokens.proofs.scanner.scan.Given as goal

abbrev pub invariant-loop-c : goal.invariant-loop-c
invariant-loop-c g l = longest g.S.Scanner.next g.S.Scanner.whole l.at l.best l.rest ≡ longest g.S.Scanner.next g.S.Scanner.whole l.initial.at l.initial.best l.initial.rest

abbrev pub decreases-loop-c : goal.decreases-loop-c
decreases-loop-c g l = length l.rest

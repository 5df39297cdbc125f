use Rattle.std.proofs.Common.{◌≡◌, length, is_some}
use Rattle.bye_tokens.specs.Reading.{longest, both}
use Rattle.bye_tokens.proofs.machine.read_front.Given as goal

abbrev pub invariant-loop-c : goal.invariant-loop-c
invariant-loop-c g l = record {
  same : longest (g.M.Machine.next l.style) g.M.Machine.whole l.at (both (g.M.Machine.longest l.at) l.end) l.rest ≡ longest (g.M.Machine.next l.style) g.M.Machine.whole l.initial.at (both (g.M.Machine.longest l.initial.at) l.initial.end) l.initial.rest;
  ended : is_some (g.M.Machine.longest l.at) ≡ is_some l.end;
}

abbrev pub decreases-loop-c : goal.decreases-loop-c
decreases-loop-c g l = length l.rest

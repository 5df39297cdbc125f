use Rattle.std.proofs.Common.{◌≡◌, length, ◌≤◌, is_some}
use Rattle.std.specs.Str.{encode_utf8_all}
use Rattle.bye_lex.specs.Machines.{best_of}
use Rattle.bye_lex.specs.Scanning.{scan}
use Rattle.bye_lex.proofs.machine.read_token.Given as goal

abbrev pub invariant-loop-c : goal.invariant-loop-c
invariant-loop-c g l = record {
  same : scan (g.M.Machine.next l.style) g.M.Machine.whole l.total l.at (best_of (g.M.Machine.longest l.at) l.end) l.rest ≡ scan (g.M.Machine.next l.style) g.M.Machine.whole l.total l.initial.at (best_of (g.M.Machine.longest l.initial.at) l.initial.end) l.initial.rest;
  ended : is_some (g.M.Machine.longest l.at) ≡ is_some l.end;
  within : length (encode_utf8_all l.rest) ≤ l.total;
}

abbrev pub decreases-loop-c : goal.decreases-loop-c
decreases-loop-c g l = length l.rest

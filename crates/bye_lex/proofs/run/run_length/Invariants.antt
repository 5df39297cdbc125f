use Rattle.std.proofs.Common.{◌≡◌, true, take}
use Rattle.std.specs.List.{list_all}
use Rattle.bye_lex.proofs.run.run_length.Given as goal

abbrev pub invariant-loop-b : goal.invariant-loop-b
invariant-loop-b g l = record {
  at : l.n ≡ l.b-index;
  all : list_all g.C.Class.holds (take l.n l.bytes) ≡ true;
}

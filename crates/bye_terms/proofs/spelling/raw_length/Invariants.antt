use Rattle.std.proofs.Common.{◌≡◌, ◌++◌, take, drop}
use Rattle.bye_terms.specs.Spellings.{escaped}
use Rattle.bye_terms.proofs.spelling.raw_length.Given as goal

abbrev pub invariant-loop-i : goal.invariant-loop-i
invariant-loop-i l = escaped l.bytes ≡ take l.i l.bytes ++ escaped (drop l.i l.bytes)

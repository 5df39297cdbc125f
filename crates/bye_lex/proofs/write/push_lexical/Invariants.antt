use Rattle.std.proofs.Common.{◌≡◌, ◌++◌, length}
use Rattle.std.specs.List.{flat_map}
use Rattle.std.specs.Str.{encode_utf8_all}
use Rattle.bye_lex.specs.Ends.{IsFront}
use Rattle.bye_lex.specs.Written.{escaped_in}
use Rattle.bye_lex.proofs.write.push_lexical.Given as goal

abbrev pub invariant-loop-c : goal.invariant-loop-c
invariant-loop-c l = record {
  ok : l.out.items ++ encode_utf8_all (flat_map (escaped_in l.style) l.rest) ≡ l.initial.out.items ++ encode_utf8_all (flat_map (escaped_in l.style) l.initial.rest);
  front : IsFront l.initial.out.items l.out.items;
}

abbrev pub decreases-loop-c : goal.decreases-loop-c
decreases-loop-c l = length l.rest

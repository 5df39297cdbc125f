use Rattle.std.proofs.Common.{◌≡◌, ◌++◌, [], drop, map}
use denote.Shadow.{shadow}
use denote.Text.{Utf8}
use Rattle.bye_ntriples.specs.Writing.{joined}
use Rattle.bye_ntriples.proofs.writer.join.Given as goal

abbrev pub invariant-loop-line : goal.invariant-loop-line
invariant-loop-line l = shadow (Utf8 l.last) × (l.out.items ++ joined l.last (map (λ k. k.2.now) (drop l.line-index l.lines)) ≡ joined [] (map (λ k. k.2.now) l.lines))

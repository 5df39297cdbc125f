use Rattle.std.proofs.Common.{◌≡◌, ◌++◌, drop, map}
use denote.Shadow.{shadow}
use denote.Text.{Utf8}
use Rattle.bye_ntriples.specs.Writing.{parts, MayCut}
use Rattle.bye_ntriples.proofs.writer.cut.Given as goal

abbrev pub invariant-loop-length : goal.invariant-loop-length
invariant-loop-length l = shadow (Utf8 l.rest) × MayCut (drop l.length-index l.lengths) l.rest × (map (λ s. s.now) l.lines.items ++ parts (drop l.length-index l.lengths) l.rest ≡ parts l.fn.lengths l.fn.text)

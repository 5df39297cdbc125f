use Rattle.std.proofs.Common.{◌≡◌, map, take}
use Rattle.std.specs.List.{AllByRecursion}
use Rattle.bye_ntriples.specs.Keys.{IsKeyed}
use Rattle.bye_ntriples.specs.KeyLists.{chosen, keyed_of}
use Rattle.bye_ntriples.proofs.keys.with_keys.Given as goal

abbrev pub invariant-loop-line : goal.invariant-loop-line
invariant-loop-line l = AllByRecursion (IsKeyed (chosen l.labels l.fronts)) (keyed_of l.out.items) × (map (λ k. k.2.now) l.out.items ≡ map (λ s. s.now) (take l.line-index l.lines))

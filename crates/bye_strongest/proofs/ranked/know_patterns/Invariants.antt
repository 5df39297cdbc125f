use Rattle.std.proofs.Common.{take}
use Rattle.std.specs.List.{AllByRecursion}
use Rattle.bye_laws.specs.Ordering.{IsValidPattern}
use Rattle.bye_strongest.proofs.ranked.know_patterns.Given as goal

abbrev pub invariant-loop-pattern : goal.invariant-loop-pattern
invariant-loop-pattern l = AllByRecursion IsValidPattern (take l.pattern-index l.patterns)

use Rattle.std.proofs.Common.{◌≡◌, ◌++◌, take}
use Rattle.std.specs.List.{AllByRecursion, flat_map}
use Rattle.bye_pattern.specs.Printed.{triple_line}
use Rattle.bye_grammar.specs.Valid.{IsPattern}
use Rattle.bye_printer.proofs.patterns.push_triples.Given as goal

abbrev pub invariant-loop-pattern : goal.invariant-loop-pattern
invariant-loop-pattern l = record {
  text : l.out ≡ l.initial.out ++ flat_map (triple_line l.margin) (take l.pattern-index l.triples);
  valid : AllByRecursion IsPattern (take l.pattern-index l.triples);
}

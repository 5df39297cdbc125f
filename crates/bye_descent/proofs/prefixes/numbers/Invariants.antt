use Rattle.std.proofs.Common.{◌≡◌, reverse, take}
use Rattle.std.specs.Str.{bytes_eq}
use Rattle.indexmap.specs.IndexMap.{get}
use Rattle.bye_grammar.specs.Fits.{Chars, look}
use Rattle.bye_descent.specs.Declarations.{iri_at}
use Rattle.bye_descent.proofs.prefixes.numbers.Given as goal

abbrev pub invariant-loop-number : goal.invariant-loop-number
invariant-loop-number l = (name : Chars) → iri_at l.declared (get bytes_eq l.last name) ≡ look (reverse (take l.number l.declared)) name

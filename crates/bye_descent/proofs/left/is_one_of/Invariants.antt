use Rattle.std.proofs.Common.{◌≡◌, map, drop}
use Rattle.bye_parts.specs.Sets.{has}
use Rattle.bye_grammar.specs.TokenKinds.{numbers}
use Rattle.bye_descent.specs.KindViews.{seen}
use Rattle.bye_descent.proofs.left.is_one_of.Given as goal

abbrev pub invariant-loop-kind : goal.invariant-loop-kind
invariant-loop-kind l = has (numbers (map seen (drop l.kind-index l.kinds))) l.number ≡ has (numbers (map seen l.kinds)) l.number

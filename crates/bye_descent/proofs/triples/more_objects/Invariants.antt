use Rattle.std.proofs.Common.{◌≡◌, ◌++◌, length, map}
use Rattle.bye_parts.specs.Readers.{Got, onward, read_repeated}
use Rattle.bye_tokens.specs.declared.sign.Sign.TheVariants as signs
use Rattle.bye_grammar.specs.Reading as spec
use Rattle.bye_grammar.specs.TokenKinds.{of, a_sign}
use Rattle.bye_grammar.specs.Values.{pattern}
use Rattle.bye_descent.proofs.triples.more_objects.Given as goal

abbrev pub invariant-rounds : goal.invariant-rounds
invariant-rounds l =
    onward (read_repeated (of (a_sign signs.Comma)) (spec.read_next_object l.prefixes) l.left) (λ os rest. Got (l.all.items ++ map (pattern l.s l.p) os) rest)
    ≡ onward (read_repeated (of (a_sign signs.Comma)) (spec.read_next_object l.prefixes) l.fn.left) (λ os rest. Got (l.fn.first.items ++ map (pattern l.s l.p) os) rest)

abbrev pub decreases-rounds : goal.decreases-rounds
decreases-rounds l = length l.left

use Rattle.std.proofs.Common.{◌≡◌, ◌++◌, length}
use Rattle.std.specs.List.{flat_map}
use Rattle.bye_parts.specs.Readers.{Got, onward, read_repeated}
use Rattle.bye_tokens.specs.declared.sign.Sign.TheVariants as signs
use Rattle.bye_grammar.specs.Reading as spec
use Rattle.bye_grammar.specs.TokenKinds.{of, a_sign}
use Rattle.bye_descent.proofs.triples.more_properties.Given as goal

abbrev pub invariant-rounds : goal.invariant-rounds
invariant-rounds l =
    onward (read_repeated (of (a_sign signs.Semicolon)) (spec.read_next_property l.prefixes l.s) l.left) (λ vs rest. Got (l.all.items ++ flat_map (λ qs. qs) vs) rest)
    ≡ onward (read_repeated (of (a_sign signs.Semicolon)) (spec.read_next_property l.prefixes l.s) l.fn.left) (λ vs rest. Got (l.fn.first.items ++ flat_map (λ qs. qs) vs) rest)

abbrev pub decreases-rounds : goal.decreases-rounds
decreases-rounds l = length l.left

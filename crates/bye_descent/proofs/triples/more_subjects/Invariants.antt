use Rattle.std.proofs.Common.{◌≡◌, ◌++◌, length}
use Rattle.std.specs.List.{flat_map}
use Rattle.bye_parts.specs.Readers.{Got, onward, read_trailing}
use Rattle.bye_tokens.specs.declared.sign.Sign.TheVariants as signs
use Rattle.bye_grammar.specs.Reading as spec
use Rattle.bye_grammar.specs.TokenKinds.{of, a_sign, subjects}
use Rattle.bye_descent.proofs.triples.more_subjects.Given as goal

abbrev pub invariant-rounds : goal.invariant-rounds
invariant-rounds l =
    onward (read_trailing (of (a_sign signs.Dot)) (of subjects) (spec.read_same l.prefixes) l.left) (λ vs rest. Got (l.all.items ++ flat_map (λ qs. qs) vs) rest)
    ≡ onward (read_trailing (of (a_sign signs.Dot)) (of subjects) (spec.read_same l.prefixes) l.fn.left) (λ vs rest. Got (l.fn.first.items ++ flat_map (λ qs. qs) vs) rest)

abbrev pub decreases-rounds : goal.decreases-rounds
decreases-rounds l = length l.left

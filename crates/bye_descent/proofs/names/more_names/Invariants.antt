use Rattle.std.proofs.Common.{◌≡◌, ◌++◌, ◌∷◌, [], length, reverse}
use Rattle.bye_parts.specs.Readers.{Got, onward, read_run}
use Rattle.bye_grammar.specs.Fits as fits
use Rattle.bye_grammar.specs.TokenKinds as kinds
use Rattle.bye_grammar.specs.TokenKinds.{of}
use Rattle.bye_descent.proofs.names.more_names.Given as goal

abbrev pub invariant-rounds : goal.invariant-rounds
invariant-rounds l =
    (l.seen.keys ≡ l.all.items) × (onward (read_run (of (kinds.Variable ∷ [])) (λ seen t. fits.new_variable seen t.token) (reverse l.all.items) l.left) (λ vs rest. Got (l.all.items ++ vs) rest)
    ≡ onward (read_run (of (kinds.Variable ∷ [])) (λ seen t. fits.new_variable seen t.token) (reverse l.fn.first.items) l.fn.left) (λ vs rest. Got (l.fn.first.items ++ vs) rest))

abbrev pub decreases-rounds : goal.decreases-rounds
decreases-rounds l = length l.left

use Rattle.std.proofs.Common.{◌≡◌, ◌++◌, length}
use Rattle.bye_parts.specs.Readers.{Got, onward, read_repeated}
use Rattle.bye_tokens.specs.declared.word.Word.TheVariants as words
use Rattle.bye_grammar.specs.Reading as spec
use Rattle.bye_grammar.specs.TokenKinds.{of, a_word}
use Rattle.bye_descent.proofs.document.declarations.Given as goal

abbrev pub invariant-rounds : goal.invariant-rounds
invariant-rounds l =
    onward (read_repeated (of (a_word words.Prefix)) spec.read_declaration l.left) (λ ds rest. Got (l.declared.items ++ ds) rest)
    ≡ read_repeated (of (a_word words.Prefix)) spec.read_declaration l.fn.left

abbrev pub decreases-rounds : goal.decreases-rounds
decreases-rounds l = length l.left

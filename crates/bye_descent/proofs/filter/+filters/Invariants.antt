use Rattle.std.proofs.Common.{◌≡◌, ◌+◌, ◌*◌, ◌++◌, length, map}
use Rattle.bye_parts.specs.Readers.{Got, onward, read_repeated}
use Rattle.bye_tokens.specs.declared.sign.Sign.TheVariants as signs
use Rattle.bye_tree.specs.Exprs.{expr_of}
use Rattle.bye_grammar.specs.Reading as spec
use Rattle.bye_grammar.specs.TokenKinds.{of, a_sign}
use Rattle.bye_descent.proofs.filter.+filters.Given as goal

abbrev pub decreases-primary : goal.decreases-primary
decreases-primary l = 8 * l.depth

abbrev pub decreases-unary : goal.decreases-unary
decreases-unary l = 8 * l.depth + 1

abbrev pub decreases-next_unary : goal.decreases-next_unary
decreases-next_unary l = 8 * l.depth + 2

abbrev pub decreases-more_unaries : goal.decreases-more_unaries
decreases-more_unaries l = 8 * l.depth + 3

abbrev pub decreases-conjunction : goal.decreases-conjunction
decreases-conjunction l = 8 * l.depth + 4

abbrev pub decreases-next_conjunction : goal.decreases-next_conjunction
decreases-next_conjunction l = 8 * l.depth + 5

abbrev pub decreases-more_conjunctions : goal.decreases-more_conjunctions
decreases-more_conjunctions l = 8 * l.depth + 6

abbrev pub decreases-disjunction : goal.decreases-disjunction
decreases-disjunction l = 8 * l.depth + 7

abbrev pub invariant-more_unaries-rounds : goal.invariant-more_unaries-rounds
invariant-more_unaries-rounds l =
    onward (read_repeated (of (a_sign signs.And)) (spec.read_next_unary l.place (spec.read_primary l.prefixes l.place l.depth)) l.left) (λ es rest. Got (map expr_of l.all.items ++ es) rest)
    ≡ read_repeated (of (a_sign signs.And)) (spec.read_next_unary l.place (spec.read_primary l.prefixes l.place l.depth)) l.fn.left

abbrev pub decreases-more_unaries-rounds : goal.decreases-more_unaries-rounds
decreases-more_unaries-rounds l = length l.left

abbrev pub invariant-more_conjunctions-rounds : goal.invariant-more_conjunctions-rounds
invariant-more_conjunctions-rounds l =
    onward (read_repeated (of (a_sign signs.Or)) (spec.read_next_conjunction l.place (spec.read_primary l.prefixes l.place l.depth)) l.left) (λ es rest. Got (map expr_of l.all.items ++ es) rest)
    ≡ read_repeated (of (a_sign signs.Or)) (spec.read_next_conjunction l.place (spec.read_primary l.prefixes l.place l.depth)) l.fn.left

abbrev pub decreases-more_conjunctions-rounds : goal.decreases-more_conjunctions-rounds
decreases-more_conjunctions-rounds l = length l.left

use Rattle.std.proofs.Common.{◌≡◌, ◌+◌, ◌*◌, ◌++◌, length, map}
use Rattle.std.specs.List.{flat_map}
use Rattle.bye_parts.specs.Readers.{Got, onward, read_repeated}
use Rattle.bye_tree.specs.Written.{element_of}
use Rattle.bye_grammar.specs.declared.place.Place.TheVariants as places
use Rattle.bye_grammar.specs.Reading as spec
use Rattle.bye_grammar.specs.TokenKinds.{of, elements}
use Rattle.bye_descent.proofs.group.+groups.Given as goal

abbrev pub decreases-group : goal.decreases-group
decreases-group l = 5 * l.depth

abbrev pub decreases-one_element : goal.decreases-one_element
decreases-one_element l = 5 * l.depth + 1

abbrev pub decreases-next_elements : goal.decreases-next_elements
decreases-next_elements l = 5 * l.depth + 2

abbrev pub decreases-more_elements : goal.decreases-more_elements
decreases-more_elements l = 5 * l.depth + 3

abbrev pub decreases-body : goal.decreases-body
decreases-body l = 5 * l.depth + 4

abbrev pub invariant-more_elements-rounds : goal.invariant-more_elements-rounds
invariant-more_elements-rounds l =
    onward (read_repeated (of elements) (spec.read_element l.prefixes (spec.read_optional_group (spec.read_group l.prefixes places.Inner l.depth)) (spec.read_filter l.prefixes l.place l.depth)) l.left) (λ es rest. Got (map element_of l.all.items ++ flat_map (λ e. e) es) rest)
    ≡ onward (read_repeated (of elements) (spec.read_element l.prefixes (spec.read_optional_group (spec.read_group l.prefixes places.Inner l.depth)) (spec.read_filter l.prefixes l.place l.depth)) l.fn.left) (λ es rest. Got (map element_of l.fn.first.items ++ flat_map (λ e. e) es) rest)

abbrev pub decreases-more_elements-rounds : goal.decreases-more_elements-rounds
decreases-more_elements-rounds l = length l.left

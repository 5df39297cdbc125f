use Rattle.std.proofs.Common.{◌≡◌, length}
use Rattle.bye_terms.specs.Names as spec
use Rattle.bye_terms.proofs.rules.is_label_rest.Given as goal

abbrev pub invariant-loop-c : goal.invariant-loop-c
invariant-loop-c l = spec.is_label_rest l.due l.rest ≡ spec.is_label_rest l.initial.due l.initial.rest

abbrev pub decreases-loop-c : goal.decreases-loop-c
decreases-loop-c l = length l.rest

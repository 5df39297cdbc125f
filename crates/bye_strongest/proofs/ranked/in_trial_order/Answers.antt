use Rattle.std.proofs.Common.{◌∙◌, ap, subst}
use Rattle.std.specs.List.{AllByRecursion}
use Rattle.std.specs.List.Sorted.{IsPermutation}
use Rattle.bye_laws.specs.Ordering.{IsValidPattern}
use Rattle.bye_strongest.specs.Ranking.{each_once}
use Rattle.bye_strongest.proofs.Sorting.{members, strict}
use Rattle.bye_strongest.proofs.ranked.in_trial_order.Goals as goal

pub returns-clause-same : goal.returns-clause-same
returns-clause-same c =
    members c.args.patterns.items c.sort.new.ranked.items c.in_ok-out.out.items (subst (λ ps. IsPermutation ps c.sort.new.ranked.items) c.in_ok-ranked.ensures c.sort.ensures.same) c.sort.ensures.sorted
    (subst (AllByRecursion IsValidPattern) c.as_slice.ensures.value c.know_patterns.ensures) (c.in_ok-out.ensures ∙ ap each_once c.as_slice-2.ensures.value)

pub returns-clause-strict : goal.returns-clause-strict
returns-clause-strict c =
    strict c.args.patterns.items c.sort.new.ranked.items c.in_ok-out.out.items (subst (λ ps. IsPermutation ps c.sort.new.ranked.items) c.in_ok-ranked.ensures c.sort.ensures.same) c.sort.ensures.sorted
    (subst (AllByRecursion IsValidPattern) c.as_slice.ensures.value c.know_patterns.ensures) (c.in_ok-out.ensures ∙ ap each_once c.as_slice-2.ensures.value)

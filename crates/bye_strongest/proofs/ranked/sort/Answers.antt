use Rattle.bye_pattern.proofs.Orders.{order_from_sort, trial_weak}
use Rattle.bye_pattern.specs.TrialOrder.{trial_cmp}
use Rattle.std.specs.Ordering.{is_lt}
use Rattle.std.proofs.Common.{◌≡◌, rules, ap}
use Rattle.std.proofs.lemmas.List.Sorted.{answers_always}
use Rattle.bye_strongest.proofs.ranked.sort.Goals as goal

pub returns-clause-sorted : goal.returns-clause-sorted
returns-clause-sorted c =
    order_from_sort _ (c.sort_unstable_by.ensures.sorted (λ p q. is_lt (trial_cmp p q)) trial_weak (answers_always _ _ _ (λ f a r g called. let e : r ≡ trial_cmp a.0.now a.1.0.now = search rules in ap is_lt e)))

use Rattle.std.proofs.Common.{◌++◌, ◌∙◌, ap}
use Rattle.bye_pattern.specs.Ranking.{variable_count}
use Rattle.bye_pattern.specs.TrialOrder.{line_bytes}
use Rattle.bye_pattern.proofs.Orders.{counted}
use Rattle.bye_strongest.proofs.ranked.Ranked.of_pattern.Goals as goal

pub invariant_of-result : goal.invariant_of-result
invariant_of-result c = (
  c.count_variables-variables.ensures ∙ (λ i. variable_count (c.s.ensures.value i) (c.p.ensures.value i) (c.o.ensures i)) ∙ counted c.args.pattern.s c.args.pattern.p c.args.pattern.o,
  c.in_ok-push_line.ensures ∙ ap (λ bytes. bytes ++ line_bytes c.args.pattern) c.new-line.ensures.items,
)

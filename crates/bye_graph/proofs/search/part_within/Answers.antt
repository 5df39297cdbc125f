use Rattle.std.proofs.Common.{sym, ◌∙◌, ap, subst, take, drop, length, arith}
use Rattle.std.specs.List.Sorted.{IsStrictlySortedBy}
use Rattle.bye_graph.specs.Orders.{entry_cmp}
use Rattle.bye_graph.proofs.Halving.{two_searches}
use Rattle.bye_graph.proofs.Sorted.{within_span, sorted_drop, sorted_take}
use Rattle.bye_graph.proofs.search.part_within.Goals as goal

pub first_from-high-requires : goal.first_from-high-requires
first_from-high-requires g c = subst (IsStrictlySortedBy entry_cmp) (sym c.split_at.ensures.back) (sorted_drop c.args.entries.now c.first_from-low.result.0 c.requires)

pub returns-clause-entries : goal.returns-clause-entries
returns-clause-entries g c = within_span c.args.entries.now c.split_at.result.1.now c.split_at-2.result.0.now c.args.span c.first_from-low.result.0 c.first_from-high.result.0 c.split_at.ensures.back c.split_at-2.ensures.front
    c.first_from-low.ensures.before c.first_from-low.ensures.after c.first_from-high.ensures.before c.first_from-high.ensures.after

pub returns-clause-strict : goal.returns-clause-strict
returns-clause-strict g c =
    subst (IsStrictlySortedBy entry_cmp) (sym (c.split_at-2.ensures.front ∙ ap (take c.first_from-high.result.0) c.split_at.ensures.back))
    (sorted_take (drop c.first_from-low.result.0 c.args.entries.now) c.first_from-high.result.0 (sorted_drop c.args.entries.now c.first_from-low.result.0 c.requires))

pub returns-clause-cost : goal.returns-clause-cost
returns-clause-cost g c = λ n d few depth.
    two_searches (length c.split_at.result.1.now) (length c.args.entries.now) n d c.args.steps.now c.first_from-low.new.steps c.first_from-high.new.steps (let e = c.split_at.ensures.back_len in omega (arith, e)) few depth
    c.first_from-low.ensures.grows c.first_from-low.ensures.cost c.first_from-high.ensures.grows c.first_from-high.ensures.cost

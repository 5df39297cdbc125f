use Rattle.std.proofs.Common.{◌≡◌, true, sym, subst, ◌↔◌}
use Rattle.bye_terms.specs.Members.{EachOnce}
use Rattle.bye_table.proofs.RowNames.{distinct_once}
use Rattle.bye_table.proofs.table.are_distinct.Goals as goal

pub returns : goal.returns
returns c = subst (λ b. (b ≡ true) ↔ EachOnce c.args.vars.now) (sym c.is_each_once.ensures) (distinct_once c.args.vars.now)

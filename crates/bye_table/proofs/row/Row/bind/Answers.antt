use Rattle.std.proofs.Common.{sym, subst, ◌≡◌, None}
use Rattle.bye_table.specs.Mappings.{row_mapping}
use Rattle.bye_table.proofs.RowNames.{bound_last, once_bound}
use Rattle.bye_table.proofs.row.Row.bind.Goals as goal

pub invariant_of-self : goal.invariant_of-self
invariant_of-self c =
    once_bound c.push_item.result c.self.inside.pairs.items c.push_item.new.items.items c.args.variable c.args.term c.push_item.ensures.ok c.push_item.ensures.err c.self.invariant
    (subst (λ row. row_mapping row c.args.variable ≡ None) (sym c.self.view_is) c.requires)

pub returns-clause-ok : goal.returns-clause-ok
returns-clause-ok c = bound_last c.push_item.result c.self.inside.pairs.items c.args.self.now c.push_item.new.items.items c.args.variable c.args.term c.self.view_is c.push_item.ensures.ok

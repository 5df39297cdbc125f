use Rattle.std.proofs.Common.{rules, sym, subst}
use Rattle.bye_table.proofs.RowNames.{AreBound, each_bound}
use Rattle.bye_table.proofs.row.Row.cells.Goals as goal

pub loop-variable-init : goal.loop-variable-init
loop-variable-init c = record {
  are = search rules;
  valid = search rules;
  rest = subst (AreBound c.args.self.now) (sym c.listed-rest.ensures.pairs) (each_bound c.args.self.now c.listed-rest.ensures.no_repeat);
}

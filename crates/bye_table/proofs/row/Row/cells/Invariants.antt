use Rattle.std.proofs.Common.{◌≡◌, Some, map, take}
use Rattle.std.specs.List.{AllByRecursion}
use Rattle.bye_table.specs.Cells.{IsRdfCell, found}
use Rattle.bye_table.specs.Mappings.{row_mapping}
use Rattle.bye_table.proofs.row.Row.cells.Given as goal

abbrev pub invariant-loop-variable : goal.invariant-loop-variable
invariant-loop-variable l = record {
  are : found l.cells.items ≡ map (row_mapping l.self) (take l.variable-index l.vars);
  valid : AllByRecursion IsRdfCell (found l.cells.items);
  rest : AllByRecursion (λ e. row_mapping l.self e.0 ≡ Some e.1) l.rest;
}

-- Rows by numbers as rows of a table.
use Rattle.std.specs.Prelude.{List}
use Rattle.bye_terms.specs.declared.term.Term.{Term}
use Rattle.bye_table.specs.Mappings.{Name, Pairs}
use Rattle.bye_pattern.specs.FirstClaims.{listing}
use Rattle.bye_node.specs.Envs.{Cells}
use Rattle.bye_node.specs.Steps.{decode}

-- the row that numbers of terms are: each bound variable with its term, in the order of the variables
abbrev pub row_of : List Name → List Term → Cells → Pairs
row_of vars terms r = listing vars (decode vars terms r)

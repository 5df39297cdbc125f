use Rattle.std.proofs.Common.{◌≡◌, ap, Err}
use Rattle.bye_graph.specs.Graphs.{statements}
use Rattle.bye_tree.specs.Selects.{select_of}
use Rattle.bye_cli.proofs.Ran.{sorted_answers, more_answers}
use Rattle.bye_cli.proofs.running.answer_table.Goals as goal

pub returns-in-Ok-clause-table : goal.returns-in-Ok-clause-table
returns-in-Ok-clause-table c =
    sorted_answers (statements c.in_ok-graph.graph) c.args.triples.items c.in_ok-graph.ensures (select_of c.args.select.now) c.in-Ok.table c.in_ok-sorted-in-Ok.sorted
    c.in-Ok.ensures.answers c.in_ok-sorted-in-Ok.ensures

pub returns-in-Err-TooManyRows-clause-cause : goal.returns-in-Err-TooManyRows-clause-cause
returns-in-Err-TooManyRows-clause-cause c =
    more_answers (statements c.in_ok-graph.graph) c.args.triples.items c.in_ok-graph.ensures (select_of c.args.select.now) (c.in-Err-TooManyRows.ensures.more (ap Err c.in-Err-TooManyRows.field-0-is))

use Rattle.std.proofs.Common.{sym}
use Rattle.bye_graph.proofs.graph.Graph.count.Goals as goal

pub returns-clause-count : goal.returns-clause-count
returns-clause-count g c = (c.find.result, c.find.ensures.matches, sym c.len.ensures)

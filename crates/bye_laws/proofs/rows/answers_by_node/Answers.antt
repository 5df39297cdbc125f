use Rattle.bye_laws.proofs.ByNodes.{by_node}
use Rattle.bye_laws.proofs.rows.answers_by_node.Goals as goal

pub returns : goal.returns
returns c = by_node

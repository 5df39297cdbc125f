use Rattle.bye_laws.proofs.StrongestAt.{strongest_nodes_told}
use Rattle.bye_laws.proofs.starts.strongest_nodes.Goals as goal

pub returns : goal.returns
returns c = strongest_nodes_told

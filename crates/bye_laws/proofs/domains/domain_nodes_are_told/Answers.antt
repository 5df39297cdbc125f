use Rattle.bye_laws.proofs.DomainNodes.{nodes_told}
use Rattle.bye_laws.proofs.domains.domain_nodes_are_told.Goals as goal

pub returns : goal.returns
returns c = nodes_told

use Rattle.bye_laws.proofs.DomainTrees.{domain_tree}
use Rattle.bye_laws.proofs.StartsThere.{lone_tree}
use Rattle.bye_laws.proofs.domains.domain_trees_by_claims.Goals as goal

pub returns : goal.returns
returns c = record { optional = domain_tree; conjunction = lone_tree }

use Rattle.bye_laws.proofs.DomainDepths.{depth_told}
use Rattle.bye_laws.proofs.domains.domain_trees_by_depth.Goals as goal

pub returns : goal.returns
returns c = depth_told

use Rattle.bye_laws.proofs.ClaimLists.{admitted_by_list, extension_by_list, uncovered_by_list}
use Rattle.bye_laws.proofs.claims.claims_by_lists.Goals as goal

pub returns : goal.returns
returns c = record { uncovered = uncovered_by_list; admitted = admitted_by_list; extension = extension_by_list }

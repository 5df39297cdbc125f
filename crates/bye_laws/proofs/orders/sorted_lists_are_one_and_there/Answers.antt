use Rattle.bye_laws.proofs.SortedLists.{sorted_lists}
use Rattle.bye_laws.proofs.orders.sorted_lists_are_one_and_there.Goals as goal

pub returns : goal.returns
returns c = sorted_lists

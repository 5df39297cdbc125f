use Rattle.bye_table.proofs.SortedSets as proved
use Rattle.bye_table.proofs.laws.one_sorted_set.Goals as goal

pub returns : goal.returns
returns c = proved.one_sorted_set

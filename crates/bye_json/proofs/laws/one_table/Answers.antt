use Rattle.bye_json.proofs.OneTable as proved
use Rattle.bye_json.proofs.laws.one_table.Goals as goal

pub returns : goal.returns
returns c = proved.one_table

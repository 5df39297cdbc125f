use Rattle.bye_json.proofs.ByName as proved
use Rattle.bye_json.proofs.laws.sorts_names.Goals as goal

pub returns : goal.returns
returns c = proved.sorts_names

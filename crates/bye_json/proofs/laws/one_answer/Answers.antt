use Rattle.bye_json.proofs.OneAnswer as proved
use Rattle.bye_json.proofs.laws.one_answer.Goals as goal

pub returns : goal.returns
returns c = proved.one_answer

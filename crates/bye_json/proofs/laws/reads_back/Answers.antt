use Rattle.bye_json.proofs.TableBack as proved
use Rattle.bye_json.proofs.laws.reads_back.Goals as goal

pub returns : goal.returns
returns c = proved.table_back

use Rattle.bye_laws.proofs.ReadingBack.{read_back}
use Rattle.bye_laws.proofs.written.read_back.Goals as goal

pub returns : goal.returns
returns c = read_back

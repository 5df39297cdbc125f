use Rattle.bye_readback.proofs.WrittenDocuments.{tokens_derive}
use Rattle.bye_readback.proofs.laws.written_tokens_derive.Goals as goal

pub returns : goal.returns
returns c = tokens_derive

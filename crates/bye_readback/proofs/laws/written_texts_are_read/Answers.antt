use Rattle.bye_readback.proofs.WrittenTexts.{texts_read}
use Rattle.bye_readback.proofs.laws.written_texts_are_read.Goals as goal

pub returns : goal.returns
returns c = texts_read c.written_texts_split.ensures c.read_back.ensures

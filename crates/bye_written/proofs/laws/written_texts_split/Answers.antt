use Rattle.bye_written.proofs.Queries.{written_texts_split}
use Rattle.bye_written.proofs.laws.written_texts_split.Goals as goal

pub returns : goal.returns
returns c = written_texts_split

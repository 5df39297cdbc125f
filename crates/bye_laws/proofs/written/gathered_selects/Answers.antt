use Rattle.bye_laws.proofs.Gathering.{gathered_selects}
use Rattle.bye_laws.proofs.written.gathered_selects.Goals as goal

pub returns : goal.returns
returns c = gathered_selects

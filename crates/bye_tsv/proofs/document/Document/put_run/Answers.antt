use Rattle.bye_tsv.proofs.DocRuns.{place_runs}
use Rattle.bye_tsv.proofs.document.Document.put_run.Goals as goal

pub returns : goal.returns
returns c = rw c.put.ensures (place_runs c.args.self.now c.args.at c.in_ok-at.at c.args.rest.now c.take_run.new.rest c.in_ok-at.ensures)

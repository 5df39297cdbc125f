use Rattle.std.proofs.Common.{IfErr, sym, subst}
use Rattle.bye_tsv.specs.Answers.{IsFault}
use Rattle.bye_tsv.specs.Feeding.{Came}
use Rattle.bye_tsv.specs.Readers.{ReaderAt}
use Rattle.bye_tsv.specs.declared.pieces.State.{State}
use Rattle.bye_tsv.proofs.Feeds.{refusal_fault}
use Rattle.bye_tsv.proofs.pieces.TsvReader.finish.Goals as goal

pub returns-in-Reading-clause-fault : goal.returns-in-Reading-clause-fault
returns-in-Reading-clause-fault c bytes h =
    let k = subst (λ (r : ReaderAt). Came r.bounds bytes r.state) (sym c.self.view_is) h in
    subst (λ (r : ReaderAt). IfErr c.finish.result (IsFault r.bounds bytes)) c.self.view_is (c.finish.ensures.fault bytes (subst (λ (s : State). Came c.self.inside.bounds bytes s) c.in-Reading.is k))

pub returns-in-Refused-clause-fault : goal.returns-in-Refused-clause-fault
returns-in-Refused-clause-fault c bytes h =
    let k = subst (λ (r : ReaderAt). Came r.bounds bytes r.state) (sym c.self.view_is) h in
    subst (λ (r : ReaderAt). IsFault r.bounds bytes c.in-Refused.fault) c.self.view_is (refusal_fault c.self.inside.bounds bytes c.in-Refused.fault (subst (λ (s : State). Came c.self.inside.bounds bytes s) c.in-Refused.is k))

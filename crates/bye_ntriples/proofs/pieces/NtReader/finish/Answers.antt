use Rattle.std.proofs.Common.{sym, ◌∙◌, subst}
use Rattle.bye_ntriples.specs.Pieces.{Came}
use Rattle.bye_ntriples.specs.declared.pieces.State.{State}
use Rattle.bye_ntriples.proofs.Feeds.{refusal_fault}
use Rattle.bye_ntriples.proofs.pieces.NtReader.finish.Goals as goal

pub returns-in-Refused-clause-fault : goal.returns-in-Refused-clause-fault
returns-in-Refused-clause-fault c bytes h = refusal_fault bytes c.in-Refused.fault (subst (λ (s : State). Came bytes s) (sym c.self.view_is ∙ c.in-Refused.is) h)

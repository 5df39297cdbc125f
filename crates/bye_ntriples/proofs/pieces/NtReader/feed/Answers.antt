use Rattle.std.proofs.Common.{◌++◌, sym, ◌∙◌, subst}
use Rattle.bye_ntriples.specs.Pieces.{Came}
use Rattle.bye_ntriples.specs.declared.pieces.State.{State}
use Rattle.bye_ntriples.proofs.Feeds.{refusal_feed, refusal_on}
use Rattle.bye_ntriples.proofs.pieces.NtReader.feed.Goals as goal

pub returns-in-Refused-clause-came : goal.returns-in-Refused-clause-came
returns-in-Refused-clause-came c bytes h = refusal_on bytes c.args.piece.now c.in-Refused.fault (subst (λ (s : State). Came bytes s) (sym c.self.view_is ∙ c.in-Refused.is) h)

pub returns-in-Refused-clause-err : goal.returns-in-Refused-clause-err
returns-in-Refused-clause-err c bytes h = refusal_feed (bytes ++ c.args.piece.now) c.in-Refused.fault (refusal_on bytes c.args.piece.now c.in-Refused.fault (subst (λ (s : State). Came bytes s) (sym c.self.view_is ∙ c.in-Refused.is) h))

pub returns-in-Err-clause-err : goal.returns-in-Err-clause-err
returns-in-Err-clause-err c bytes h = refusal_feed (bytes ++ c.args.piece.now) c.in-Err.fault (c.in-Err.ensures.err bytes (subst (λ (s : State). Came bytes s) (sym c.self.view_is ∙ c.in-Reading.is) h))

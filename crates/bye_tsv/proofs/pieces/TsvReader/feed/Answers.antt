use Rattle.std.proofs.Common.{length, sym, ◌∙◌, ap, subst}
use Rattle.bye_tsv.specs.Feeding.{Came, HasRoom, IsKept}
use Rattle.bye_tsv.specs.Readers.{ReaderAt}
use Rattle.bye_tsv.specs.declared.pieces.State.{State}
use Rattle.bye_tsv.proofs.Feeds.{refusal_on}
use Rattle.bye_tsv.proofs.Kept.{led_on}
use Rattle.bye_tsv.proofs.pieces.TsvReader.feed.Goals as goal

pub returns-in-Refused-clause-came : goal.returns-in-Refused-clause-came
returns-in-Refused-clause-came c bytes h =
    refusal_on c.args.self.now.bounds bytes c.args.piece.now c.in-Refused.fault (subst (λ (s : State). Came c.args.self.now.bounds bytes s) (ap (λ (r : ReaderAt). r.state) (sym c.self.view_is) ∙ c.in-Refused.is) h)

pub returns-in-Refused-clause-err : goal.returns-in-Refused-clause-err
returns-in-Refused-clause-err c bytes h =
    refusal_on c.args.self.now.bounds bytes c.args.piece.now c.in-Refused.fault (subst (λ (s : State). Came c.args.self.now.bounds bytes s) (ap (λ (r : ReaderAt). r.state) (sym c.self.view_is) ∙ c.in-Refused.is) h)

pub invariant_of-self-in_default : goal.invariant_of-self-in_default
invariant_of-self-in_default c =
    let here = ap (λ (r : ReaderAt). r.state) (sym c.self.view_is) ∙ c.in-Reading.is in
    led_on c.self.inside.bounds c.args.piece.now c.in-Reading.reading c.feed-fed.new.self (subst (IsKept c.self.inside.bounds) c.in-Reading.is c.self.invariant)
    (subst (λ (s : State). HasRoom s (length c.args.piece.now)) here c.requires) c.in_default.ensures.ok c.in_default.ensures.sound c.in_default.ensures.taken

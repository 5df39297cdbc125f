use Rattle.std.proofs.Common.{◌≤◌, length, sym, subst}
use Rattle.bye_tsv.specs.Feeding.{Came, IsKept}
use Rattle.bye_tsv.specs.Kept.{unfinished}
use Rattle.bye_tsv.specs.Readers.{ReaderAt}
use Rattle.bye_tsv.specs.declared.pieces.State.{State}
use Rattle.bye_tsv.proofs.Kept.{come_within, led_within}
use Rattle.bye_tsv.proofs.pieces.TsvReader.carried.Goals as goal

pub kept-requires : goal.kept-requires
kept-requires c = led_within c.self.inside.bounds c.in-Reading.reading (subst (IsKept c.self.inside.bounds) c.in-Reading.is c.self.invariant)

pub returns-in-Reading-clause-bound : goal.returns-in-Reading-clause-bound
returns-in-Reading-clause-bound c bytes h =
    let came = subst (λ (r : ReaderAt). Came r.bounds bytes r.state) (sym c.self.view_is) h in
    subst (λ n. n ≤ length (unfinished bytes)) (sym c.kept.ensures)
    (come_within c.self.inside.bounds bytes c.in-Reading.reading (subst (λ (s : State). Came c.self.inside.bounds bytes s) c.in-Reading.is came))

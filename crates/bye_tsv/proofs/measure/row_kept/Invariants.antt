use Rattle.std.proofs.Common.{◌≡◌, take}
use Rattle.bye_tsv.specs.Kept.{row_kept}
use Rattle.bye_tsv.proofs.measure.row_kept.Given as goal

abbrev pub invariant-loop-term : goal.invariant-loop-term
invariant-loop-term l = l.total ≡ row_kept (take l.term-index l.pairs)

use Rattle.std.proofs.Common.{◌≡◌, take}
use Rattle.bye_tsv.specs.Kept.{names_kept}
use Rattle.bye_tsv.proofs.measure.names_kept.Given as goal

abbrev pub invariant-loop-name : goal.invariant-loop-name
invariant-loop-name l = l.total ≡ names_kept (take l.name-index l.names)

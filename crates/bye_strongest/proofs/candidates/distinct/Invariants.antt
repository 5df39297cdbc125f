use Rattle.std.proofs.Common.{ℕ, Some, ◌↔◌, take}
use Rattle.bye_terms.specs.Members.{In}
use Rattle.bye_strongest.proofs.candidates.distinct.Given as goal

abbrev pub invariant-loop-cell : goal.invariant-loop-cell
invariant-loop-cell l = (n : ℕ) → In l.out.items n ↔ In (take l.cell-index l.cell-items) (Some n)

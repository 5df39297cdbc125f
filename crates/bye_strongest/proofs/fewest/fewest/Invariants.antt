use Rattle.bye_terms.specs.Members.{In}
use Rattle.bye_strongest.proofs.fewest.fewest.Given as goal

abbrev pub invariant-loop-row : goal.invariant-loop-row
invariant-loop-row g l = In l.rows l.best

use Rattle.std.proofs.Common.{ℕ, ◌↔◌}
use Rattle.bye_terms.specs.Members.{In}
use Rattle.bye_strongest.specs.Candidates.{IsAround}
use Rattle.bye_strongest.specs.Numbers.{Shape}
use Rattle.bye_strongest.proofs.candidates.candidates.Given as goal

abbrev pub invariant-loop-number : goal.invariant-loop-number
invariant-loop-number g l = (shape : Shape) → In l.out.items shape ↔ ((n : ℕ) × In l.yielded n × IsAround l.graph l.row n shape)

use Rattle.std.proofs.Common.{◌+◌, ◌<◌, ◌^◌, ℕ, [], sym, subst, arith}
use Rattle.bye_ntriples.specs.Feeding.{ReadingAt, HasCome, taken}
use Rattle.bye_ntriples.proofs.Feeds.{begins}
use Rattle.bye_ntriples.proofs.pieces.NtReader.new.Goals as goal

pub returns-clause-came : goal.returns-clause-came
returns-clause-came c = subst (λ (r : ReadingAt). HasCome [] r) (sym c.new.ensures) begins

none_taken : (more : ℕ) → more < 2 ^ 64 → 0 + more < 2 ^ 64
none_taken more h = omega (arith, h)

pub returns-clause-room : goal.returns-clause-room
returns-clause-room c more h = subst (λ (r : ReadingAt). taken r + more < 2 ^ 64) (sym c.new.ensures) (none_taken more h)

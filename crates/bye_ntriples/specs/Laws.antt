-- What the answers of readers of graph documents say of one another.
use Rattle.std.specs.Prelude.{◌≡◌, ℕ, List, Result, Err, ◌⊎◌}
use Rattle.bye_terms.specs.Terms.{Statement}
use Rattle.bye_ntriples.specs.Answers.{NtAnswer}
use Rattle.bye_ntriples.specs.declared.fault.NtErr.{NtErr}
use Rattle.bye_ntriples.specs.declared.fault.NtErr.TheVariants as faults

-- but for want of memory, a document has one answer
abbrev pub NtAnswersOnce : Type 0
NtAnswersOnce =
    (bytes : List ℕ) (answer other : Result (List Statement) NtErr) → NtAnswer bytes answer → NtAnswer bytes other
    → (answer ≡ Err faults.Memory) ⊎ ((other ≡ Err faults.Memory) ⊎ (answer ≡ other))

use Rattle.std.proofs.Common.{◌≡◌}
use Rattle.std.specs.List.{filter}
use Rattle.bye_pattern.specs.Meeting.{meets_all}
use Rattle.bye_pattern.proofs.learner.common_candidates.Given as goal

abbrev pub invariant-loop-pattern : goal.invariant-loop-pattern
invariant-loop-pattern l = l.out.items ≡ filter (meets_all l.graph l.rows) l.yielded

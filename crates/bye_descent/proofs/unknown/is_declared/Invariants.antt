use Rattle.std.proofs.Common.{◌≡◌, length}
use Rattle.bye_descent.specs.Unknown.{is_declared}
use Rattle.bye_descent.proofs.Declaring.{declared_on}
use Rattle.bye_descent.proofs.unknown.is_declared.Given as goal

abbrev pub invariant-tokens : goal.invariant-tokens
invariant-tokens l = declared_on l.name l.word l.prefix l.rest ≡ is_declared l.name l.fn.left

abbrev pub decreases-tokens : goal.decreases-tokens
decreases-tokens l = length l.rest

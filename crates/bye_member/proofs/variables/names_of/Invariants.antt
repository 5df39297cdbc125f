use Rattle.std.proofs.Common.{◌≡◌, take}
use Rattle.bye_member.proofs.variables.names_of.Given as goal

abbrev pub invariant-loop-var : goal.invariant-loop-var
invariant-loop-var l = l.names ≡ take l.var-index l.vars

use Rattle.std.proofs.Common.{◌≡◌, take}
use Rattle.bye_member.proofs.listing.copy_vars.Given as goal

abbrev pub invariant-loop-var : goal.invariant-loop-var
invariant-loop-var l = l.out.items ≡ take l.var-index l.vars

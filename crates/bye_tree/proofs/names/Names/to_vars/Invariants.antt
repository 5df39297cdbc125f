use Rattle.std.proofs.Common.{◌≡◌, take}
use Rattle.bye_tree.proofs.names.Names.to_vars.Given as goal

abbrev pub invariant-loop-name : goal.invariant-loop-name
invariant-loop-name l = l.vars.items ≡ take l.name-index l.name-items

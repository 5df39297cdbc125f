use Rattle.std.proofs.Common.{◌≡◌, [], drop}
use Rattle.bye_tree.specs.Names.{with_names}
use Rattle.bye_tree.proofs.gathers.lacks_some.Given as goal

abbrev pub invariant-loop-var : goal.invariant-loop-var
invariant-loop-var l = with_names l.chosen (drop l.var-index l.vars) ≡ with_names [] l.vars

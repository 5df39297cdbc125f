use Rattle.std.proofs.Common.{◌≡◌, [], drop, map}
use Rattle.bye_tree.specs.Names.{with_names}
use Rattle.bye_tree.proofs.names.Names.of_vars.Given as goal

abbrev pub invariant-loop-var : goal.invariant-loop-var
invariant-loop-var l = with_names l.names (map (λ v. v.now) (drop l.var-index l.vars)) ≡ with_names [] (map (λ v. v.now) l.vars)

use Rattle.std.proofs.Common.{ap, map, Bor, List}
use Rattle.bye_terms.specs.declared.var.Var.{Var}
use Rattle.bye_pattern.specs.Nodes.{tree_of}
use Rattle.bye_tree.proofs.Nodes.{root_designed, root_refused}
use Rattle.bye_tree.proofs.tree.check_root.Goals as goal

abbrev names : List (Bor Var) → List Var
names vs = map (λ v. v.now) vs

pub returns-in-Ok-clause-designed : goal.returns-in-Ok-clause-designed
returns-in-Ok-clause-designed c =
    root_designed c.new-none.result (names c.new-above.result.items) c.new-seen.result (tree_of c.args.root.now) c.new-none.ensures (ap names c.new-above.ensures.items) c.new-seen.ensures c.in-Ok.ensures.designed

pub returns-clause-broken : goal.returns-clause-broken
returns-clause-broken c =
    root_refused c.in-Err.error c.turned.result c.new-none.result (names c.new-above.result.items) c.new-seen.result (tree_of c.args.root.now) c.new-none.ensures (ap names c.new-above.ensures.items) c.new-seen.ensures
    c.in-Err.ensures.broken c.turned.ensures

use Rattle.bye_pattern.specs.Nodes.{tree_of}
use Rattle.bye_pattern.specs.Trees.{tree_vars}
use Rattle.bye_member.proofs.Asking.{all_once, all_there}
use Rattle.bye_member.proofs.variables.tree_names.Goals as goal

pub returns-clause-once : goal.returns-clause-once
returns-clause-once c = all_once c.new-names.result c.insert_tree.new.names (tree_vars (tree_of c.args.root.now)) c.new-names.ensures c.in_ok-insert_tree.ensures

pub returns-clause-vars : goal.returns-clause-vars
returns-clause-vars c = all_there c.new-names.result c.insert_tree.new.names (tree_vars (tree_of c.args.root.now)) c.new-names.ensures c.in_ok-insert_tree.ensures

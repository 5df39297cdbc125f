use Rattle.bye_pattern.specs.Nodes.{tree_of}
use Rattle.bye_member.proofs.Rowing.{first_root}
use Rattle.bye_member.proofs.rows.rows_of.Goals as goal

pub enter_root-requires-clause-plan : goal.enter_root-requires-clause-plan
enter_root-requires-clause-plan g c = (
  tree_of c.args.root.now,
  first_root c.args.task.now (tree_of c.args.root.now) c.in_ok-entries.entries.items c.as_slice-2.result.now c.in-Some.first.now c.in-Some.groups.now c.requires.listed c.in_ok-entries.ensures c.as_slice-2.ensures.value c.in-Some.ensures.cases.0,
)

use Rattle.serde_json.specs.View.{view}
use Rattle.bye_json.proofs.Cells.{no_repeat}
use Rattle.bye_json.proofs.rows.read_row.Goals as goal

pub of_pairs-requires : goal.of_pairs-requires
of_pairs-requires c = no_repeat (view c.args.binding.now) c.args.vars.now c.in_ok-pairs.pairs.items c.requires.once c.in_ok-pairs.ensures.ok

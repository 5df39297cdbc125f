use Rattle.std.proofs.Common.{ap}
use Rattle.bye_member.specs.Searches.{Task}
use Rattle.bye_member.proofs.Viewing.{truth_of}
use Rattle.bye_member.proofs.task.Task.outer_hold.Goals as goal

pub returns : goal.returns
returns c =
    truth_of c.args.self.now c.view.result.names.now c.view.result.graph.now c.view.result.row.now c.self.inside.outer.now c.args.env.now c.outer_hold.result
    (record { names = c.view.ensures.names; graphs = c.view.ensures.graph; rows = c.view.ensures.row }) (ap (λ (task : Task). task.outer) c.self.view_is) c.outer_hold.ensures

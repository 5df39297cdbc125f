use Rattle.bye_member.proofs.Viewing.{has_of}
use Rattle.bye_member.proofs.search.has_values.Goals as goal

pub returns : goal.returns
returns g c =
    has_of c.args.task.now c.view.result.names.now c.view.result.graph.now c.view.result.row.now c.args.conds.now c.args.shapes.now c.args.env.now c.in_ok-copy.copy c.first.new.env c.first.result
    (record { names = c.view.ensures.names; graphs = c.view.ensures.graph; rows = c.view.ensures.row }) c.in_ok-copy.ensures c.first.ensures.first

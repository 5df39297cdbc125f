use Rattle.bye_node.proofs.Cells.{open_bound}
use Rattle.bye_node.proofs.env.Env.bind_cell.Goals as goal

pub returns-in_ok-there-in-None : goal.returns-in_ok-there-in-None
returns-in_ok-there-in-None c = open_bound c.args.self.now c.self.inside.cells.items c.args.i c.args.n c.cell.result c.cell.ensures c.in-None.is c.in_ok-there-in-None.ensures.item.3.0 c.self.view_is

use Rattle.std.proofs.Common.{sym, ◌∙◌, ap}
use Rattle.bye_node.specs.Steps.{value_at}
use Rattle.bye_node.proofs.Decoding.{decode_at, decode_lost}
use Rattle.bye_node.proofs.view.numbered.Goals as goal

pub returns-in-Some : goal.returns-in-Some
returns-in-Some c =
    c.cell_term.ensures ∙ ap (value_at c.args.graph.now.terms) c.cell.ensures ∙ sym (decode_at c.args.names.now c.args.graph.now.terms c.args.env.now c.in-Some.place c.args.var.now c.requires c.in-Some.ensures)

pub returns-in-None : goal.returns-in-None
returns-in-None c = sym (decode_lost c.args.names.now c.args.graph.now.terms c.args.env.now c.args.var.now c.in-None.ensures)

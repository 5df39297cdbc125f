use Rattle.std.proofs.Common.{[], List, IfOk, IsTrue, MatchOption, ◌↔◌, sym, subst}
use Rattle.bye_graph.specs.Graphs.{statements}
use Rattle.bye_table.specs.Mappings.{row_mapping}
use Rattle.bye_pattern.specs.Algebra.{IsAnswer}
use Rattle.bye_pattern.specs.Nodes.{tree_of}
use Rattle.bye_pattern.specs.Trees.{alg}
use Rattle.bye_node.specs.Envs.{Cells}
use Rattle.bye_node.specs.declared.pin.Pin.{Pin}
use Rattle.bye_member.specs.Answers.{Asks, IsNoRow, IsWay, over}
use Rattle.bye_member.specs.Searches.{Task}
use Rattle.bye_member.proofs.Ends.{answer_ways, if_ok, no_answer, tells_no}
use Rattle.bye_member.proofs.answering.has_answer.Goals as goal

pub returns-in_default : goal.returns-in_default
returns-in_default c =
    let g = c.args.graph.now in
    let m = row_mapping c.args.row.now in
    let none : IsNoRow g.terms c.args.names.now c.args.selected.now m =
    subst (λ o. MatchOption o (IsNoRow g.terms c.args.names.now c.args.selected.now m) (λ pins. Asks g.terms c.args.names.now c.args.selected.now m pins.items)) c.in_default.is c.in_ok-pins.ensures in
    tells_no (no_answer c.args.names.now g (tree_of c.args.root.now) c.args.outer.now c.terms-terms.ensures.numbered c.requires.designed c.requires.listed c.args.selected.now m none)

pub returns : goal.returns
returns c =
    let g = c.args.graph.now in
    let m = row_mapping c.args.row.now in
    let t = tree_of c.args.root.now in
    let found : Asks g.terms c.args.names.now c.args.selected.now m c.in-Some.pins.items =
    subst (λ o. MatchOption o (IsNoRow g.terms c.args.names.now c.args.selected.now m) (λ pins. Asks g.terms c.args.names.now c.args.selected.now m pins.items)) c.in-Some.is c.in_ok-pins.ensures in
    let asks = subst (λ (pins : List Pin). Asks g.terms c.args.names.now c.args.selected.now m pins) (sym c.as_slice.ensures.value) found in
    let law = answer_ways c.args.names.now g t c.args.outer.now c.terms-terms.ensures.numbered c.requires.designed c.requires.listed c.args.selected.now m c.as_slice.result.now [] asks in
    let told = subst (λ (task : Task). IfOk c.has_row.result (λ b. IsTrue b ↔ ((y : Cells) × IsWay task t y))) c.new-task.ensures c.has_row.ensures in
    if_ok _ (λ b. IsTrue b ↔ IsAnswer (statements g) c.args.selected.now (alg (over t c.args.outer.now)) m) c.has_row.result (λ b h. ((λ k. law.0 (h.0 k)), (λ k. h.1 (law.1 k)))) told

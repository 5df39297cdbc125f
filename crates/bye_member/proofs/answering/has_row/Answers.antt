use Rattle.std.proofs.Common.{ap, Err, IfOk, IsTrue, ◌↔◌, sym, subst}
use Rattle.bye_node.specs.Envs.{Cells}
use Rattle.bye_pattern.specs.Nodes.{tree_of}
use Rattle.bye_member.specs.Answers.{IsWay}
use Rattle.bye_member.proofs.Ends.{none_way, some_way, tells_no, tells_yes}
use Rattle.bye_member.proofs.answering.has_row.Goals.{in-Ok, in-Err-Full, in-Err-Memory}
use Rattle.bye_member.proofs.answering.has_row.Goals as goal

pub returns : goal.returns
returns c =
    let task = c.args.task.now in
    let t = tree_of c.args.root.now in
    elim c.match-lines.branch [
      | in-Ok w ↦ subst (λ r. IfOk r (λ b. IsTrue b ↔ ((y : Cells) × IsWay task t y))) (sym w.result-is) (tells_no (none_way task t w.in-Ok.field-0.rows w.in-Ok.ensures.whole w.in-Ok.ensures.few))
      | in-Err-Full w ↦ subst (λ r. IfOk r (λ b. IsTrue b ↔ ((y : Cells) × IsWay task t y))) (sym w.result-is) (tells_yes (some_way task t (w.in-Err-Full.ensures.over (ap Err w.in-Err-Full.field-0-is))))
      | in-Err-Memory w ↦ subst (λ r. IfOk r (λ b. IsTrue b ↔ ((y : Cells) × IsWay task t y))) (sym w.result-is) tt
    ]

use Rattle.std.proofs.Common.{ap}
use Rattle.bye_member.specs.Lines.{LinesValue, project}
use Rattle.bye_member.proofs.Storing.{added, stays_once}
use Rattle.bye_member.proofs.lines.Lines.add.Goals as goal

pub invariant_of-self-then-len-self : goal.invariant_of-self-then-len-self
invariant_of-self-then-len-self c = stays_once c.self.inside.set.keys c.insert.new.self.keys c.in_ok-line.line c.in_ok-insert.ensures.keys c.self.invariant

pub returns-then-len-self-clause-full : goal.returns-then-len-self-clause-full
returns-then-len-self-clause-full c = λ _.
    added c.args.self.now.rows c.self.inside.set.keys c.insert.new.self.keys c.in_ok-line.line (project c.args.selected.now c.args.env.now)
    (ap (λ (lines : LinesValue). lines.rows) c.self.view_is) c.in_ok-line.ensures c.in_ok-insert.ensures.keys

pub invariant_of-self-2 : goal.invariant_of-self-2
invariant_of-self-2 c = stays_once c.self.inside.set.keys c.insert.new.self.keys c.in_ok-line.line c.in_ok-insert.ensures.keys c.self.invariant

pub returns-clause-ok : goal.returns-clause-ok
returns-clause-ok c =
    added c.args.self.now.rows c.self.inside.set.keys c.insert.new.self.keys c.in_ok-line.line (project c.args.selected.now c.args.env.now)
    (ap (λ (lines : LinesValue). lines.rows) c.self.view_is) c.in_ok-line.ensures c.in_ok-insert.ensures.keys

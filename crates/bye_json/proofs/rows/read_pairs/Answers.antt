use Rattle.std.proofs.Common.{None, Some, cond, ap, ◌∙◌}
use Rattle.serde_json.specs.View.{view}
use Rattle.bye_json.specs.Answers.{IsNoTerm}
use Rattle.bye_json.specs.Documents.{pairs_of}
use Rattle.bye_json.proofs.Cells.{is_some_of, no_cell, pairs_more}
use Rattle.bye_json.proofs.Steps.{first_at, one_more}
use Rattle.bye_json.proofs.rows.read_pairs.Goals as goal

pub returns-then-not-branch-clause-err : goal.returns-then-not-branch-clause-err
returns-then-not-branch-clause-err c = (
  c.requires.listed,
  first_at (IsNoTerm (view c.args.binding.now)) c.args.vars.now c.loop-i.i c.index-vars-i.result c.loop-i-test.true c.index-vars-i.is
      (is_some_of _ _ c.loop-i.invariant, no_cell _ c.loop-i.pairs.items (c.in_ok-put_cell.ensures ∙ ap (λ b. cond b (Some c.put_cell.new.pairs.items) None) c.if-not-branch.true)),
)

pub loop-i-preserved : goal.loop-i-preserved
loop-i-preserved c =
    ap (λ vars. pairs_of vars (view c.args.binding.now)) (one_more c.args.vars.now c.loop-i.i c.index-vars-i.result c.loop-i-test.true c.index-vars-i.is)
    ∙ pairs_more (view c.args.binding.now) _ c.index-vars-i.result _ _ c.loop-i.invariant (c.in_ok-put_cell.ensures ∙ ap (λ b. cond b (Some c.put_cell.new.pairs.items) None) c.if-not-branch.false)

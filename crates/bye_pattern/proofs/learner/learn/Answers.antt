use Rattle.std.proofs.Common.{◌≡◌, sym, subst}
use Rattle.std.proofs.lemmas.Result.{IfOk-weaker}
use Rattle.bye_table.specs.Tables.{IsTable, TableValue}
use Rattle.bye_pattern.specs.Learning.{IsLearned}
use Rattle.bye_pattern.proofs.learner.learn.Goals as goal

pub returns : goal.returns
returns c =
    let whole : record { vars = c.vars.result.now; rows = c.rows-rows.result.now } ≡ c.args.wanted.now = λ i. record { vars = c.vars.ensures.vars i; rows = c.rows-rows.ensures.rows i } in
    IfOk-weaker c.learn_rows.result _ _
    (λ answer learn triples. subst (λ (t : TableValue). IsLearned c.args.graph.now t answer) whole (learn triples c.in-Some.ensures.cases.0 (subst IsTable (sym whole) c.vars.ensures.table)))
    c.learn_rows.ensures

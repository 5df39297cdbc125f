use Rattle.std.proofs.Common.{subst}
use Rattle.std.proofs.lemmas.Result.{IfOk-weaker}
use Rattle.bye_pattern.specs.Learning.{claim_of, common_query, IsLearned}
use Rattle.bye_pattern.specs.declared.level.Level.TheVariants.{One}
use Rattle.bye_tree.specs.Selects.{select_of}
use Rattle.bye_cli.proofs.Learned.{query_written, refusal_written}
use Rattle.bye_cli.proofs.learning.written.Goals as goal

pub select_of-select-requires : goal.select_of-select-requires
select_of-select-requires c =
    let query = common_query c.in-Query.query.vars.items c.in-Query.query.triples.items in
    let learned = subst (IsLearned c.args.graph.now c.args.wanted.now) c.in-Query.is (c.in_ok-query.ensures c.requires.triples) in
    c.read_as_selects.ensures.conjunction One query learned.in_class.in_class

pub returns-in_ok-bytes-in-Query : goal.returns-in_ok-bytes-in-Query
returns-in_ok-bytes-in-Query c =
    let query = common_query c.in-Query.query.vars.items c.in-Query.query.triples.items in
    let learned = subst (IsLearned c.args.graph.now c.args.wanted.now) c.in-Query.is (c.in_ok-query.ensures c.requires.triples) in
    query_written c.args.graph.now c.args.wanted.now query (select_of c.select_of-select.result) c.in_ok-bytes-in-Query.bytes.items learned c.select_of-select.ensures
    c.in_ok-bytes-in-Query.ensures.text c.in_ok-bytes-in-Query.ensures.read

pub returns-in_ok-text-in-Refused : goal.returns-in_ok-text-in-Refused
returns-in_ok-text-in-Refused c =
    let refused = subst (IsLearned c.args.graph.now c.args.wanted.now) c.in-Refused.is (c.in_ok-query.ensures c.requires.triples) in
    IfOk-weaker c.text_answer.result _ _
    (λ answer said. refusal_written c.args.graph.now c.args.wanted.now (claim_of c.in-Refused.claim) c.in_ok-text-in-Refused.text answer.ending answer.bytes.items refused c.in_ok-text-in-Refused.ensures said)
    c.text_answer.ensures

use Rattle.bye_query.proofs.Coming.{comes}
use Rattle.bye_query.proofs.query.read_query.Goals as goal

pub returns-clause-comes : goal.returns-clause-comes
returns-clause-comes c q document =
    comes c.splits_one_way.ensures c.documents_have_one_value.ensures c.documents_are_fronts.ensures c.fronts_are_closed.ensures c.broken_or_designed_early.ensures c.args.bytes.now q document
    c.answer.result c.answer.ensures.ok c.answer.ensures.cause

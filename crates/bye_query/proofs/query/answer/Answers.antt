use Rattle.std.proofs.Common.{sym, subst}
use Rattle.bye_tree.specs.Written.{written_of}
use Rattle.bye_query.specs.Refusals.{IsRefusal}
use Rattle.bye_query.proofs.Selects.{document, refused}
use Rattle.bye_query.proofs.query.answer.Goals as goal

pub returns-in-Ok-gather-clause-ok : goal.returns-in-Ok-gather-clause-ok
returns-in-Ok-gather-clause-ok c =
    document c.args.bytes.now (written_of c.in-Ok.query) c.in-Ok-gather.select c.in-Ok.ensures.ok c.in-Ok-gather.ensures.ok c.in-Ok-gather.ensures.designed c.in-Ok-gather.ensures.whole

pub returns-in-Err-gather-clause-cause : goal.returns-in-Err-gather-clause-cause
returns-in-Err-gather-clause-cause c =
    subst (IsRefusal c.args.bytes.now) (sym c.refusal.ensures) (refused c.args.bytes.now (written_of c.in-Ok.query) c.in-Err-gather.error c.in-Ok.ensures.ok c.in-Err-gather.ensures.cause)

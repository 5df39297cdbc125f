use Rattle.std.proofs.Common.{rules, ◌≤◌, length, sym, subst}
use Rattle.bye_query.specs.Refusals.{max_bytes, IsRefusal}
use Rattle.bye_query.proofs.Texts.{read_as, refused}
use Rattle.bye_query.proofs.written.read_bytes.Goals as goal

pub returns-in-Ok-read_written-clause-ok : goal.returns-in-Ok-read_written-clause-ok
returns-in-Ok-read_written-clause-ok c =
    let short : length c.args.bytes.now ≤ max_bytes = search rules in
    read_as c.splits_one_way.ensures c.args.bytes.now short c.in-Ok.ensures.cases.1 c.documents_are_valid.ensures c.in-Ok.text.now c.in-Ok-read_written.query c.in-Ok.ensures.cases.0 c.in-Ok-read_written.ensures

pub returns-in-Err-read_written-clause-cause : goal.returns-in-Err-read_written-clause-cause
returns-in-Err-read_written-clause-cause c =
    let short : length c.args.bytes.now ≤ max_bytes = search rules in
    subst (IsRefusal c.args.bytes.now) (sym c.refusal.ensures)
    (refused c.splits_one_way.ensures c.args.bytes.now short c.in-Ok.ensures.cases.1 c.in-Ok.text.now c.in-Err-read_written.stopped c.in-Ok.ensures.cases.0 c.in-Err-read_written.ensures)

use Rattle.std.proofs.Common.{◌≡◌, refl, ◌≤◌, length, inr, Ok, Err, ⊎_elim, sym, subst}
use Rattle.bye_tree.specs.Selects.{select_of}
use Rattle.bye_cli.specs.Causes.{IsUnfit}
use Rattle.bye_cli.specs.Documents.{OfQuery, query_verdict}
use Rattle.bye_cli.proofs.Unread.{unfit_verdict}
use Rattle.bye_cli.proofs.query_reader.QueryReaderReader.read.Goals as goal

pub returns-in-Ok-clause-good : goal.returns-in-Ok-clause-good
returns-in-Ok-clause-good c = inr (c.requires, (Ok (select_of c.in-Ok.select), c.in-Ok.ensures.ok, refl))

pub returns-in-Err-clause-unfit : goal.returns-in-Err-clause-unfit
returns-in-Err-clause-unfit c =
    ⊎_elim
    (λ memory. subst (IsUnfit OfQuery c.args.bytes.now) (sym memory) tt)
    (λ told. unfit_verdict OfQuery c.args.bytes.now (query_verdict (Err c.in-Err.error)) c.no_query.result told c.requires (λ v e. (Err c.in-Err.error, c.in-Err.ensures.cause, e)))
    c.no_query.ensures

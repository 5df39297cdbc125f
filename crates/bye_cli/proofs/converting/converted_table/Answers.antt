use Rattle.std.proofs.Common.{refl, inl, arith}
use Rattle.std.proofs.lemmas.Result.{err_from_is_err_and}
use Rattle.bye_cli.specs.Documents.{OfTable}
use Rattle.bye_cli.specs.Words.{ConvertTable}
use Rattle.bye_words.specs.declared.role.Role.TheVariants.{Table}
use Rattle.bye_cli.proofs.Unread.{reached_unread}
use Rattle.bye_cli.proofs.converting.converted_table.Goals as goal

pub returns-in_err-table-clause-cause : goal.returns-in_err-table-clause-cause
returns-in_err-table-clause-cause g c = let p = err_from_is_err_and c.from_residual.result c.from_residual.ensures.1 in
    rw (p.1, p.2) (λ words is. reached_unread _ words (ConvertTable c.args.name.now c.args.from c.args.to) (OfTable Table c.args.from, c.args.name.now) _ _ _ c.in_err-table.field-0.0 is (inl refl) (omega arith)
    c.in_err-table.ensures.unread)

pub returns-in_err-bytes-clause-cause : goal.returns-in_err-bytes-clause-cause
returns-in_err-bytes-clause-cause g c = let p = err_from_is_err_and c.from_residual-in_err-bytes.result c.from_residual-in_err-bytes.ensures.1 in
    rw (p.1, p.2) (λ words is. (ConvertTable c.args.name.now c.args.from c.args.to, is))

use Rattle.std.proofs.Common.{Err, subst}
use Rattle.bye_tsv.specs.Answers.{IsFault}
use Rattle.bye_tsv.specs.declared.fault.Bounds.{Bounds}
use Rattle.bye_cli.specs.Documents.{OfTable, tsv_verdict}
use Rattle.bye_cli.specs.declared.table_form.TableForm.TheVariants.{Tsv}
use Rattle.bye_cli.proofs.Unread.{unfit_verdict}
use Rattle.bye_cli.proofs.table_reader.tsv_table.Goals as goal

pub returns-in-Err-clause-unfit : goal.returns-in-Err-clause-unfit
returns-in-Err-clause-unfit c =
    unfit_verdict (OfTable c.args.role Tsv) c.args.bytes.now (tsv_verdict (Err c.in-Err.err)) c.no_tsv.result c.no_tsv.ensures c.requires (λ v e. (Err c.in-Err.err, subst (λ (bounds : Bounds). IsFault bounds c.args.bytes.now c.in-Err.err) c.bounds.ensures c.in-Err.ensures.fault, e))

use Rattle.std.proofs.Common.{sym, subst, ◌∙◌}
use Rattle.bye_io.specs.Counts.{Rose}
use Rattle.bye_cli.specs.Messages.{IsMessage}
use Rattle.bye_words.specs.declared.status.Status.{Status}
use Rattle.bye_cli.proofs.Exclusive.{Faults, Past, Missing, Bare, Crowded}
use Rattle.bye_cli.proofs.Settled.{Run, words_alone, settled, answered, headline, conversion, running, is_done, is_document, is_limit, is_refused, is_write_fault, message}
use Rattle.bye_cli.proofs.program.run_program.Given.{Over}
use Rattle.bye_cli.proofs.program.run_program.Goals as goal

run_of : (g : Over) (c : goal.After-report g)
    → Run (g.F.Folder.files c.args.folder.now) c.args.words.now (g.F.Source.faults c.args.folder.now) (g.F.Source.faults c.perform-outcome.new.folder)
    (g.S.Sink.faults c.args.out.now) (g.S.Sink.faults c.perform-outcome.new.out) (g.S.Sink.sent c.args.out.now) (g.S.Sink.sent c.perform-outcome.new.out) c.perform-outcome.result
run_of g c = record {
  done = c.perform-outcome.ensures.done;
  refused = c.perform-outcome.ensures.refused;
  write_fault = c.perform-outcome.ensures.write_fault;
  write_rose = c.perform-outcome.ensures.write_rose;
  failed = c.perform-outcome.ensures.failed;
}

pub returns-clause-headline : goal.returns-clause-headline
returns-clause-headline g c = headline _ _ _ _ _ _ _ _ c.perform-outcome.result (run_of g c) c.report.result c.report.ensures.status

pub returns-clause-converted : goal.returns-clause-converted
returns-clause-converted g c = conversion _ _ _ _ _ _ _ _ c.perform-outcome.result (run_of g c) c.report.result c.report.ensures.status

pub returns-clause-ran : goal.returns-clause-ran
returns-clause-ran g c = running _ _ _ _ _ _ _ _ c.perform-outcome.result (run_of g c) c.report.result c.report.ensures.status

pub returns-clause-err : goal.returns-clause-err
returns-clause-err g c =
    subst
    (λ (status : Status). IsMessage (g.F.Folder.files c.args.folder.now) c.args.words.now (g.F.Source.faults c.args.folder.now) (g.F.Source.faults c.perform-outcome.new.folder) status
    (Rose (g.E.Sink.faults c.args.err.now) (g.E.Sink.faults c.report.new.err)) (g.E.Sink.sent c.args.err.now) (g.E.Sink.sent c.report.new.err))
    (sym c.report.ensures.status)
    (message _ _ _ _ c.perform-outcome.result _ _ _ c.perform-outcome.ensures.failed c.report.ensures.sent)

pub returns-clause-words : goal.returns-clause-words
returns-clause-words g c = words_alone _ _ _ _ _ _ _ _ c.perform-outcome.result (run_of g c) c.report.result c.report.ensures.status

pub returns-clause-done : goal.returns-clause-done
returns-clause-done g c = λ e. c.perform-outcome.ensures.done (is_done c.perform-outcome.result (sym c.report.ensures.status ∙ e))

pub returns-clause-write_fault : goal.returns-clause-write_fault
returns-clause-write_fault g c = λ e. c.perform-outcome.ensures.write_fault (is_write_fault c.perform-outcome.result (sym c.report.ensures.status ∙ e))

pub returns-clause-refused : goal.returns-clause-refused
returns-clause-refused g c = λ e. c.perform-outcome.ensures.refused (is_refused c.perform-outcome.result (sym c.report.ensures.status ∙ e))

pub returns-clause-limit : goal.returns-clause-limit
returns-clause-limit g c = λ e. is_limit _ _ _ _ c.perform-outcome.result c.perform-outcome.ensures.failed (sym c.report.ensures.status ∙ e)

pub returns-clause-document : goal.returns-clause-document
returns-clause-document g c = λ e. is_document _ _ _ _ c.perform-outcome.result c.perform-outcome.ensures.failed (sym c.report.ensures.status ∙ e)

pub returns-clause-faulty : goal.returns-clause-faulty
returns-clause-faulty g c = λ quiet stopped. settled _ _ _ _ _ _ _ _ c.perform-outcome.result (run_of g c) c.report.result c.report.ensures.status quiet Faults stopped

pub returns-clause-too_long : goal.returns-clause-too_long
returns-clause-too_long g c = λ quiet stopped. settled _ _ _ _ _ _ _ _ c.perform-outcome.result (run_of g c) c.report.result c.report.ensures.status quiet Past stopped

pub returns-clause-crowded : goal.returns-clause-crowded
returns-clause-crowded g c = λ quiet crowded. settled _ _ _ _ _ _ _ _ c.perform-outcome.result (run_of g c) c.report.result c.report.ensures.status quiet Crowded crowded

pub returns-clause-missing : goal.returns-clause-missing
returns-clause-missing g c = λ quiet missing. settled _ _ _ _ _ _ _ _ c.perform-outcome.result (run_of g c) c.report.result c.report.ensures.status quiet Missing missing

pub returns-clause-without_row : goal.returns-clause-without_row
returns-clause-without_row g c = λ quiet bare. settled _ _ _ _ _ _ _ _ c.perform-outcome.result (run_of g c) c.report.result c.report.ensures.status quiet Bare bare

pub returns-clause-complete : goal.returns-clause-complete
returns-clause-complete g c = answered _ _ _ _ _ _ _ _ c.perform-outcome.result (run_of g c) c.report.result c.report.ensures.status

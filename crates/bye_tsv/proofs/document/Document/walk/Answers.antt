use Rattle.std.proofs.Common.{◌-◌, [], ◌∷◌, ap}
use Rattle.std.proofs.lemmas.Result.{err_from_is_err_and}
use Rattle.bye_tsv.specs.DocSteps.{walk}
use Rattle.bye_tsv.proofs.DocRuns.{walked_on, within_rest}
use Rattle.bye_tsv.proofs.Steps.{cannot, no_memory}
use Rattle.bye_tsv.proofs.document.Document.walk.Goals as goal

pub returns-in_err-advance-clause-err : goal.returns-in_err-advance-clause-err
returns-in_err-advance-clause-err c =
    let p = err_from_is_err_and c.from_residual.result c.from_residual.ensures.1 in
    rw (p.1, p.2) (cannot c.args.bounds c.loop-c.self c.loop-c.rest c.next.new.self c.in-Some.c (c.args.total - c.len.result) c.args.total c.in_err-advance.field-0.0 _ c.loop-c.invariant.same c.in-Some.ensures c.loop-c.invariant.within
    (ap (λ n. c.args.total - n) c.len.ensures) c.in_err-advance.ensures.err)

pub loop-c-preserved : goal.loop-c-preserved
loop-c-preserved c = record {
  same =
      walked_on c.args.bounds c.loop-c.self c.advance.new.self c.take_run.new.self c.in-Some.c c.loop-c.rest c.next.new.self c.take_run.new.rest (walk c.args.bounds c.args.self.now c.args.rest) c.loop-c.invariant.same c.in-Some.ensures
      c.in_ok-advance.ensures.ok.0 c.in_ok-advance.ensures.ok.1 c.in_ok-take_run.ensures.ok;
  within = c.in_ok-take_run.ensures.ok.within c.args.total (within_rest c.loop-c.rest (c.in-Some.c ∷ []) c.next.new.self c.args.total c.in-Some.ensures c.loop-c.invariant.within);
  sound = c.in_ok-take_run.ensures.ok.sound c.in_ok-advance.ensures.sound;
}

pub returns-in_err-take_run-clause-err : goal.returns-in_err-take_run-clause-err
returns-in_err-take_run-clause-err c =
    let p = err_from_is_err_and c.from_residual-in_err-take_run.result c.from_residual-in_err-take_run.ensures.1 in
    rw (p.1, p.2) (no_memory c.args.total c.in_err-take_run.field-0.0 (walk c.args.bounds c.args.self.now c.args.rest) c.in_err-take_run.ensures.err)

use Rattle.std.proofs.Common.{[], sym, subst}
use Rattle.std.proofs.lemmas.Result.{err_from_is_err_and}
use Rattle.bye_tsv.specs.Feeding.{LedTo}
use Rattle.bye_tsv.specs.Reading.{ReadingAt}
use Rattle.bye_tsv.proofs.Feeds.{begun, refusal_fault}
use Rattle.bye_tsv.proofs.reader.read_tsv.Goals as goal

pub returns-clause-read : goal.returns-clause-read
returns-clause-read c = c.finish.ensures.read c.args.bytes.now (c.in_ok-take_bytes.ensures.ok [] (subst (λ (r : ReadingAt). LedTo c.args.bounds [] r.doc r.place) (sym c.new-reading.ensures) (begun c.args.bounds)))

pub returns-clause-fault : goal.returns-clause-fault
returns-clause-fault c = c.finish.ensures.fault c.args.bytes.now (c.in_ok-take_bytes.ensures.ok [] (subst (λ (r : ReadingAt). LedTo c.args.bounds [] r.doc r.place) (sym c.new-reading.ensures) (begun c.args.bounds)))

pub returns-in_err-take_bytes-clause-fault : goal.returns-in_err-take_bytes-clause-fault
returns-in_err-take_bytes-clause-fault c =
    let p = err_from_is_err_and c.from_residual.result c.from_residual.ensures.1 in
    rw (p.1, p.2) (refusal_fault c.args.bounds c.args.bytes.now c.in_err-take_bytes.field-0.0 (c.in_err-take_bytes.ensures.err [] (subst (λ (r : ReadingAt). LedTo c.args.bounds [] r.doc r.place) (sym c.new-reading.ensures) (begun c.args.bounds))))

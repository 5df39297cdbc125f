use Rattle.std.proofs.Common.{[], sym, subst}
use Rattle.std.proofs.lemmas.Result.{err_from_is_err_and}
use Rattle.bye_ntriples.specs.Feeding.{ReadingAt, LedTo}
use Rattle.bye_ntriples.proofs.Feeds.{begun, refusal_fault}
use Rattle.bye_ntriples.proofs.reader.read_triples.Goals as goal

pub returns-clause-read : goal.returns-clause-read
returns-clause-read c = c.finish.ensures.read c.args.bytes.now (c.in_ok-take_bytes.ensures.ok [] (subst (λ (r : ReadingAt). LedTo [] r.doc r.place) (sym c.new-reading.ensures) begun))

pub returns-clause-fault : goal.returns-clause-fault
returns-clause-fault c = c.finish.ensures.fault c.args.bytes.now (c.in_ok-take_bytes.ensures.ok [] (subst (λ (r : ReadingAt). LedTo [] r.doc r.place) (sym c.new-reading.ensures) begun))

pub returns-in_err-take_bytes-clause-fault : goal.returns-in_err-take_bytes-clause-fault
returns-in_err-take_bytes-clause-fault c =
    let p = err_from_is_err_and c.from_residual.result c.from_residual.ensures.1 in
    rw (p.1, p.2) (refusal_fault c.args.bytes.now c.in_err-take_bytes.field-0.0 (c.in_err-take_bytes.ensures.err [] (subst (λ (r : ReadingAt). LedTo [] r.doc r.place) (sym c.new-reading.ensures) begun)))

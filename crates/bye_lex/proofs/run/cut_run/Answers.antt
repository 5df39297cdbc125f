use Rattle.std.proofs.Common.{refl}
use Rattle.bye_lex.proofs.Runs.{cut, none_cut}
use Rattle.bye_lex.proofs.run.cut_run.Goals as goal

pub returns-in-Some : goal.returns-in-Some
returns-in-Some g c =
    let u = rw c.as_bytes.ensures.value at c.as_bytes.ensures.utf8 in
    let all = rw c.as_bytes.ensures.value at c.run_length.ensures in
    rw c.new.ensures
    (cut g.C.Class.holds g.met.C.Class.wide _ _ _ _ c.run_length.result c.rest-text.ensures u (c.in-Some.ensures.variant.0 refl) all c.in-Some.ensures.front c.in-Some.ensures.back)

pub returns-in-None : goal.returns-in-None
returns-in-None g c = none_cut g.C.Class.holds c.args.rest.now

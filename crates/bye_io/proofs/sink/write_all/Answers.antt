use Rattle.std.proofs.Common.{rules}
use Rattle.bye_io.proofs.Known.{written_more}
use Rattle.bye_io.proofs.sink.write_all.Goals as goal

pub loop-rest-preserved : goal.loop-rest-preserved
loop-rest-preserved g c =
    let w = written_more _ _ _ c.args.bytes.now c.loop-rest.rest.now c.in_ok-n.n c.loop-rest.invariant.within c.loop-rest.invariant.rest c.in_ok-n.ensures.bound c.loop-rest.invariant.part c.in_ok-n.ensures.grown in
    rw c.split_at.ensures.back record {
      part = w.0;
      within = search rules;
      rest = w.1;
      later = search rules;
      doors = search rules;
      aside = search rules;
    }

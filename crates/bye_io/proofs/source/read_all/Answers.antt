use Rattle.std.proofs.Common.{◌+◌, ◌≤◌, length, take, arith}
use Rattle.std.proofs.lemmas.Grind.{common_steps}
use Rattle.bye_io.proofs.Known.{loses_more}
use Rattle.bye_io.proofs.source.read_all.Goals as goal

pub returns-in_err-map_err-clause-taken : goal.returns-in_err-map_err-clause-taken
returns-in_err-map_err-clause-taken g c =
    let room : length c.loop-buf.all.items + length (take c.in-Ok.n c.read.new.buf) ≤ c.args.limit + 1 =
    grind (arith, common_steps, c.read.auto.buf, c.in-Ok.ensures.bound, c.loop-buf.invariant.len, c.loop-buf.invariant.within, c.len.ensures) in
    loses_more _ _ _ _ _ _ c.loop-buf.invariant.part c.in-Ok.ensures.taken room

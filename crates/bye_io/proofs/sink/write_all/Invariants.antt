use Rattle.std.proofs.Common.{◌≡◌, ◌-◌, ◌≤◌, length, take, drop}
use Rattle.std.specs.Io.KnownBytes.{Appends}
use Rattle.bye_io.proofs.sink.write_all.Given as goal

abbrev pub invariant-loop-rest : goal.invariant-loop-rest
invariant-loop-rest g l = record {
  part : Appends (g.S.Sink.sent l.initial.sink) (g.S.Sink.sent l.sink) (take (length l.bytes - length l.rest) l.bytes);
  within : length l.rest ≤ length l.bytes;
  rest : l.rest ≡ drop (length l.bytes - length l.rest) l.bytes;
  later : g.S.Sink.faults l.initial.sink ≤ g.S.Sink.faults l.sink;
  doors : g.S.Sink.doors l.sink ≡ g.S.Sink.doors l.initial.sink;
  aside : g.S.Sink.aside l.sink ≡ g.S.Sink.aside l.initial.sink;
}

abbrev pub decreases-loop-rest : goal.decreases-loop-rest
decreases-loop-rest g l = length l.rest

use Rattle.std.proofs.Common.{◌≡◌, ◌+◌, ◌-◌, ◌≤◌, length, vec_len}
use Rattle.std.specs.Io.KnownBytes.{Consumes}
use Rattle.bye_io.proofs.source.read_all.Given as goal

abbrev pub invariant-loop-buf : goal.invariant-loop-buf
invariant-loop-buf g l = record {
  part : Consumes (g.S.Source.left l.initial.src) (g.S.Source.left l.src) l.all.items;
  within : length l.all.items ≤ l.limit + 1;
  len : vec_len l.all ≡ length l.all.items;
  later : g.S.Source.faults l.initial.src ≤ g.S.Source.faults l.src;
  doors : g.S.Source.doors l.src ≡ g.S.Source.doors l.initial.src;
  aside : g.S.Source.aside l.src ≡ g.S.Source.aside l.initial.src;
}

abbrev pub decreases-loop-buf : goal.decreases-loop-buf
decreases-loop-buf g l = l.limit + 1 - length l.all.items

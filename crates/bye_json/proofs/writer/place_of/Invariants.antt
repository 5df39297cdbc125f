use Rattle.std.proofs.Common.{◌≡◌, ◌++◌, drop, take}
use Rattle.bye_json.specs.Written.{put_var}
use Rattle.bye_json.proofs.writer.place_of.Given as goal

abbrev pub invariant-loop-i : goal.invariant-loop-i
invariant-loop-i l = put_var l.var l.sorted ≡ take l.i l.sorted ++ put_var l.var (drop l.i l.sorted)

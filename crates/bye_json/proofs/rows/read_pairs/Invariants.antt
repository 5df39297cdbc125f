use Rattle.std.proofs.Common.{◌≡◌, Some, take}
use Rattle.serde_json.specs.View.{view}
use Rattle.bye_json.specs.Documents.{pairs_of}
use Rattle.bye_json.proofs.rows.read_pairs.Given as goal

abbrev pub invariant-loop-i : goal.invariant-loop-i
invariant-loop-i l = pairs_of (take l.i l.vars) (view l.binding) ≡ Some l.pairs.items

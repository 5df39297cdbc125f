use Rattle.std.proofs.Common.{◌≡◌, Some, map, take}
use Rattle.serde_json.specs.View.{view}
use Rattle.bye_json.specs.Documents.{row_of}
use Rattle.bye_json.specs.Trees.{collect}
use Rattle.bye_json.proofs.rows.read_rows.Given as goal

abbrev pub invariant-loop-i : goal.invariant-loop-i
invariant-loop-i l = collect (row_of l.vars) (map view (take l.i l.bindings)) ≡ Some l.rows.items

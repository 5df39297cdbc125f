use Rattle.std.proofs.Common.{take, map}
use Rattle.serde_json.specs.View.{view}
use Rattle.bye_json.specs.Documents.{AreNames}
use Rattle.bye_json.proofs.variables.read_vars.Given as goal

abbrev pub invariant-loop-i : goal.invariant-loop-i
invariant-loop-i l = AreNames (map view (take l.i l.values)) l.vars.items

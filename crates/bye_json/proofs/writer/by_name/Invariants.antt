use Rattle.std.proofs.Common.{◌≡◌, drop}
use Rattle.bye_json.specs.Written.{by_name, sorted_onto}
use Rattle.bye_json.proofs.writer.by_name.Given as goal

abbrev pub invariant-loop-var : goal.invariant-loop-var
invariant-loop-var l = sorted_onto l.sorted.items (drop l.var-index l.vars) ≡ by_name l.vars

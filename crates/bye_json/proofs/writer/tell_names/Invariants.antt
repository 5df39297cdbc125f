use Rattle.std.proofs.Common.{take}
use Rattle.std.specs.List.{AllByRecursion}
use Rattle.bye_json.specs.ReadingBack.{IsVariable}
use Rattle.bye_json.proofs.writer.tell_names.Given as goal

abbrev pub invariant-loop-var : goal.invariant-loop-var
invariant-loop-var l = AllByRecursion IsVariable (take l.var-index l.vars)

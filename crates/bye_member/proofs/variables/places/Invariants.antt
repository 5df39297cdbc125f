use Rattle.std.proofs.Common.{take}
use Rattle.bye_member.specs.Answers.{ArePlaces}
use Rattle.bye_member.proofs.variables.places.Given as goal

abbrev pub invariant-loop-var : goal.invariant-loop-var
invariant-loop-var l = ArePlaces l.names (take l.var-index l.vars) l.places.items

use Rattle.std.proofs.Common.{◌≡◌, map, take}
use Rattle.bye_node.specs.Envs.{cell}
use Rattle.bye_member.proofs.lines.Line.of_env.Given as goal

abbrev pub invariant-loop-place : goal.invariant-loop-place
invariant-loop-place l = l.cells.items ≡ map (cell l.env) (take l.place-index l.selected)

use Rattle.bye_member.proofs.Planning.{IsSoFar}
use Rattle.bye_member.proofs.plan.+plan.Given as goal

abbrev pub invariant-loop-child : goal.invariant-loop-child
invariant-loop-child l = IsSoFar l.task.vars l.task.graph.terms l.child-items l.child-index l.rest.items

use Rattle.std.proofs.Common.{◌↔◌, take}
use Rattle.bye_terms.specs.Members.{In}
use Rattle.bye_strongest.specs.Numbers.{MeetsEach, Shape}
use Rattle.bye_strongest.specs.Restrictions.{IsGroup}
use Rattle.bye_strongest.proofs.restrictions.common_shapes.Given as goal

abbrev pub invariant-loop-shape : goal.invariant-loop-shape
invariant-loop-shape g l = record {
  group : IsGroup l.rows l.group;
  kept : (shape : Shape) → In l.out.items shape ↔ (In (take l.shape-index l.shape-items) shape × MeetsEach l.graph.keys l.rows shape);
}

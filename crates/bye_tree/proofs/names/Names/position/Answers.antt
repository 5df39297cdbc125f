use Rattle.std.proofs.Common.{◌≡◌, MatchOption, Some, slice_get, subst}
use Rattle.bye_terms.specs.Members.{In}
use Rattle.bye_tree.proofs.Placing.{placed}
use Rattle.bye_tree.proofs.names.Names.position.Goals as goal

pub returns : goal.returns
returns c =
    subst (λ vs. MatchOption c.get_index_of.result (In vs c.args.var.now → ⊥) (λ place. slice_get vs place ≡ Some c.args.var.now)) c.self.view_is
    (placed c.self.inside.set.keys c.args.var.now c.get_index_of.result c.get_index_of.ensures.index c.get_index_of.ensures.found)

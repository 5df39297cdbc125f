use Rattle.std.proofs.Common.{Some, map, ap, ◌∙◌}
use Rattle.bye_json.proofs.Trees.{items_are}
use Rattle.serde_json.specs.View.{view}
use Rattle.bye_json.proofs.lists.items_of.Goals as goal

pub returns : goal.returns
returns c =
    ap (λ vs. Some (map view vs)) c.as_slice.ensures.value
    ∙ items_are (view c.args.value.now) c.in_ok-items.items.now.items c.in_ok-items.ensures

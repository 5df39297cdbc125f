use Rattle.std.proofs.Common.{Some, option_map, sym, ap, ◌∙◌}
use Rattle.bye_json.specs.Trees.{count}
use Rattle.bye_json.proofs.Trees.{count_view}
use Rattle.bye_json.proofs.term_object.count_of.Goals as goal

pub returns : goal.returns
returns c = ap (λ n. Some n) (c.len.ensures.len ∙ sym (count_view c.in_ok-members.members.now.entries)) ∙ ap (option_map count) c.in_ok-members.ensures

use Rattle.std.proofs.Common.{ap, map, Bor, List}
use Rattle.bye_terms.specs.declared.var.Var.{Var}
use Rattle.bye_tree.specs.Written.{elements_of}
use Rattle.bye_tree.proofs.Elements.{names_seen, root_early, root_late}
use Rattle.bye_tree.proofs.early.check_written.Goals as goal

abbrev names : List (Bor Var) → List Var
names vs = map (λ v. v.now) vs

pub returns-in-Ok-clause-names : goal.returns-in-Ok-clause-names
returns-in-Ok-clause-names c = names_seen (elements_of c.args.elements.now) c.new-seen.result c.check_group.new.seen c.new-seen.ensures c.in-Ok.ensures.seen

pub returns-in-Ok-clause-designed : goal.returns-in-Ok-clause-designed
returns-in-Ok-clause-designed c =
    root_early c.new-none.result (names c.new-above.result.items) c.new-seen.result (elements_of c.args.elements.now) c.new-none.ensures (ap names c.new-above.ensures.items) c.new-seen.ensures c.in-Ok.ensures.designed

pub returns-clause-broken : goal.returns-clause-broken
returns-clause-broken c =
    root_late c.in-Err.error c.turned.result c.new-none.result (names c.new-above.result.items) c.new-seen.result (elements_of c.args.elements.now) c.new-none.ensures (ap names c.new-above.ensures.items) c.new-seen.ensures
    c.in-Err.ensures.broken c.turned.ensures

use Rattle.std.proofs.Common.{List, map, sym, subst}
use Rattle.std.specs.Option.{option_map}
use Rattle.bye_pattern.specs.declared.node.Node.{Node}
use Rattle.bye_pattern.specs.Nodes.{tree_of}
use Rattle.bye_tree.specs.declared.written.Element.{Element}
use Rattle.bye_tree.specs.Exprs.{expr_of}
use Rattle.bye_tree.specs.Gathering.{IsCause, IsRoot, IsSelected, written}
use Rattle.bye_tree.specs.Written.{elements_of, written_of}
use Rattle.bye_tree.proofs.Chosen.{is_select, tree_designed}
use Rattle.bye_tree.proofs.gathers.gather.Goals as goal

pub returns-in-Err-clause-cause : goal.returns-in-Err-clause-cause
returns-in-Err-clause-cause c =
    subst (λ (es : List Element). IsCause (written c.args.query.distinct (option_map (λ vs. vs.items) c.args.query.vars) (elements_of es)) c.in-Err.error) c.as_slice.ensures.value c.in-Err.ensures.cause

pub new-requires-clause-designed : goal.new-requires-clause-designed
new-requires-clause-designed c =
    tree_designed (written_of c.args.query) c.in-Ok.vars.items (tree_of c.in_ok-root.root) (map expr_of c.in_ok-root.outer.items)
    (subst (λ (es : List Element). IsSelected (written c.args.query.distinct (option_map (λ vs. vs.items) c.args.query.vars) (elements_of es)) c.in-Ok.vars.items) c.as_slice.ensures.value c.in-Ok.ensures.ok)
    (c.in_ok-root.ensures (elements_of c.args.query.elements.items) c.in_ok-parts.ensures)

pub of_parts-requires : goal.of_parts-requires
of_parts-requires c =
    is_select (written_of c.args.query) c.in-Ok.vars.items (tree_of c.new.result) (map expr_of c.in_ok-root.outer.items) c.requires.named
    (subst (λ (es : List Element). IsSelected (written c.args.query.distinct (option_map (λ vs. vs.items) c.args.query.vars) (elements_of es)) c.in-Ok.vars.items) c.as_slice.ensures.value c.in-Ok.ensures.ok)
    (subst (λ (n : Node). IsRoot (elements_of c.args.query.elements.items) (tree_of n) (map expr_of c.in_ok-root.outer.items)) (sym c.new.ensures)
    (c.in_ok-root.ensures (elements_of c.args.query.elements.items) c.in_ok-parts.ensures))

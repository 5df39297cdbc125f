use Rattle.std.proofs.Common.{[], ◌∷◌, ◌++◌, map, sym, ◌∙◌, ap}
use Rattle.std.proofs.lemmas.List.{map-append}
use Rattle.bye_pattern.specs.Nodes.{tree_of}
use Rattle.bye_pattern.specs.Written as plain
use Rattle.bye_tree.specs.declared.written.Element.TheFolds.{fold-roll-Element}
use Rattle.bye_tree.specs.declared.written.Element.TheVariants.{rolls-Block, rolls-Filter, rolls-Optional}
use Rattle.bye_tree.specs.declared.written.Element.TheOpen as layer
use Rattle.bye_tree.specs.Exprs.{expr_of}
use Rattle.bye_tree.specs.Written.{element_of, element_step, elements_of}
use Rattle.bye_tree.proofs.Parting.{one_more, with_block, with_filter, with_optional}
use Rattle.bye_tree.proofs.gathers.+parts_of.Goals as goal

pub loop-element-preserved-in-Block : goal.loop-element-preserved-in-Block
loop-element-preserved-in-Block t c =
    with_block (elements_of (c.loop-element.yielded ++ c.in-Some.element ∷ [])) (elements_of c.loop-element.yielded) c.loop-element.triples.items c.append.new.self.items (map expr_of c.loop-element.tests.items)
    (map tree_of c.loop-element.children.items) c.in-Block.patterns.items
    (one_more c.loop-element.yielded c.in-Some.element (plain.Block c.in-Block.patterns.items)
    (ap element_of (c.in-Block.is ∙ sym (rolls-Block c.in-Block.patterns)) ∙ fold-roll-Element plain.Element element_step (layer.Block c.in-Block.patterns)))
    c.loop-element.invariant c.in_ok-append-in-Block.ensures.items

pub loop-element-preserved-in-Filter : goal.loop-element-preserved-in-Filter
loop-element-preserved-in-Filter t c =
    with_filter (elements_of (c.loop-element.yielded ++ c.in-Some.element ∷ [])) (elements_of c.loop-element.yielded) c.loop-element.triples.items (map expr_of c.loop-element.tests.items) (map expr_of c.push_item.new.items.items)
    (map tree_of c.loop-element.children.items) (expr_of c.in-Filter.test)
    (one_more c.loop-element.yielded c.in-Some.element (plain.Filter (expr_of c.in-Filter.test))
    (ap element_of (c.in-Filter.is ∙ sym (rolls-Filter c.in-Filter.test)) ∙ fold-roll-Element plain.Element element_step (layer.Filter c.in-Filter.test)))
    c.loop-element.invariant (ap (map expr_of) c.in_ok-push_item-in-Filter.ensures.ok ∙ map-append expr_of c.loop-element.tests.items (c.in-Filter.test ∷ []))

pub loop-element-preserved : goal.loop-element-preserved
loop-element-preserved t c =
    with_optional (elements_of (c.loop-element.yielded ++ c.in-Some.element ∷ [])) (elements_of c.loop-element.yielded) (elements_of c.in-Optional.group.items) c.loop-element.triples.items
    (map expr_of c.loop-element.tests.items) (map tree_of c.loop-element.children.items) (map tree_of c.push_item-in-Optional.new.items.items) (tree_of c.in_ok-child-in-Optional.child)
    (one_more c.loop-element.yielded c.in-Some.element (plain.Optional (elements_of c.in-Optional.group.items))
    (ap element_of (c.in-Optional.is ∙ sym (rolls-Optional c.in-Optional.group)) ∙ fold-roll-Element plain.Element element_step (layer.Optional c.in-Optional.group)))
    c.loop-element.invariant (c.in_ok-child-in-Optional.ensures (elements_of c.in-Optional.group.items) c.in_ok-parts-in-Optional.ensures)
    (ap (map tree_of) c.in_ok-push_item-in-Optional.ensures.ok ∙ map-append tree_of c.loop-element.children.items (c.in_ok-child-in-Optional.child ∷ []))

use Rattle.std.proofs.Common.{[]}
use Rattle.bye_pattern.specs.Patterns.{all_vars}
use Rattle.bye_pattern.specs.Written.{triples}
use Rattle.bye_tree.specs.Names.{with_names}
use Rattle.bye_tree.specs.Written.{elements_of}
use Rattle.bye_tree.proofs.Elements.{names_on}
use Rattle.bye_tree.proofs.early.block_names.Goals as goal

pub loop-element-preserved : goal.loop-element-preserved
loop-element-preserved c =
    names_on c.args.elements.now c.loop-element.element-index c.element-item.result c.loop-element.names c.insert_block.new.names (with_names [] (all_vars (triples (elements_of c.args.elements.now))))
    c.loop-element-test.true c.element-item.is c.loop-element.invariant c.in_ok-insert_block.ensures

use Rattle.std.proofs.Common.{◌≡◌, ◌++◌, [], codes, ◌∙◌, ap, map}
use Rattle.bye_pattern.specs.Nodes.{tree_of}
use Rattle.bye_pattern.specs.Printed.{tree_lines}
use Rattle.bye_tree.specs.Exprs.{expr_of}
use Rattle.bye_printer.proofs.Children.{child_lines, child_valid, group_lines, group_valid}
use Rattle.bye_printer.proofs.groups.+push_group.Goals as goal

pub loop-child-preserved : goal.loop-child-preserved
loop-child-preserved t c =
    let margin = c.args.margin.now in
    let ns = c.as_slice-child-items.result.now in
    let n = c.child-item.result in
    let deeper : c.push_ascii.new.self ≡ margin ++ codes "  " = c.in_ok-push_ascii.ensures.ok ∙ ap (λ m. m ++ codes "  ") c.in_ok-deeper.ensures in
    record {
      text = child_lines margin c.loop-child.out c.push_ascii-in-loop-child-2.new.self ns c.loop-child.child-index n c.loop-child-test.true c.child-item.is
          (c.in_ok-push_ascii-3.ensures.ok ∙ ap (λ text. text ++ codes "}\n") (c.in_ok-push_text-2.ensures.ok ∙ ap (λ text. text ++ margin)
          (c.in_ok-push_group.ensures.text ∙ (λ i. (c.in_ok-push_ascii-2.ensures.ok ∙ ap (λ text. text ++ codes "OPTIONAL {\n") c.in_ok-push_text.ensures.ok) i ++ tree_lines (deeper i) [] (tree_of n)))))
          ∙ c.loop-child.invariant.text;
      valid = λ rest. c.loop-child.invariant.valid (child_valid ns c.loop-child.child-index n c.loop-child-test.true c.child-item.is c.in_ok-push_group.ensures.valid rest);
    }

pub returns-clause-text : goal.returns-clause-text
returns-clause-text t c =
    group_lines c.args.margin.now c.args.out.now c.push_triples.new.out c.push_conds.new.out c.push_tests.new.out c.loop-child.out (map expr_of c.args.outer.now) c.args.node.now c.as_slice.result.now
    c.as_slice-2.result.now c.as_slice-child-items.result.now c.loop-child.child-index c.as_slice.ensures c.as_slice-2.ensures c.as_slice-child-items.ensures c.loop-child-test.false
    c.in_ok-push_triples.ensures.text c.in_ok-push_conds.ensures.text c.in_ok-push_tests.ensures.text c.loop-child.invariant.text

pub returns-clause-valid : goal.returns-clause-valid
returns-clause-valid t c =
    group_valid c.args.node.now c.as_slice.result.now c.as_slice-2.result.now c.as_slice-child-items.result.now c.loop-child.child-index c.as_slice.ensures c.as_slice-2.ensures c.as_slice-child-items.ensures
    c.loop-child-test.false c.in_ok-push_triples.ensures.valid c.in_ok-push_conds.ensures.valid c.loop-child.invariant.valid

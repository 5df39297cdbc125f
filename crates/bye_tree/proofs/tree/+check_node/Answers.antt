use Rattle.std.proofs.Common.{refl, map, ◌∙◌, ap, length}
use Rattle.bye_pattern.specs.Nodes.{forest_of, tree_of}
use Rattle.bye_pattern.specs.Trees.{forest_vars}
use Rattle.bye_tree.specs.Names.{with_names}
use Rattle.bye_pattern.specs.declared.node.Node.{out-Node}
use Rattle.bye_terms.specs.declared.var.Var.{Var}
use Rattle.std.proofs.Common.{Bor, List}
use Rattle.bye_tree.proofs.Nodes.{cut, designed_node, refused_child, refused_node, seen_all, seen_on, walked_on}
use Rattle.bye_tree.proofs.tree.+check_node.Goals as goal

-- the names of variables
abbrev names : List (Bor Var) → List Var
names vs = map (λ v. v.now) vs

pub returns-in-Err-clause-broken : goal.returns-in-Err-clause-broken
returns-in-Err-clause-broken t c =
    refused_node c.in-Err.error c.args.node.now c.as_slice.result.now c.as_slice-2.result.now (out-Node c.args.node.now).children c.in_ok-names.names c.args.parent.now (names c.args.above.now.items)
    (names c.as_slice-shown.result.now) c.args.seen.now c.is_empty-empty.result c.are_safe-safe.result
    (record {
      triples_are = c.as_slice.ensures;
      conds_are = c.as_slice-2.ensures;
      children_are = refl;
      own_is = c.in_ok-names.ensures;
      safe_is = c.are_safe-safe.ensures;
      empty_is = c.is_empty-empty.ensures;
      shown_is = ap names c.as_slice-shown.ensures.value;
    })
    c.in-Err.ensures.err

pub loop-index-preserved : goal.loop-index-preserved
loop-index-preserved t c =
    let at = c.loop-index.invariant.above_is in
    let seen = c.in_default-check_node.ensures.seen in
    record {
      above_is = c.in_default-check_node.ensures.above ∙ at;
      seen_is = seen_on c.as_slice-children.result.now c.loop-index.index c.index-children-index.result c.loop-index.seen c.check_node.new.seen
          (with_names c.enter.new.seen (forest_vars (forest_of (map tree_of c.as_slice-children.result.now)))) c.loop-index-test.true c.index-children-index.is c.loop-index.invariant.seen_is seen;
      walked = walked_on c.as_slice-children.result.now c.loop-index.index c.index-children-index.result c.in_ok-names.names (names c.enter.new.above.items) c.enter.new.seen c.loop-index.seen
          c.check_node.new.seen (names c.loop-index.above.items) c.loop-index-test.true c.index-children-index.is c.loop-index.invariant.walked at seen c.in_default-check_node.ensures.designed;
    }

pub returns-in-Err-check_node-clause-broken : goal.returns-in-Err-check_node-clause-broken
returns-in-Err-check_node-clause-broken t c =
    refused_child c.in-Err-check_node.error c.under.result c.args.node.now c.index-children-index.result c.loop-index.index c.as_slice.result.now c.as_slice-2.result.now c.as_slice-children.result.now c.in_ok-names.names
    c.args.parent.now (names c.args.above.now.items) (names c.as_slice-shown.result.now) c.args.seen.now (names c.enter.new.above.items) c.enter.new.seen c.loop-index.seen (names c.loop-index.above.items)
    c.is_empty-empty.result c.are_safe-safe.result
    (record {
      triples_are = c.as_slice.ensures;
      conds_are = c.as_slice-2.ensures;
      children_are = c.as_slice-children.ensures;
      own_is = c.in_ok-names.ensures;
      safe_is = c.are_safe-safe.ensures;
      empty_is = c.is_empty-empty.ensures;
      shown_is = ap names c.as_slice-shown.ensures.value;
    })
    c.in_default.ensures.ok c.in_ok-enter.ensures.above c.in_ok-enter.ensures.seen c.loop-index-test.true c.index-children-index.is c.loop-index.invariant.walked c.loop-index.invariant.above_is
    c.in-Err-check_node.ensures.broken c.under.ensures

pub returns-clause-above : goal.returns-clause-above
returns-clause-above t c = cut (λ (v : Bor Var). v.now) c.truncate.new.self.items c.args.above.now.items c.loop-index.above.items (length c.as_slice-shown.result.now) c.in_ok-names.names
    c.truncate.ensures.items (ap length c.as_slice-shown.ensures.value) (c.loop-index.invariant.above_is ∙ c.in_ok-enter.ensures.above)

pub returns-clause-seen : goal.returns-clause-seen
returns-clause-seen t c =
    seen_all c.args.node.now c.loop-index.index c.as_slice.result.now c.as_slice-2.result.now c.as_slice-children.result.now c.in_ok-names.names c.args.parent.now (names c.args.above.now.items)
    (names c.as_slice-shown.result.now) c.args.seen.now c.enter.new.seen c.loop-index.seen c.is_empty-empty.result c.are_safe-safe.result
    (record {
      triples_are = c.as_slice.ensures;
      conds_are = c.as_slice-2.ensures;
      children_are = c.as_slice-children.ensures;
      own_is = c.in_ok-names.ensures;
      safe_is = c.are_safe-safe.ensures;
      empty_is = c.is_empty-empty.ensures;
      shown_is = ap names c.as_slice-shown.ensures.value;
    })
    c.in_ok-enter.ensures.seen c.loop-index-test.false c.loop-index.invariant.seen_is

pub returns-clause-designed : goal.returns-clause-designed
returns-clause-designed t c =
    designed_node c.args.node.now c.loop-index.index c.as_slice.result.now c.as_slice-2.result.now c.as_slice-children.result.now c.in_ok-names.names c.args.parent.now (names c.args.above.now.items)
    (names c.as_slice-shown.result.now) c.args.seen.now (names c.enter.new.above.items) c.enter.new.seen c.loop-index.seen c.is_empty-empty.result c.are_safe-safe.result
    (record {
      triples_are = c.as_slice.ensures;
      conds_are = c.as_slice-2.ensures;
      children_are = c.as_slice-children.ensures;
      own_is = c.in_ok-names.ensures;
      safe_is = c.are_safe-safe.ensures;
      empty_is = c.is_empty-empty.ensures;
      shown_is = ap names c.as_slice-shown.ensures.value;
    })
    c.in_default.ensures.ok c.in_ok-enter.ensures.above c.in_ok-enter.ensures.seen c.loop-index-test.false c.loop-index.invariant.walked

use Rattle.std.proofs.Common.{◌+◌, drop, map, sym, ◌∙◌, ap, length, Bor, List, arith}
use Rattle.bye_terms.specs.declared.var.Var.{Var}
use Rattle.bye_pattern.specs.Patterns.{all_vars}
use Rattle.bye_pattern.specs.Trees.{forest_vars, tree_vars}
use Rattle.bye_pattern.specs.Written as plain
use Rattle.bye_pattern.specs.Gathered.{optionals}
use Rattle.bye_tree.specs.Exprs.{expr_of}
use Rattle.bye_tree.specs.Names.{with_names}
use Rattle.bye_tree.specs.Written.{element_of, element_step, elements_of}
use Rattle.bye_tree.specs.declared.written.Element.TheFolds.{fold-roll-Element}
use Rattle.bye_tree.specs.declared.written.Element.TheVariants.{rolls-Block, rolls-Filter, rolls-Optional}
use Rattle.bye_tree.specs.declared.written.Element.TheOpen as layer
use Rattle.bye_tree.proofs.Elements.{at_element, block_optionals, block_walked, designed_group, filter_optionals, filter_walked, no_rest, optional_seen, optional_walked, refused_group, refused_optional, seen_group}
use Rattle.bye_tree.proofs.Nodes.{cut}
use Rattle.bye_tree.proofs.early.+check_group.Goals as goal

-- the names of variables
abbrev names : List (Bor Var) → List Var
names vs = map (λ v. v.now) vs

pub returns-in-Err-clause-broken : goal.returns-in-Err-clause-broken
returns-in-Err-clause-broken t c =
    refused_group c.in-Err.error (elements_of c.args.elements.now) c.in_ok-names.names c.args.parent.now (names c.args.above.now.items) (names c.as_slice-shown.result.now) c.args.seen.now c.args.root c.has_no_triples-empty.result c.may_be_safe-safe.result c.in_ok-names.ensures c.may_be_safe-safe.ensures c.has_no_triples-empty.ensures (ap names c.as_slice-shown.ensures.value)
    c.in-Err.ensures.err

pub loop-element-preserved-in-Block : goal.loop-element-preserved-in-Block
loop-element-preserved-in-Block t c =
    let here = (at_element c.args.elements.now c.loop-element.element-index c.element-item.result (plain.Block c.in-Block.patterns.items) c.loop-element-test.true c.element-item.is (ap element_of (c.in-Block.is ∙ sym (rolls-Block c.in-Block.patterns)) ∙ fold-roll-Element plain.Element element_step (layer.Block c.in-Block.patterns))) in
    record {
      few = omega (arith, c.loop-element.invariant.few);
      above_is = c.loop-element.invariant.above_is;
      seen_is = block_optionals (elements_of (drop (c.loop-element.element-index + 1) c.args.elements.now)) (elements_of (drop c.loop-element.element-index c.args.elements.now)) c.in-Block.patterns.items c.loop-element.seen (with_names c.enter.new.seen (forest_vars (optionals (elements_of c.args.elements.now)))) here c.loop-element.invariant.seen_is;
      walked = block_walked (elements_of c.args.elements.now) (elements_of (drop (c.loop-element.element-index + 1) c.args.elements.now)) (elements_of (drop c.loop-element.element-index c.args.elements.now)) c.in-Block.patterns.items (c.loop-element.number + 1) (names c.enter.new.above.items) c.enter.new.seen c.loop-element.early c.insert_triples.new.self c.loop-element.seen here
          c.loop-element.invariant.walked (c.in_ok-insert_triples-in-Block.ensures ∙ ap (λ ps. with_names c.loop-element.early (all_vars ps)) c.as_slice.ensures.value);
    }

pub loop-element-preserved-in-Filter : goal.loop-element-preserved-in-Filter
loop-element-preserved-in-Filter t c =
    let here = (at_element c.args.elements.now c.loop-element.element-index c.element-item.result (plain.Filter (expr_of c.in-Filter.field-0)) c.loop-element-test.true c.element-item.is (ap element_of (c.in-Filter.is ∙ sym (rolls-Filter c.in-Filter.field-0)) ∙ fold-roll-Element plain.Element element_step (layer.Filter c.in-Filter.field-0))) in
    record {
      few = omega (arith, c.loop-element.invariant.few);
      above_is = c.loop-element.invariant.above_is;
      seen_is = filter_optionals (elements_of (drop (c.loop-element.element-index + 1) c.args.elements.now)) (elements_of (drop c.loop-element.element-index c.args.elements.now)) (expr_of c.in-Filter.field-0) c.loop-element.seen (with_names c.enter.new.seen (forest_vars (optionals (elements_of c.args.elements.now)))) here c.loop-element.invariant.seen_is;
      walked = filter_walked (elements_of c.args.elements.now) (elements_of (drop (c.loop-element.element-index + 1) c.args.elements.now)) (elements_of (drop c.loop-element.element-index c.args.elements.now)) (expr_of c.in-Filter.field-0) (c.loop-element.number + 1) (names c.enter.new.above.items) c.enter.new.seen c.loop-element.early c.loop-element.seen here c.loop-element.invariant.walked;
    }

pub loop-element-preserved : goal.loop-element-preserved
loop-element-preserved t c =
    let slice = c.as_slice-group.ensures.value in
    let here = (at_element c.args.elements.now c.loop-element.element-index c.element-item.result (plain.Optional (elements_of c.as_slice-group.result.now)) c.loop-element-test.true c.element-item.is (ap element_of (c.in-Optional.is ∙ sym (rolls-Optional c.in-Optional.group)) ∙ fold-roll-Element plain.Element element_step (layer.Optional c.in-Optional.group) ∙ ap (λ es. plain.Optional (elements_of es)) (sym slice))) in
    record {
      few = omega (arith, c.loop-element.invariant.few);
      above_is = c.in_default-check_group.ensures.above ∙ c.loop-element.invariant.above_is;
      seen_is = optional_seen (elements_of c.as_slice-group.result.now) (elements_of (drop (c.loop-element.element-index + 1) c.args.elements.now)) (elements_of (drop c.loop-element.element-index c.args.elements.now)) c.loop-element.seen c.check_group.new.seen (with_names c.enter.new.seen (forest_vars (optionals (elements_of c.args.elements.now)))) here c.loop-element.invariant.seen_is c.in_default-check_group.ensures.seen;
      walked = optional_walked (elements_of c.as_slice-group.result.now) (elements_of c.args.elements.now) (elements_of (drop (c.loop-element.element-index + 1) c.args.elements.now)) (elements_of (drop c.loop-element.element-index c.args.elements.now)) (c.loop-element.number + 1) (names c.enter.new.above.items) c.enter.new.seen c.loop-element.early c.loop-element.seen c.check_group.new.seen
          (names c.loop-element.above.items) here c.loop-element.invariant.walked c.loop-element.invariant.above_is c.in_default-check_group.ensures.seen c.in_default-check_group.ensures.designed;
    }

pub returns-in-Err-check_group-clause-broken : goal.returns-in-Err-check_group-clause-broken
returns-in-Err-check_group-clause-broken t c =
    let slice = c.as_slice-group.ensures.value in
    let here = (at_element c.args.elements.now c.loop-element.element-index c.element-item.result (plain.Optional (elements_of c.as_slice-group.result.now)) c.loop-element-test.true c.element-item.is (ap element_of (c.in-Optional.is ∙ sym (rolls-Optional c.in-Optional.group)) ∙ fold-roll-Element plain.Element element_step (layer.Optional c.in-Optional.group) ∙ ap (λ es. plain.Optional (elements_of es)) (sym slice))) in
    refused_optional c.in-Err-check_group.error c.under.result (elements_of c.args.elements.now) (elements_of c.as_slice-group.result.now) (elements_of (drop (c.loop-element.element-index + 1) c.args.elements.now)) (elements_of (drop c.loop-element.element-index c.args.elements.now)) c.loop-element.number c.in_ok-names.names c.args.parent.now (names c.args.above.now.items) (names c.as_slice-shown.result.now) (names c.enter.new.above.items) c.args.seen.now
    c.enter.new.seen c.loop-element.early c.loop-element.seen (names c.loop-element.above.items) c.args.root c.has_no_triples-empty.result c.may_be_safe-safe.result
    (record {
      own_is = c.in_ok-names.ensures;
      safe_is = c.may_be_safe-safe.ensures;
      empty_is = c.has_no_triples-empty.ensures;
      shown_is = ap names c.as_slice-shown.ensures.value;
      verdict = c.in_default.ensures.ok;
      entered_is = c.in_ok-enter.ensures.above;
      start_is = c.in_ok-enter.ensures.seen;
    })
    here c.loop-element.invariant.walked c.loop-element.invariant.above_is c.in-Err-check_group.ensures.broken c.under.ensures

pub returns-clause-above : goal.returns-clause-above
returns-clause-above t c = cut (λ (v : Bor Var). v.now) c.truncate.new.self.items c.args.above.now.items c.loop-element.above.items (length c.as_slice-shown.result.now) c.in_ok-names.names
    c.truncate.ensures.items (ap length c.as_slice-shown.ensures.value) (c.loop-element.invariant.above_is ∙ c.in_ok-enter.ensures.above)

pub returns-clause-seen : goal.returns-clause-seen
returns-clause-seen t c =
    seen_group (elements_of c.args.elements.now) (elements_of (drop c.loop-element.element-index c.args.elements.now)) c.in_ok-names.names c.args.parent.now (names c.args.above.now.items) (names c.as_slice-shown.result.now) (names c.enter.new.above.items) c.args.seen.now c.enter.new.seen c.loop-element.seen c.args.root c.has_no_triples-empty.result c.may_be_safe-safe.result
    (record {
      own_is = c.in_ok-names.ensures;
      safe_is = c.may_be_safe-safe.ensures;
      empty_is = c.has_no_triples-empty.ensures;
      shown_is = ap names c.as_slice-shown.ensures.value;
      verdict = c.in_default.ensures.ok;
      entered_is = c.in_ok-enter.ensures.above;
      start_is = c.in_ok-enter.ensures.seen;
    })
    (no_rest c.args.elements.now c.loop-element.element-index c.loop-element-test.false) c.loop-element.invariant.seen_is

pub returns-clause-designed : goal.returns-clause-designed
returns-clause-designed t c =
    designed_group (elements_of c.args.elements.now) (elements_of (drop c.loop-element.element-index c.args.elements.now)) (c.loop-element.number + 1) c.in_ok-names.names c.args.parent.now (names c.args.above.now.items) (names c.as_slice-shown.result.now) (names c.enter.new.above.items) c.args.seen.now c.enter.new.seen c.loop-element.early c.loop-element.seen c.args.root c.has_no_triples-empty.result c.may_be_safe-safe.result
    (record {
      own_is = c.in_ok-names.ensures;
      safe_is = c.may_be_safe-safe.ensures;
      empty_is = c.has_no_triples-empty.ensures;
      shown_is = ap names c.as_slice-shown.ensures.value;
      verdict = c.in_default.ensures.ok;
      entered_is = c.in_ok-enter.ensures.above;
      start_is = c.in_ok-enter.ensures.seen;
    })
    (no_rest c.args.elements.now c.loop-element.element-index c.loop-element-test.false) c.loop-element.invariant.walked

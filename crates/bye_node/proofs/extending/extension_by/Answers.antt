use Rattle.std.proofs.Common.{refl}
use Rattle.bye_pattern.specs.Patterns.{all_vars}
use Rattle.bye_pattern.specs.declared.node.Node.{out-Node}
use Rattle.bye_node.proofs.Values.{lost_node, match_none, match_some, names_once, none_node, some_node, values_once}
use Rattle.bye_node.proofs.extending.extension_by.Goals as goal

pub returns-in_default : goal.returns-in_default
returns-in_default g c =
    lost_node c.args.graph.now c.args.node.now c.args.row.now c.listed.result.now c.as_slice-patterns.result.now (out-Node c.args.node.now).conds c.new-names.result c.insert_triples.new.self c.terms-count.ensures.numbered
    (record { triples = c.as_slice-patterns.ensures; conds = refl; pairs = c.listed.ensures.pairs; empty = c.new-names.ensures; names = c.in_ok-insert_triples.ensures })
    (match_none _ _ c.in_ok-list.field-0 c.in_default.is c.in_ok-list.ensures)

pub first-requires : goal.first-requires
first-requires g c = names_once c.insert_triples.new.self c.new-names.result (all_vars c.as_slice-patterns.result.now) c.new-names.ensures c.in_ok-insert_triples.ensures

pub of_pairs-requires : goal.of_pairs-requires
of_pairs-requires g c =
    values_once c.insert_triples.new.self c.new-names.result (all_vars c.as_slice-patterns.result.now) c.args.graph.now.terms c.first.new.env c.in_ok-values.values.items c.new-names.ensures c.in_ok-insert_triples.ensures c.in_ok-values.ensures

pub returns-then-first : goal.returns-then-first
returns-then-first g c =
    some_node c.args.graph.now c.args.node.now c.args.row.now c.listed.result.now c.as_slice-patterns.result.now c.as_slice-conds.result.now c.new-names.result c.insert_triples.new.self c.as_slice.result.now c.in-Some.list.items
    c.as_mut_slice.result.now c.in_ok-env.env c.first.new.env c.first.result c.in_ok-values.values.items c.of_pairs.result c.terms-count.ensures.numbered
    (record { triples = c.as_slice-patterns.ensures; conds = c.as_slice-conds.ensures; pairs = c.listed.ensures.pairs; empty = c.new-names.ensures; names = c.in_ok-insert_triples.ensures })
    (match_some _ _ c.in_ok-list.field-0 c.in-Some.list c.in-Some.is c.in_ok-list.ensures) c.as_mut_slice.ensures.value c.in_ok-env.ensures c.as_slice.ensures c.if-first.true c.first.ensures.first c.in_ok-values.ensures c.of_pairs.ensures

pub returns : goal.returns
returns g c =
    none_node c.args.graph.now c.args.node.now c.args.row.now c.listed.result.now c.as_slice-patterns.result.now c.as_slice-conds.result.now c.new-names.result c.insert_triples.new.self c.as_slice.result.now c.in-Some.list.items
    c.as_mut_slice.result.now c.in_ok-env.env c.first.new.env c.first.result c.terms-count.ensures.numbered
    (record { triples = c.as_slice-patterns.ensures; conds = c.as_slice-conds.ensures; pairs = c.listed.ensures.pairs; empty = c.new-names.ensures; names = c.in_ok-insert_triples.ensures })
    (match_some _ _ c.in_ok-list.field-0 c.in-Some.list c.in-Some.is c.in_ok-list.ensures) c.as_mut_slice.ensures.value c.in_ok-env.ensures c.as_slice.ensures c.if-first.false c.first.ensures.first

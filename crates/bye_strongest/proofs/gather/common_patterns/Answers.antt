use Rattle.std.proofs.Common.{◌↔◌, ◌∙◌, ap, subst}
use Rattle.std.specs.List.{flat_map}
use Rattle.bye_terms.specs.Members.{In}
use Rattle.bye_strongest.specs.Numbers.{MeetsEach}
use Rattle.bye_strongest.specs.Patterns.{patterns_of}
use Rattle.bye_strongest.proofs.Whole.{found_common, some_numbered}
use Rattle.bye_strongest.proofs.gather.common_patterns.Goals as goal

pub fewest-requires : goal.fewest-requires
fewest-requires g c =
    some_numbered c.args.graph.now.terms c.args.vars.now c.args.rows.now c.in_ok-numbered.numbered.items c.as_slice.result.now c.in_ok-numbered.ensures c.as_slice.ensures.value c.requires.rows

pub returns-clause-common : goal.returns-clause-common
returns-clause-common g c =
    found_common c.args.graph.now c.args.vars.now c.args.rows.now c.in_ok-numbered.numbered.items c.in_ok-row.row.now c.in_ok-shapes.shapes.items c.in_ok-common.common.items c.in_ok-patterns.patterns.items c.in_ok-triples.triples.items
    (record {
      good = c.terms-count.ensures.numbered;
      numbered = c.in_ok-numbered.ensures;
      there = subst (λ es. In es c.in_ok-row.row.now) c.as_slice.ensures.value c.in_ok-row.ensures;
      candidates = c.in_ok-shapes.ensures;
      common = λ shape.
          subst (λ es. In c.in_ok-common.common.items shape ↔ (In c.in_ok-shapes.shapes.items shape × MeetsEach c.args.graph.now.keys es shape)) c.as_slice-2.ensures.value (c.in_ok-common.ensures shape);
      patterns = c.in_ok-patterns.ensures ∙ ap (flat_map (patterns_of c.args.vars.now c.args.graph.now.terms)) c.as_slice-3.ensures.value;
      same = c.in_ok-triples.ensures.same;
    })

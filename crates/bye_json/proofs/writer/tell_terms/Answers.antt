use Rattle.std.proofs.Common.{[], ◌∷◌, sym, subst, take}
use Rattle.bye_terms.specs.Valid.{IsRdfTerm}
use Rattle.bye_terms.proofs.Lists.{all_join}
use Rattle.bye_json.specs.ReadingBack.{HasTerms}
use Rattle.bye_json.proofs.Steps.{one_more}
use Rattle.bye_json.proofs.writer.tell_terms.Goals as goal

pub loop-pair-preserved : goal.loop-pair-preserved
loop-pair-preserved c =
    let pairs = c.listed-pair-items.result.now in
    let pair = c.pair-item.result in
    subst HasTerms (sym (one_more pairs c.loop-pair.pair-index pair c.loop-pair-test.true c.pair-item.is))
    (all_join (λ e. IsRdfTerm e.1) (take c.loop-pair.pair-index pairs) (pair ∷ []) c.loop-pair.invariant (c.as_rdf-term.ensures.valid, tt))

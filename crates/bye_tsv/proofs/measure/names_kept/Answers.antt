use Rattle.std.proofs.Common.{◌∙◌, ap, arith}
use Rattle.std.proofs.lemmas.List.Sums.{sum_by_more_le}
use Rattle.bye_lex.specs.Kept.{size}
use Rattle.bye_tsv.proofs.measure.names_kept.Goals as goal

pub overflow_add-total : goal.overflow_add-total
overflow_add-total c =
    let more = sum_by_more_le size c.args.names.now c.loop-name.name-index c.name-item.result c.loop-name-test.true in
    let total = c.loop-name.invariant in
    let own = c.size-total.ensures ∙ ap size (c.name.ensures.text ∙ c.name-item.is) in
    omega (arith, more, total, own, c.requires)

use Rattle.std.proofs.Common.{[], map, ◌∙◌, ap, subst}
use Rattle.std.specs.List.Sorted.{IsPermutation}
use Rattle.std.proofs.lemmas.List.Sorted.{IsPermutation-map}
use Rattle.std.proofs.lemmas.Result.{IfOk-weaker}
use Rattle.bye_ntriples.specs.Writing.{joined}
use Rattle.bye_ntriples.proofs.KeyedLines.{are_bytes, sorted_lines}
use Rattle.bye_ntriples.proofs.writer.sort.Goals as goal

pub returns : goal.returns
returns c =
    let lines = c.in_ok-lines.ensures.lines ∙ ap (λ lines. map (λ s. s.now) lines) c.as_slice.ensures.value ∙ c.in_ok-cut.ensures in
    IfOk-weaker c.join.result _ _
    (λ v e. record {
      sorted = map (λ k. k.2.now) c.sort_unstable.new.self.items;
      same = subst (λ lines. IsPermutation lines (map (λ k. k.2.now) c.sort_unstable.new.self.items)) lines (IsPermutation-map (λ k. k.2.now) _ _ c.sort_unstable.ensures.permutation);
      ascends = sorted_lines _ c.sort_unstable.new.self.items _ _ c.in_ok-lines.ensures.keyed lines (are_bytes c.args.text.now c.utf8.text) c.sort_unstable.ensures.permutation c.sort_unstable.ensures.sorted;
      is = e ∙ ap (λ lines. joined [] (map (λ k. k.2.now) lines)) c.as_slice-2.ensures.value;
    })
    c.join.ensures

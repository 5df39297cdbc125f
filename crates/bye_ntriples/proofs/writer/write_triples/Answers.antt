use Rattle.std.proofs.Common.{sym, ◌∙◌, subst}
use Rattle.std.specs.Str.{IsUtf8}
use Rattle.std.proofs.lemmas.Result.{IfOk-weaker}
use Rattle.bye_ntriples.specs.Writing.{AreJoined}
use Rattle.bye_ntriples.proofs.Cutting.{are_utf8, moved, may_cut, are_lines}
use Rattle.bye_ntriples.proofs.CanonicalLines.{canonical_reads_back}
use Rattle.bye_ntriples.proofs.Sorted.{canonical}
use Rattle.bye_ntriples.proofs.writer.write_triples.Goals as goal

pub sort-requires : goal.sort-requires
sort-requires c =
    may_cut c.args.triples.now c.in-Ok.text.now c.as_slice-in-Ok.result.now
    (moved c.in_ok-spelled.ensures (c.in-Ok.ensures.cases.0 ∙ c.as_slice.ensures.value) c.as_slice-in-Ok.ensures.value)

pub unreachable-requires : goal.unreachable-requires
unreachable-requires c =
    let s = c.in_ok-spelled.ensures in
    c.in-Err.ensures.cases.0 (subst IsUtf8 (sym (c.as_slice.ensures.value ∙ s.text)) (are_utf8 c.args.triples.now s.valid))

pub returns-clause-canonical : goal.returns-clause-canonical
returns-clause-canonical c =
    let s = moved c.in_ok-spelled.ensures (c.in-Ok.ensures.cases.0 ∙ c.as_slice.ensures.value) c.as_slice-in-Ok.ensures.value in
    IfOk-weaker c.sort.result _ _
    (λ v j. canonical c.args.triples.now v.items s.valid (subst (λ lines. AreJoined lines v.items) (are_lines c.args.triples.now c.in-Ok.text.now c.as_slice-in-Ok.result.now s) j))
    c.sort.ensures

pub returns-clause-document : goal.returns-clause-document
returns-clause-document c = IfOk-weaker c.sort.result _ _ (λ v j. canonical_reads_back c.args.triples.now v.items c.in_ok-spelled.ensures.valid) c.sort.ensures

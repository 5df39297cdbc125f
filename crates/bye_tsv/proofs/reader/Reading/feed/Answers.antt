use Rattle.std.proofs.Common.{◌++◌, ℕ, List, IfErr, sym, ◌∙◌, ap, subst, append_assoc}
use Rattle.std.specs.Str.{encode_utf8_all}
use Rattle.bye_tsv.specs.Answers.{IsRefusal}
use Rattle.bye_tsv.specs.Feeding.{HasCome}
use Rattle.bye_tsv.specs.Reading.{ReadingAt}
use Rattle.bye_tsv.proofs.reader.Reading.feed.Goals as goal

pub returns-clause-err : goal.returns-clause-err
returns-clause-err c bytes h =
    let k = subst (λ (r : ReadingAt). HasCome c.args.bounds bytes r) (sym c.self.view_is) h in
    let whole = append_assoc (encode_utf8_all k.front) c.self.inside.left.items c.args.piece.now in
    let same = c.as_slice.ensures.value ∙ c.in_ok-append.ensures ∙ ap (λ v. v.items ++ c.args.piece.now) c.replace-bytes.ensures.value in
    let together = ap (λ l. encode_utf8_all k.front ++ l) same ∙ sym whole ∙ ap (λ l. l ++ c.args.piece.now) (sym k.parts) in
    subst (λ (l : List ℕ). IfErr c.take_bytes-2.result (IsRefusal c.args.bounds l)) together (c.take_bytes-2.ensures.err k.front k.led)

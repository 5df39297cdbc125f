use Rattle.std.proofs.Common.{◌≡◌, ◌+◌, ◌++◌, ℕ, List, Bool, true, false, length, sym, ◌∙◌, ap, subst, arith}
use Rattle.std.specs.Str.{chars, encode_utf8_all, IsUtf8}
use Rattle.std.proofs.lemmas.Result.{err_from_is_err_and}
use Rattle.bye_tsv.specs.DocSteps.{walk, CannotWalk}
use Rattle.bye_tsv.specs.Feeding.{HasCome, LedTo}
use Rattle.bye_tsv.specs.Reading.{ReadingAt}
use Rattle.bye_tsv.proofs.Feeds.{cut_of, text_length, walk_fault, refuses_left, takes}
use Rattle.bye_tsv.proofs.reader.Reading.take_bytes.Goals as goal

clash : (b : Bool) → b ≡ false → b ≡ true → ⊥
clash true f e = cc
clash false f e = cc

pub walk-requires-clause-within : goal.walk-requires-clause-within
walk-requires-clause-within c =
    let utf8 = subst IsUtf8 c.as_bytes.ensures.value c.as_bytes.ensures.utf8 in
    let text = ap (λ t. length (encode_utf8_all t)) c.new.ensures ∙ text_length c.decode-decoded.result.text.now utf8 in
    let same = ap length c.as_bytes.ensures.value in
    omega (arith, text, same)

pub returns-in_err-walk-clause-err : goal.returns-in_err-walk-clause-err
returns-in_err-walk-clause-err c front led =
    let p = err_from_is_err_and c.from_residual.result c.from_residual.ensures.1 in
    let text = c.decode-decoded.result.text.now in
    let left = c.decode-decoded.result.left.now in
    let utf8 = subst IsUtf8 c.as_bytes.ensures.value c.as_bytes.ensures.utf8 in
    let here = subst (λ (r : ReadingAt). LedTo c.args.bounds front r.doc r.place) (sym c.self.view_is) led in
    let cut = cut_of c.args.bounds front c.args.bytes.now text left c.self.inside.document c.self.inside.place here c.decode-decoded.ensures.parts utf8 c.decode-decoded.ensures.whole in
    let total = c.self.inside.place + length c.as_bytes.result.now in
    let sum = ap (λ n. c.self.inside.place + n) (ap length c.as_bytes.ensures.value ∙ sym (text_length text utf8)) in
    rw (p.1, p.2) (walk_fault c.args.bounds front c.args.bytes.now (chars text) left c.self.inside.document c.self.inside.place cut total c.in_err-walk.field-0.0 sum
    (subst (λ t. CannotWalk total c.in_err-walk.field-0.0 (walk c.args.bounds c.self.inside.document t)) c.new.ensures c.in_err-walk.ensures.err))

pub returns-in_err-judge-clause-err : goal.returns-in_err-judge-clause-err
returns-in_err-judge-clause-err c front led =
    let p = err_from_is_err_and c.from_residual-in_err-judge.result c.from_residual-in_err-judge.ensures.1 in
    let text = c.decode-decoded.result.text.now in
    let left = c.decode-decoded.result.left.now in
    let utf8 = subst IsUtf8 c.as_bytes.ensures.value c.as_bytes.ensures.utf8 in
    let here = subst (λ (r : ReadingAt). LedTo c.args.bounds front r.doc r.place) (sym c.self.view_is) led in
    let cut = cut_of c.args.bounds front c.args.bytes.now text left c.self.inside.document c.self.inside.place here c.decode-decoded.ensures.parts utf8 c.decode-decoded.ensures.whole in
    let total = c.self.inside.place + length c.as_bytes.result.now in
    let sum = ap (λ n. c.self.inside.place + n) (ap length c.as_bytes.ensures.value ∙ sym (text_length text utf8)) in
    let went = ap (walk c.args.bounds c.self.inside.document) (sym c.new.ensures) ∙ c.in_ok-walk.ensures.ok in
    rw (p.1, p.2) (refuses_left c.args.bounds front c.args.bytes.now (chars text) left c.self.inside.document c.self.inside.place cut c.walk.new.self c.decode-decoded.result.begins total c.in_err-judge.field-0.0 sum went
    (λ f b. clash c.decode-decoded.result.begins f (c.decode-decoded.ensures.begins.1 b)) c.in_err-judge.ensures.err)

pub returns-clause-ok : goal.returns-clause-ok
returns-clause-ok c front led =
    let text = c.decode-decoded.result.text.now in
    let left = c.decode-decoded.result.left.now in
    let utf8 = subst IsUtf8 c.as_bytes.ensures.value c.as_bytes.ensures.utf8 in
    let here = subst (λ (r : ReadingAt). LedTo c.args.bounds front r.doc r.place) (sym c.self.view_is) led in
    let cut = cut_of c.args.bounds front c.args.bytes.now text left c.self.inside.document c.self.inside.place here c.decode-decoded.ensures.parts utf8 c.decode-decoded.ensures.whole in
    let total = c.self.inside.place + length c.as_bytes.result.now in
    let sum = ap (λ n. c.self.inside.place + n) (ap length c.as_bytes.ensures.value ∙ sym (text_length text utf8)) in
    let went = ap (walk c.args.bounds c.self.inside.document) (sym c.new.ensures) ∙ c.in_ok-walk.ensures.ok in
    let kept = c.in_ok-append.ensures ∙ ap (λ l. l ++ left) c.clear.ensures.items in
    subst (λ (l : List ℕ). HasCome c.args.bounds (encode_utf8_all front ++ c.args.bytes.now) (record { doc = c.walk.new.self; left = l; place = total })) (sym kept)
    (takes c.args.bounds front c.args.bytes.now (chars text) left c.self.inside.document c.self.inside.place cut c.walk.new.self total sum went (c.decode-decoded.ensures.begins.0 c.in_ok-judge.ensures.ok))

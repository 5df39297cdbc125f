use Rattle.std.proofs.Common.{sym, ◌∙◌, ap}
use Rattle.std.specs.Str.{chars, encode_utf8_all}
use Rattle.std.proofs.lemmas.Slice.Eq.{bytes_eq-Decides}
use Rattle.std.proofs.lemmas.Str.{encodes-chars, chars-encodes}
use Rattle.bye_words.proofs.word.is_word.Goals as goal

pub returns : goal.returns
returns c =
    let text = c.as_str.ensures.text in (
      λ h. sym (ap chars (sym text ∙ (bytes_eq-Decides _ _).0 (sym c.eq.ensures ∙ h))) ∙ chars-encodes c.args.word.now c.as_str.ensures.scalars,
      λ e. c.eq.ensures ∙ (bytes_eq-Decides _ _).1 (text ∙ ap encode_utf8_all (sym e) ∙ encodes-chars c.args.text.now c.utf8.text),
    )

use Rattle.std.proofs.Common.{◌≡◌, ◌<◌, ◌^◌, sym, ◌∙◌, ap}
use Rattle.std.specs.Char.{is_ascii_digit}
use Rattle.std.specs.List.{list_all}
use Rattle.std.specs.Fmt.{decimal}
use Rattle.bye_words.proofs.Numbers.{parsed, decimal_digits, decimal_parsed, no_zero, zero_alone, word_of_text, text_of_word}
use Rattle.bye_words.proofs.number.read_number.Goals as goal
use Rattle.bye_words.proofs.number.read_number.Goals.{then-not-are_digits-via-then-not-are_digits, then-not-are_digits-via-else-not-are_digits+then-has_leading_zero}

pub returns-then-not-are_digits-clause-none : goal.returns-then-not-are_digits-clause-none
returns-then-not-are_digits-clause-none c = λ number small e.
    let text = text_of_word c.args.word.now c.as_str-text.result.now number c.as_str-text.ensures.text small e in
    elim c.then-not-are_digits.branch [
      | then-not-are_digits-via-then-not-are_digits w ↦
          let digits = decimal_digits c.as_str-text.result.now number small text in
          let same = c.are_digits.ensures ∙ ap (λ bytes. list_all is_ascii_digit bytes) c.as_bytes.ensures.value in
          let no = w.if-not-are_digits.true in cc
      | then-not-are_digits-via-else-not-are_digits+then-has_leading_zero w ↦
          no_zero c.as_str-text.result.now _ number _ small text w.as_bytes-else-not-are_digits.ensures.value w.has_leading_zero.ensures w.if-has_leading_zero.true
    ]

read : (c : goal.In-Ok) → (c.in-Ok.number < 2 ^ 64) × (c.as_str-text.result.now ≡ decimal c.in-Ok.number)
read c =
    let digits = sym (c.are_digits.ensures ∙ ap (λ bytes. list_all is_ascii_digit bytes) c.as_bytes.ensures.value) ∙ c.if-not-are_digits.false in
    parsed c.as_str-text.result.now c.in-Ok.number c.parse.result c.parse.ensures.value.0 c.in-Ok.is digits
    (λ first. zero_alone c.as_str-text.result.now _ _ c.as_bytes-else-not-are_digits.ensures.value c.has_leading_zero.ensures c.if-has_leading_zero.false first)

pub returns-in-Ok-clause-some : goal.returns-in-Ok-clause-some
returns-in-Ok-clause-some c = word_of_text c.args.word.now c.as_str-text.result.now c.in-Ok.number c.as_str-text.ensures.text c.as_str-text.ensures.scalars (read c).0 (read c).1

pub returns-in-Ok-clause-small : goal.returns-in-Ok-clause-small
returns-in-Ok-clause-small c = (read c).0

pub returns-in-Err-clause-none : goal.returns-in-Err-clause-none
returns-in-Err-clause-none c = λ number small e.
    let text = text_of_word c.args.word.now c.as_str-text.result.now number c.as_str-text.ensures.text small e in
    let k = decimal_parsed c.as_str-text.result.now number c.parse.result c.parse.ensures.value.0 small text in
    let i = c.in-Err.is in cc

use Rattle.std.proofs.Common.{refl, sym, ap, ◌∙◌}
use Rattle.std.specs.Str.{bytes_eq, chars}
use Rattle.std.proofs.lemmas.Str.{encodes-chars}
use Rattle.bye_terms.specs.Literals.{lang_string}
use Rattle.bye_terms.proofs.Escapes.{same_as_ascii}
use Rattle.bye_json.proofs.term_object.is_lang_string.Goals as goal

pub returns : goal.returns
returns c = c.eq.ensures ∙ ap (λ t. bytes_eq t lang_string) (sym (encodes-chars c.args.text.now c.utf8.text)) ∙ same_as_ascii (chars c.args.text.now) lang_string refl

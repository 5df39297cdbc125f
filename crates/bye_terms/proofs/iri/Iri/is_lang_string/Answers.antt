use Rattle.std.proofs.Common.{◌∙◌, ap, refl}
use Rattle.std.specs.Str.{bytes_eq, encode_utf8_all}
use Rattle.bye_terms.specs.Literals.{lang_string}
use Rattle.bye_terms.proofs.Escapes.{same_as_ascii}
use Rattle.bye_terms.proofs.iri.Iri.is_lang_string.Goals as goal

pub returns : goal.returns
returns c =
    c.eq.ensures
    ∙ ap (λ text. bytes_eq text lang_string) (c.as_str.ensures.text ∙ ap encode_utf8_all c.self.view_is)
    ∙ same_as_ascii c.args.self.now lang_string refl

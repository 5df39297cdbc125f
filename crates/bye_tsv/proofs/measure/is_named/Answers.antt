use Rattle.std.proofs.Common.{◌∙◌, ap}
use Rattle.std.specs.Str.{bytes_eq, encode_utf8_all}
use Rattle.bye_terms.proofs.Escapes.{same_as_ascii}
use Rattle.bye_tsv.proofs.measure.is_named.Goals as goal

pub returns : goal.returns
returns c =
    c.eq.ensures
    ∙ ap (λ text. bytes_eq text c.args.name.now) (c.as_str.ensures.text ∙ ap encode_utf8_all c.text.ensures.text)
    ∙ same_as_ascii c.args.iri.now c.args.name.now c.requires

use Rattle.std.proofs.Common.{true, ap, ◌∙◌, ◌≡◌, subst}
use Rattle.std.specs.Str.{all_scalars, bytes_eq, encode_utf8_all}
use Rattle.bye_json.proofs.Texts.{same_spelling}
use Rattle.bye_json.proofs.rows.is_named.Goals as goal

pub returns : goal.returns
returns c =
    c.eq.ensures ∙ ap (λ name. bytes_eq name c.args.text.now) (c.as_str.ensures.text ∙ ap encode_utf8_all c.name.ensures.text)
    ∙ same_spelling c.args.var.now c.args.text.now (subst (λ name. all_scalars name ≡ true) c.name.ensures.text c.as_str.ensures.scalars) c.utf8.text

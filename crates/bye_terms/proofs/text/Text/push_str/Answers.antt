use Rattle.std.proofs.Common.{◌++◌, ap, ◌∙◌}
use Rattle.std.specs.Str.{chars}
use Rattle.std.proofs.lemmas.Str.{IsUtf8-string_bytes, chars-append}
use Rattle.bye_terms.proofs.text.Text.push_str.Goals as goal

pub returns-clause-ok : goal.returns-clause-ok
returns-clause-ok c =
    ap chars c.in_ok-push_str.ensures.bytes
    ∙ chars-append _ _ (IsUtf8-string_bytes c.self.inside.text)
    ∙ ap (λ text. text ++ chars c.args.s.now) c.self.view_is

use Rattle.std.proofs.Common.{◌++◌, ap, ◌∙◌}
use Rattle.std.specs.Str.{chars}
use Rattle.std.proofs.lemmas.Str.{IsUtf8-string_bytes, chars-append}
use Rattle.bye_terms.proofs.Texts.{one_char}
use Rattle.bye_terms.proofs.text.Text.push_char.Goals as goal

pub returns-clause-ok : goal.returns-clause-ok
returns-clause-ok c =
    ap chars c.in_ok-push.ensures.bytes
    ∙ chars-append _ _ (IsUtf8-string_bytes c.self.inside.text)
    ∙ (λ i. c.self.view_is i ++ one_char c.args.c c.ranges.c.0 i)

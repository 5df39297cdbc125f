use Rattle.std.proofs.lemmas.Str.{IsUtf8-string_bytes, scalars-chars}
use Rattle.bye_terms.proofs.text.Text.as_unicode.Goals as goal

pub returns-clause-scalars : goal.returns-clause-scalars
returns-clause-scalars c =
    rw (← c.self.view_is) (scalars-chars _ (IsUtf8-string_bytes c.self.inside.text))

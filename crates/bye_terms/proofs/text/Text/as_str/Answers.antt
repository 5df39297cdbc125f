use Rattle.std.proofs.Common.{sym}
use Rattle.std.proofs.lemmas.Str.{IsUtf8-string_bytes, encodes-chars, scalars-chars}
use Rattle.bye_terms.proofs.text.Text.as_str.Goals as goal

pub returns-clause-text : goal.returns-clause-text
returns-clause-text c =
    let e = encodes-chars _ (IsUtf8-string_bytes c.self.inside.text) in
    rw (c.as_str.ensures.value, ← c.self.view_is) (sym e)

pub returns-clause-scalars : goal.returns-clause-scalars
returns-clause-scalars c =
    rw (← c.self.view_is) (scalars-chars _ (IsUtf8-string_bytes c.self.inside.text))

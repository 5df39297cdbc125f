use Rattle.std.proofs.Common.{◌≡◌, List, ℕ, length, sym, ◌∙◌, ap}
use Rattle.std.specs.Str.{chars, encode_utf8_all, IsUtf8}
use Rattle.std.proofs.lemmas.Str.{encodes-chars}
use Rattle.bye_terms.proofs.cursor.Cursor.len.Goals as goal

same : (bytes text : List ℕ) → IsUtf8 bytes → chars bytes ≡ text → length bytes ≡ length (encode_utf8_all text)
same bytes text u e = ap length (sym (encodes-chars bytes u) ∙ ap encode_utf8_all e)

pub returns : goal.returns
returns c = same _ _ c.rest.utf8 c.rest.ensures

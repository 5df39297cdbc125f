use Rattle.std.proofs.Common.{◌≡◌, ℕ, Bool, List, [], ◌∷◌, IsTrue, ◌↔◌, length, ◌==◌, sym, ◌∙◌, ap, arith}
use Rattle.std.specs.Str.{chars, IsUtf8, encode_utf8_all}
use Rattle.std.proofs.lemmas.Str.{chars-nil, encodes-chars}
use Rattle.bye_terms.proofs.cursor.Cursor.is_empty.Goals as goal

some_bytes : (b : ℕ) (bytes : List ℕ) → [] ≡ b ∷ bytes → ⊥
some_bytes b bytes e = cc

emptied : (old bytes : List ℕ) (r : Bool) → chars bytes ≡ old → IsUtf8 bytes → r ≡ (length bytes == 0) → IsTrue r ↔ (old ≡ [])
emptied old [] r v u e = (λ _. sym v ∙ chars-nil, λ _. e)
emptied old (b ∷ bytes) r v u e = (
  λ h. absurd (grind arith),
  λ h. absurd (some_bytes b bytes (sym (ap encode_utf8_all (v ∙ h)) ∙ encodes-chars (b ∷ bytes) u)),
)

pub returns : goal.returns
returns c = emptied _ _ _ c.rest.ensures c.rest.utf8 c.is_empty.ensures

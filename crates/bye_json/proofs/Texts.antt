-- Texts in a tree.
use Rattle.std.proofs.Common.{◌≡◌, refl, ℕ, Bool, true, false, List, sym, ap, ◌∙◌}
use Rattle.std.specs.Str.{IsUtf8, all_scalars, bytes_eq, chars, encode_utf8_all}
use Rattle.std.proofs.lemmas.Slice.Eq.{bytes_eq-Decides}
use Rattle.std.proofs.lemmas.Str.{chars-encodes, encodes-chars}

same_tests : (a b : Bool) → (a ≡ true → b ≡ true) → (b ≡ true → a ≡ true) → a ≡ b
same_tests true b f g = sym (f refl)
same_tests false true f g = g refl
same_tests false false f g = refl

-- a text is compared with a string by its bytes
pub same_spelling : (text bytes : List ℕ) → all_scalars text ≡ true → IsUtf8 bytes → bytes_eq (encode_utf8_all text) bytes ≡ bytes_eq text (chars bytes)
same_spelling text bytes s u =
    same_tests _ _ (λ h. (bytes_eq-Decides text (chars bytes)).1 (sym (chars-encodes text s) ∙ ap chars ((bytes_eq-Decides _ _).0 h)))
    (λ h. (bytes_eq-Decides _ bytes).1 (ap encode_utf8_all ((bytes_eq-Decides text (chars bytes)).0 h) ∙ encodes-chars bytes u))

-- Texts, their characters and their bytes.
use Rattle.std.proofs.Common.{◌≡◌, List, [], ◌∷◌, ℕ, ◌<◌, zero, suc, IsTrue, Bool, sym, ◌∙◌, ap, true, ◌↔◌, nat_lt, get_or, arith}
use Rattle.std.specs.List.{list_all}
use Rattle.std.specs.Str.{chars, encode_utf8_all, all_scalars, bytes_eq}
use Rattle.std.specs.String.{string_bytes}
use Rattle.std.specs.declared.string.String.{String}
use Rattle.std.proofs.lemmas.Bool.{ltb-true}
use Rattle.std.proofs.lemmas.Str.{IsUtf8-string_bytes, IsUtf8-encode, encodes-chars, chars-encodes, chars-IsAscii, chars_past_char, chars-nil}
use Rattle.std.proofs.lemmas.List.{append-nil}
use Rattle.std.specs.Char.{IsScalar, encode_utf8}
use Rattle.std.proofs.lemmas.Slice.Eq.{bytes_eq-Decides}
use Rattle.bye_terms.specs.Ascii.{is_ascii}
use Rattle.bye_terms.proofs.Tests.{both_parts}

-- a text has one spelling in bytes
pub same_chars : {Z : Type 0} (s t : String Z) → chars (string_bytes s) ≡ chars (string_bytes t) → string_bytes s ≡ string_bytes t
same_chars s t e = sym (encodes-chars _ (IsUtf8-string_bytes s)) ∙ ap encode_utf8_all e ∙ encodes-chars _ (IsUtf8-string_bytes t)

pub same_texts : {Z : Type 0} (s t : String Z) (b : Bool) → b ≡ bytes_eq (string_bytes s) (string_bytes t) → IsTrue b ↔ (chars (string_bytes s) ≡ chars (string_bytes t))
same_texts s t b e =
    (λ h. ap chars ((bytes_eq-Decides _ _).0 (sym e ∙ h)), λ h. e ∙ (bytes_eq-Decides _ _).1 (same_chars s t h))

-- a test of a text's characters is a test of the text
pub tested : (rule : List ℕ → Bool) (b : Bool) (bytes text : List ℕ) → bytes ≡ encode_utf8_all text → all_scalars text ≡ true → b ≡ rule (chars bytes) → b ≡ rule text
tested rule b bytes text e s h = h ∙ ap rule (ap chars e ∙ chars-encodes text s)

-- bytes below 128 are their own characters
pub ascii_at : (bytes : List ℕ) → list_all (λ b. nat_lt b 128) bytes ≡ true → (i : ℕ) → get_or bytes i 0 < 128
ascii_at [] e i = omega arith
ascii_at (b ∷ bytes) e zero = ltb-true b 128 (both_parts _ _ e).0
ascii_at (b ∷ bytes) e (suc i) = ascii_at bytes (both_parts _ _ e).1 i

pub ascii_chars : (bytes : List ℕ) → IsTrue (is_ascii bytes) → chars bytes ≡ bytes
ascii_chars bytes e = chars-IsAscii bytes (ascii_at bytes e)

-- the text of one character
pub one_char : (c : ℕ) → IsScalar c → chars (encode_utf8 c) ≡ c ∷ []
one_char c h = chars_past_char (encode_utf8 c) [] c (IsUtf8-encode c h) (sym (append-nil (encode_utf8 c))) ∙ ap (λ cs. c ∷ cs) chars-nil

-- Places in bytes.
use Rattle.std.proofs.Common.{◌≡◌, ℕ, ◌+◌, List, ◌++◌, length, drop, ◌∙◌, ap, arith, length-append, length-drop}
use Rattle.std.specs.Str.{encode_utf8_all, chars}
use Rattle.std.proofs.lemmas.Str.{encodes-append, encodes-chars}
use Rattle.bye_lex.specs.Answers.{IsBorder, place_after}
use Rattle.bye_lex.specs.Scanning.{place}

pub bytes_from : (bytes : List ℕ) (from : ℕ) → IsBorder bytes from → from + length (encode_utf8_all (chars (drop from bytes))) ≡ length bytes
bytes_from bytes from h = ap (λ b. from + length b) (encodes-chars (drop from bytes) h.1) ∙ omega (arith, length-drop from bytes)

-- the place before the rest is the one after the front
pub place_at : (total from : ℕ) (front rest : List ℕ) → from + length (encode_utf8_all (front ++ rest)) ≡ total → place total rest ≡ place_after from front
place_at total from front rest h =
    let e = ap length (encodes-append front rest) ∙ length-append (encode_utf8_all front) (encode_utf8_all rest) in
    omega (arith, h, e)

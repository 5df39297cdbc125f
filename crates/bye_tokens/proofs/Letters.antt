-- Texts of ASCII, compared by their bytes and by their characters.
use Rattle.std.proofs.Common.{◌≡◌, refl, ℕ, ◌+◌, ◌<◌, ◌≤◌, Bool, true, false, cond, nat_lt, List, [], ◌∷◌, map, IsTrue, ◌↔◌, sym, ◌∙◌, ap, arith}
use Rattle.std.specs.Char.{to_ascii_lowercase}
use Rattle.std.specs.Str.{chars, bytes_eq, IsUtf8}
use Rattle.std.proofs.lemmas.Bool.{ltb-true}
use Rattle.std.proofs.lemmas.Bool.Decides.{nat_tests}
use Rattle.std.proofs.lemmas.Slice.Eq.{bytes_eq-Decides}
use Rattle.std.proofs.lemmas.Str.{encodes-chars, encodes-IsAscii}
use Rattle.std.proofs.lemmas.Str.Ascii.{lowercase_ascii}
use Rattle.bye_terms.specs.Ascii.{is_ascii}
use Rattle.bye_terms.proofs.Tests.{both_parts, both}
use Rattle.bye_terms.proofs.Texts.{ascii_at, ascii_chars}
use Rattle.bye_lex.proofs.Branches.{heads}
use Rattle.bye_tokens.specs.Words.{same_letters}

-- a text whose characters are of ASCII is these characters
pub ascii_bytes : (bytes : List ℕ) → IsUtf8 bytes → is_ascii (chars bytes) ≡ true → bytes ≡ chars bytes
ascii_bytes bytes u e = sym (encodes-chars bytes u) ∙ encodes-IsAscii (chars bytes) (ascii_at (chars bytes) e)

iff_same : (a b : Bool) → (a ≡ true → b ≡ true) → (b ≡ true → a ≡ true) → a ≡ b
iff_same true b f g = sym (f refl)
iff_same false true f g = g refl
iff_same false false f g = refl

pub is_text : (b : Bool) (bytes name : List ℕ) → IsUtf8 bytes → is_ascii name ≡ true → b ≡ bytes_eq bytes name → b ≡ bytes_eq (chars bytes) name
is_text b bytes name u a e = iff_same b (bytes_eq (chars bytes) name)
    (λ h. (bytes_eq-Decides (chars bytes) name).1 (ap chars ((bytes_eq-Decides bytes name).0 (sym e ∙ h)) ∙ ascii_chars name a))
    (λ h. let same = (bytes_eq-Decides (chars bytes) name).0 h in
    e ∙ (bytes_eq-Decides bytes name).1 (ascii_bytes bytes u (ap is_ascii same ∙ a) ∙ same))

-- lower case is not less
lower_le : (c : ℕ) → c ≤ to_ascii_lowercase c
lower_le c = go (nat_lt c 65) (nat_lt c 91)
  where
    go : (a b : Bool) → c ≤ cond a c (cond b (c + 32) c)
    go true b = omega arith
    go false true = omega arith
    go false false = omega arith

below : (c : ℕ) → c < 128 → nat_lt c 128 ≡ true
below c h = grind (arith, nat_tests)

lower_ascii : (xs name : List ℕ) → is_ascii name ≡ true → map to_ascii_lowercase xs ≡ map to_ascii_lowercase name → is_ascii xs ≡ true
lower_ascii [] name a e = refl
lower_ascii (x ∷ xs) [] a e = cc
lower_ascii (x ∷ xs) (n ∷ name) a e =
    let k = both_parts (nat_lt n 128) (is_ascii name) a in
    let same = heads (to_ascii_lowercase x) (to_ascii_lowercase n) (map to_ascii_lowercase xs) (map to_ascii_lowercase name) e in
    let low = lowercase_ascii n (ltb-true n 128 k.0) in
    let le = lower_le x in
    let first = same.0 in
    both (nat_lt x 128) (is_ascii xs) (below x (omega (arith, low, le, first))) (lower_ascii xs name k.1 same.1)

pub same_text : (b : Bool) (bytes name : List ℕ) → IsUtf8 bytes → is_ascii name ≡ true → IsTrue b ↔ (map to_ascii_lowercase bytes ≡ map to_ascii_lowercase name) → b ≡ same_letters (chars bytes) name
same_text b bytes name u a e = iff_same b (same_letters (chars bytes) name)
    (λ h. let same = e.0 h in
    (bytes_eq-Decides (map to_ascii_lowercase (chars bytes)) (map to_ascii_lowercase name)).1 (ap (map to_ascii_lowercase) (ascii_chars bytes (lower_ascii bytes name a same)) ∙ same))
    (λ h. let same = (bytes_eq-Decides (map to_ascii_lowercase (chars bytes)) (map to_ascii_lowercase name)).0 h in
    e.1 (ap (map to_ascii_lowercase) (ascii_bytes bytes u (lower_ascii (chars bytes) name a same)) ∙ same))

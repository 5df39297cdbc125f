-- Numbers of characters, and their bytes in UTF-8 (RFC 3629, section 3).
use Rattle.std.proofs.Common.{◌≡◌, refl, ℕ, ◌+◌, ◌-◌, ◌*◌, ◌/◌, ◌%◌, ◌<◌, ◌≤◌, [], ◌∷◌, ◌⊎◌, ◌∙◌, lt-ltb, le-ltb, arith}
use Rattle.std.proofs.lemmas.Bool.Decides.{nat_tests}
use Rattle.std.specs.Char.{IsScalar, encode_utf8, len_utf8}
use Rattle.bye_lex.proofs.Branches.{when, unless}

-- the UTF-8 of a number, by how many bytes it takes
pub encode_one : (c : ℕ) → c < 0x80 → encode_utf8 c ≡ c ∷ []
unfolding encode_utf8
encode_one c h = when _ _ _ (lt-ltb c 0x80 h)

pub encode_two : (c : ℕ) → 0x80 ≤ c → c < 0x800 → encode_utf8 c ≡ (192 + c / 64) ∷ (128 + c % 64) ∷ []
unfolding encode_utf8
encode_two c l h = unless _ _ _ _ (le-ltb c 0x80 l) (when _ _ _ (lt-ltb c 0x800 h))

pub encode_three : (c : ℕ) → 0x800 ≤ c → c < 0x1_0000 → encode_utf8 c ≡ (224 + c / 4096) ∷ (128 + c / 64 % 64) ∷ (128 + c % 64) ∷ []
unfolding encode_utf8
encode_three c l h = unless _ _ _ _ (le-ltb c 0x80 (omega arith)) (unless _ _ _ _ (le-ltb c 0x800 l) (when _ _ _ (lt-ltb c 0x1_0000 h)))

pub encode_four : (c : ℕ) → 0x1_0000 ≤ c → encode_utf8 c ≡ (240 + c / 262144) ∷ (128 + c / 4096 % 64) ∷ (128 + c / 64 % 64) ∷ (128 + c % 64) ∷ []
unfolding encode_utf8
encode_four c l = unless _ _ _ _ (le-ltb c 0x80 (omega arith)) (unless _ _ _ _ (le-ltb c 0x800 (omega arith)) (unless _ _ _ _ (le-ltb c 0x1_0000 l) refl))

-- these bytes are the UTF-8 of this number
pub two : (x y : ℕ) → 194 ≤ x → x < 224 → 128 ≤ y → y < 192 → encode_utf8 ((x - 192) * 64 + (y - 128)) ≡ x ∷ y ∷ []
two x y xl xh yl yh =
    let c = (x - 192) * 64 + (y - 128) in
    let e : 192 + c / 64 ≡ x = omega arith in
    let f : 128 + c % 64 ≡ y = omega arith in
    encode_two c (omega arith) (omega arith) ∙ cc

pub three : (x y z : ℕ) → 224 ≤ x → x < 240 → 128 ≤ y → y < 192 → 128 ≤ z → z < 192 → 0x800 ≤ (x - 224) * 4096 + (y - 128) * 64 + (z - 128)
    → encode_utf8 ((x - 224) * 4096 + (y - 128) * 64 + (z - 128)) ≡ x ∷ y ∷ z ∷ []
three x y z xl xh yl yh zl zh low =
    let c = (x - 224) * 4096 + (y - 128) * 64 + (z - 128) in
    let e : 224 + c / 4096 ≡ x = omega arith in
    let f : 128 + c / 64 % 64 ≡ y = omega arith in
    let g : 128 + c % 64 ≡ z = omega arith in
    encode_three c low (omega arith) ∙ cc

pub four : (x y z w : ℕ) → 240 ≤ x → x < 245 → 128 ≤ y → y < 192 → 128 ≤ z → z < 192 → 128 ≤ w → w < 192 → 0x1_0000 ≤ (x - 240) * 262144 + (y - 128) * 4096 + (z - 128) * 64 + (w - 128)
    → encode_utf8 ((x - 240) * 262144 + (y - 128) * 4096 + (z - 128) * 64 + (w - 128)) ≡ x ∷ y ∷ z ∷ w ∷ []
four x y z w xl xh yl yh zl zh wl wh low =
    let c = (x - 240) * 262144 + (y - 128) * 4096 + (z - 128) * 64 + (w - 128) in
    let e : 240 + c / 262144 ≡ x = omega arith in
    let f : 128 + c / 4096 % 64 ≡ y = omega arith in
    let g : 128 + c / 64 % 64 ≡ z = omega arith in
    let h : 128 + c % 64 ≡ w = omega arith in
    encode_four c low ∙ cc

pub scalar_low : (c : ℕ) → c < 0xD800 → IsScalar c
scalar_low c h = grind (arith, nat_tests)

pub scalar_high : (c : ℕ) → 0xE000 ≤ c → c < 0x11_0000 → IsScalar c
scalar_high c l h = grind (arith, nat_tests)

pub no_surrogate : (c : ℕ) → IsScalar c → (c < 0xD800) ⊎ ((0xE000 ≤ c) × (c < 0x11_0000))
no_surrogate c h = grind (arith, nat_tests)

pub scalar_below : (c : ℕ) → IsScalar c → c < 0x11_0000
scalar_below c h = grind (arith, nat_tests)

pub len_three : (c : ℕ) → c < 0x1_0000 → len_utf8 c ≤ 3
len_three c h = grind (arith, nat_tests)

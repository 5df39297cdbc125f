-- Words of characters of ASCII.
use Rattle.std.proofs.Common.{◌≡◌, refl, ℕ, ◌<◌, ◌≤◌, Bool, true, false, ◌&&◌, IsTrue, ◌↔◌, List, [], ◌∷◌, length, get_or, nat_lt, sym, ◌∙◌, ap, arith}
use Rattle.std.specs.List.{list_all}
use Rattle.std.specs.Str.{chars, encode_utf8_all, all_scalars}
use Rattle.std.proofs.lemmas.Str.{encodes-chars, IsUtf8-from_ascii}
use Rattle.bye_terms.specs.Ascii.{is_ascii}
use Rattle.bye_terms.proofs.Tests.{both_parts}
use Rattle.bye_terms.proofs.Texts.{ascii_at, ascii_chars, tested}
use Rattle.bye_words.specs.Kinds.{is_host_char, is_path_char, is_session_char, IsRun, IsPath}

-- the test holds of characters of ASCII alone
abbrev pub OfAscii : (ℕ → Bool) → Type 0
OfAscii is_part = (c : ℕ) → is_part c ≡ true → nat_lt c 128 ≡ true

pub host_ascii : OfAscii is_host_char
host_ascii c e = grind arith

pub path_ascii : OfAscii is_path_char
path_ascii c e = grind arith

pub session_ascii : OfAscii is_session_char
session_ascii c e = grind arith

all_ascii : (is_part : ℕ → Bool) → OfAscii is_part → (word : List ℕ) → list_all is_part word ≡ true → is_ascii word ≡ true
all_ascii is_part ascii [] e = refl
all_ascii is_part ascii (c ∷ word) e = let k = both_parts (is_part c) (list_all is_part word) e in (λ i. ascii c k.0 i && all_ascii is_part ascii word k.1 i)

-- such a word is its own UTF-8
pub same_bytes : (is_part : ℕ → Bool) → OfAscii is_part → (word bytes : List ℕ) → bytes ≡ encode_utf8_all word → list_all is_part word ≡ true → bytes ≡ word
same_bytes is_part ascii word bytes e each =
    let plain = all_ascii is_part ascii word each in
    e ∙ ap encode_utf8_all (sym (ascii_chars word plain)) ∙ encodes-chars word (IsUtf8-from_ascii word (ascii_at word plain))

-- the test of all characters, and the length in bytes
pub run_of : (is_part : ℕ → Bool) → OfAscii is_part → (most : ℕ) (word bytes : List ℕ) (all sized : Bool) → bytes ≡ encode_utf8_all word → all_scalars word ≡ true
    → all ≡ list_all is_part (chars bytes) → all ≡ true → (IsTrue sized ↔ (0 < length bytes) × (length bytes ≤ most)) → IsTrue sized ↔ IsRun is_part most word
run_of is_part ascii most word bytes all sized e scalars each is tells =
    let known = sym (tested (λ text. list_all is_part text) all bytes word e scalars each) ∙ is in
    let same = ap length (same_bytes is_part ascii word bytes e known) in (
      λ t. let k = tells.0 t in let some : 0 < length bytes = k.0 in let short : length bytes ≤ most = k.1 in record { each = known; some = omega arith; short = omega arith },
      λ run. let some : 0 < length word = run.some in let short : length word ≤ most = run.short in tells.1 (omega arith, omega arith),
    )

pub no_run : (is_part : ℕ → Bool) (most : ℕ) (word bytes : List ℕ) (all : Bool) → bytes ≡ encode_utf8_all word → all_scalars word ≡ true
    → all ≡ list_all is_part (chars bytes) → all ≡ false → IsTrue all ↔ IsRun is_part most word
no_run is_part most word bytes all e scalars each is = (λ t. cc, λ run. tested (λ text. list_all is_part text) all bytes word e scalars each ∙ run.each)

-- the first byte of a path
pub slash_of : (word bytes : List ℕ) (b : Bool) → bytes ≡ encode_utf8_all word → IsRun is_path_char 4096 word → (IsTrue b ↔ (get_or bytes 0 0 ≡ 47)) → IsTrue b ↔ IsPath word
slash_of word bytes b e run tells =
    let same = same_bytes is_path_char path_ascii word bytes e run.each in
    (λ t. record { run = run; slash = sym (ap (λ text. get_or text 0 0) same) ∙ tells.0 t }, λ path. tells.1 (ap (λ text. get_or text 0 0) same ∙ path.slash))

-- Decimal digits without sign and leading zero.
use Rattle.std.proofs.Common.{◌≡◌, refl, ℕ, ◌+◌, ◌-◌, ◌*◌, ◌<◌, ◌≤◌, ◌^◌, zero, suc, List, [], ◌∷◌, length, get_or, Bool, true, false, IsTrue, ◌↔◌, Result, Ok, sym, ◌∙◌, ap, subst, arith, rules}
use Rattle.std.specs.Fmt.{decimal}
use Rattle.bye_words.specs.Kinds.{IsNumber}
use Rattle.std.specs.Char.{is_ascii_digit}
use Rattle.std.specs.List.{list_all}
use Rattle.std.specs.Str.Parse.{ParsesUnsigned}
use Rattle.std.specs.Result.{OkIff}
use Rattle.std.proofs.lemmas.Fmt.{decimal_digit, first_decimal, decimal-digits_value, digits_decimal, parse-decimal, decimal_injective, IsAscii-decimal}
use Rattle.std.specs.Str.{chars, encode_utf8_all, all_scalars}
use Rattle.std.proofs.lemmas.Str.{chars-IsAscii, chars-encodes, encodes-chars, IsUtf8-from_ascii}
use Rattle.std.proofs.lemmas.Str.Parse.{IsNumeralModel, numerals_by_fold, parse_digits}

abbrev read_on : ℕ → List ℕ → ℕ
read_on n [] = n
read_on n (c ∷ cs) = read_on (10 * n + (c - 48)) cs

own : IsNumeralModel (λ ds. list_all is_ascii_digit ds ≡ true) (read_on 0)
own = numerals_by_fold _ (search rules) read_on (search rules)

-- what is parsed of digits without leading zero has these digits
pub parsed : {E : Type 0} (text : List ℕ) (n : ℕ) (r : Result ℕ E) → ParsesUnsigned 64 10 text r → r ≡ Ok n → list_all is_ascii_digit text ≡ true
    → (get_or text 0 0 ≡ 48 → length text ≡ 1) → (n < 2 ^ 64) × (text ≡ decimal n)
parsed {E} text n r h e digits plain =
    let k : OkIff {E = E} (Ok n) ((0 < length text) × (read_on 0 text < 2 ^ 64)) (read_on 0 text) =
    subst (λ (r : Result ℕ E). OkIff r ((0 < length text) × (read_on 0 text < 2 ^ 64)) (read_on 0 text)) e (parse_digits own 64 text r h digits) in
    (subst (λ m. m < 2 ^ 64) (sym k.1) k.0.1, sym (decimal-digits_value own text digits k.0.0 plain k.0.1) ∙ ap decimal (sym k.1))

pub decimal_digits : (text : List ℕ) (n : ℕ) → n < 2 ^ 64 → text ≡ decimal n → list_all is_ascii_digit text ≡ true
decimal_digits text n small e = ap (λ ds. list_all is_ascii_digit ds) e ∙ digits_decimal own n small

pub decimal_zero : (text : List ℕ) (n : ℕ) → n < 2 ^ 64 → text ≡ decimal n → get_or text 0 0 ≡ 48 → length text ≡ 1
decimal_zero text n small e first = grind (arith, first_decimal n, decimal_digit n)

pub decimal_parsed : {E : Type 0} (text : List ℕ) (n : ℕ) (r : Result ℕ E) → ParsesUnsigned 64 10 text r → n < 2 ^ 64 → text ≡ decimal n → r ≡ Ok n
decimal_parsed text n r h small e = parse-decimal 64 n text r small small e h

-- a word in UTF-8 is the digits of a number exactly where the word is
decimal_chars : (n : ℕ) → n < 2 ^ 64 → chars (decimal n) ≡ decimal n
decimal_chars n small = chars-IsAscii (decimal n) (IsAscii-decimal n small)

pub word_of_text : (word text : List ℕ) (n : ℕ) → text ≡ encode_utf8_all word → all_scalars word ≡ true → n < 2 ^ 64 → text ≡ decimal n → word ≡ decimal n
word_of_text word text n e scalars small is = sym (ap chars e ∙ chars-encodes word scalars) ∙ ap chars is ∙ decimal_chars n small

pub text_of_word : (word text : List ℕ) (n : ℕ) → text ≡ encode_utf8_all word → n < 2 ^ 64 → word ≡ decimal n → text ≡ decimal n
text_of_word word text n e small is =
    e ∙ ap encode_utf8_all (is ∙ sym (decimal_chars n small)) ∙ encodes-chars (decimal n) (IsUtf8-from_ascii (decimal n) (IsAscii-decimal n small))

-- the number of a word
pub same_number : (word : List ℕ) (m n : ℕ) → m < 2 ^ 64 → n < 2 ^ 64 → word ≡ decimal m → word ≡ decimal n → m ≡ n
same_number word m n small low e f = decimal_injective m n small low (sym e ∙ f)

-- the digits of a number in UTF-8 have no leading zero
pub no_zero : (text bytes : List ℕ) (n : ℕ) (b : Bool) → n < 2 ^ 64 → text ≡ decimal n → bytes ≡ text → (IsTrue b ↔ (get_or bytes 0 0 ≡ 48) × (1 < length bytes)) → b ≡ true → ⊥
no_zero text bytes n b small e same tells h =
    let k = tells.0 h in
    let one = decimal_zero bytes n small (same ∙ e) k.0 in
    let more : 1 < length bytes = k.1 in
    absurd (omega arith)

pub zero_alone : (text bytes : List ℕ) (b : Bool) → bytes ≡ text → (IsTrue b ↔ (get_or bytes 0 0 ≡ 48) × (1 < length bytes)) → b ≡ false → get_or text 0 0 ≡ 48 → length text ≡ 1
zero_alone text bytes b same tells h first = less (length text) (λ many. let t = tells.1 (subst (λ (bs : List ℕ). (get_or bs 0 0 ≡ 48) × (1 < length bs)) (sym same) (first, many)) in cc) (there text first)
  where
    there : (text : List ℕ) → get_or text 0 0 ≡ 48 → 0 < length text
    there [] e = absurd (omega arith)
    there (c ∷ cs) e = omega arith

    less : (n : ℕ) → (1 < n → ⊥) → 0 < n → n ≡ 1
    less zero one some = absurd (omega arith)
    less (suc zero) one some = refl
    less (suc (suc n)) one some = absurd (one (omega arith))

-- a number between two
pub between : (word : List ℕ) (least greatest n : ℕ) → n < 2 ^ 64 → greatest < 2 ^ 64 → word ≡ decimal n → IsNumber least greatest word → (least ≤ n) × (n ≤ greatest)
between word least greatest n small high e is =
    let top : is.number ≤ greatest = is.high in
    let same = same_number word is.number n (omega arith) small is.digits e in
    (subst (λ m. least ≤ m) same is.low, subst (λ m. m ≤ greatest) same is.high)

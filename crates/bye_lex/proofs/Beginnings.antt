-- Which bytes begin a character, without holding one (Unicode, table 3-7).
use Rattle.std.proofs.Common.{◌≡◌, refl, ℕ, ◌+◌, ◌-◌, ◌*◌, ◌/◌, ◌%◌, ◌<◌, ◌≤◌, Bool, true, false, cond, not, IsTrue, ◌↔◌, nat_lt, ◌==◌, slice_index, List, [], ◌∷◌, ◌++◌, length, Option, None, Some, is_some, ◌⊎◌, inl, inr, ⊎_elim, sym, ◌∙◌, ap, append_assoc, append-nil, length-append, subst, lt-ltb, ltb-true, take, drop, arith}
use Rattle.std.proofs.lemmas.Bool.{cases_lt}
use Rattle.std.proofs.lemmas.Bool.Decides.{nat_tests}
use Rattle.std.proofs.lemmas.Str.{length-encode, len_utf8_bounds, IsUtf8-append, IsUtf8-encode}
use Rattle.std.proofs.lemmas.List.{take_at}
use Rattle.std.proofs.Math.Seq.{take-add}
use Rattle.std.specs.Int.{is_in_range}
use Rattle.std.specs.Char.{IsScalar, encode_utf8}
use Rattle.std.specs.Str.{IsUtf8, IsValidUpTo}
use Rattle.std.specs.Str.Lossy.{utf8_error_len, second_byte_min, second_byte_max}
use Rattle.bye_lex.specs.Utf8.{BeginsCharacter, NoCharacter}
use Rattle.bye_lex.proofs.Branches.{when, chosen, heads, eqb_same}
use Rattle.bye_lex.proofs.Encodings.{encode_one, encode_two, encode_three, encode_four, two, three, four, scalar_low, scalar_high, no_surrogate, scalar_below, len_three}

-- the byte y may follow the first byte x
record IsSecond (x y : ℕ) : Type 0 where
  low : 128 ≤ y
  high : y < 192
  long_three : x ≡ 224 → 160 ≤ y
  surrogate : x ≡ 237 → y < 160
  long_four : x ≡ 240 → 144 ≤ y
  last : x ≡ 244 → y < 144

second_is : (x y : ℕ) → is_in_range (second_byte_min x) (second_byte_max x) y ≡ true → IsSecond x y
second_is x y h = record {
  low = grind (arith, nat_tests);
  high = grind (arith, nat_tests);
  long_three = λ e. grind (arith, nat_tests);
  surrogate = λ e. grind (arith, nat_tests);
  long_four = λ e. grind (arith, nat_tests);
  last = λ e. grind (arith, nat_tests);
}

second_test : (x y : ℕ) → IsSecond x y → is_in_range (second_byte_min x) (second_byte_max x) y ≡ true
second_test x y s =
    let low = s.low in
    let high = s.high in
    let long_three = s.long_three in
    let surrogate = s.surrogate in
    let long_four = s.long_four in
    let last = s.last in
    grind (arith, nat_tests)

-- some byte may follow each first byte of three and of four
some_second : (x : ℕ) → 224 ≤ x → x < 245 → (y : ℕ) × IsSecond x y
some_second x l h =
    ⊎_elim
    (λ (a : x < 237). (160, record { low = omega arith; high = omega arith; long_three = λ e. omega arith; surrogate = λ e. omega arith; long_four = λ e. omega arith; last = λ e. omega arith }))
    (λ (a : 237 ≤ x). ⊎_elim
    (λ (b : x < 244). (144, record { low = omega arith; high = omega arith; long_three = λ e. omega arith; surrogate = λ e. omega arith; long_four = λ e. omega arith; last = λ e. omega arith }))
    (λ (b : 244 ≤ x). (128, record { low = omega arith; high = omega arith; long_three = λ e. omega arith; surrogate = λ e. omega arith; long_four = λ e. omega arith; last = λ e. omega arith }))
    (cases_lt x 244))
    (cases_lt x 237)

abbrev code_three : ℕ → ℕ → ℕ → ℕ
code_three x y z = (x - 224) * 4096 + (y - 128) * 64 + (z - 128)

abbrev code_four : ℕ → ℕ → ℕ → ℕ → ℕ
code_four x y z w = (x - 240) * 262144 + (y - 128) * 4096 + (z - 128) * 64 + (w - 128)

least_three : (x y z : ℕ) → 224 ≤ x → IsSecond x y → 0x800 ≤ code_three x y z
least_three x y z l s =
    ⊎_elim (λ (a : x < 225). let e : x ≡ 224 = omega arith in let f = s.long_three e in omega arith) (λ (a : 225 ≤ x). omega arith) (cases_lt x 225)

three_scalar : (x y z : ℕ) → 224 ≤ x → x < 240 → IsSecond x y → 128 ≤ z → z < 192 → IsScalar (code_three x y z)
three_scalar x y z l h s zl zh =
    let low = s.low in
    let high = s.high in
    ⊎_elim
    (λ (a : x < 237). scalar_low (code_three x y z) (omega arith))
    (λ (a : 237 ≤ x). ⊎_elim
    (λ (b : x < 238). let e : x ≡ 237 = omega arith in let f = s.surrogate e in scalar_low (code_three x y z) (omega arith))
    (λ (b : 238 ≤ x). scalar_high (code_three x y z) (omega arith) (omega arith))
    (cases_lt x 238))
    (cases_lt x 237)

least_four : (x y z w : ℕ) → 240 ≤ x → IsSecond x y → 0x1_0000 ≤ code_four x y z w
least_four x y z w l s =
    ⊎_elim (λ (a : x < 241). let e : x ≡ 240 = omega arith in let f = s.long_four e in omega arith) (λ (a : 241 ≤ x). omega arith) (cases_lt x 241)

four_scalar : (x y z w : ℕ) → 240 ≤ x → x < 245 → IsSecond x y → 128 ≤ z → z < 192 → 128 ≤ w → w < 192 → IsScalar (code_four x y z w)
four_scalar x y z w l h s zl zh wl wh =
    let low = s.low in
    let high = s.high in
    let least = least_four x y z w l s in
    scalar_high (code_four x y z w) (omega arith)
    (⊎_elim (λ (a : x < 244). omega arith) (λ (a : 244 ≤ x). let e : x ≡ 244 = omega arith in let f = s.last e in omega arith) (cases_lt x 244))

-- a front of what begins a character begins it
begins_front : (a b : List ℕ) → BeginsCharacter (a ++ b) → BeginsCharacter a
begins_front a [] k = record { char = k.char; scalar = k.scalar; next = k.next; more = k.more; is = k.is ∙ append_assoc a [] (k.next ∷ k.more) }
begins_front a (n ∷ t) k = record { char = k.char; scalar = k.scalar; next = n; more = t ++ k.next ∷ k.more; is = k.is ∙ append_assoc a (n ∷ t) (k.next ∷ k.more) }

pub begins_empty : BeginsCharacter []
begins_empty = record { char = 97; scalar = refl; next = 97; more = []; is = encode_one 97 (omega arith) }

begins_three : (x y z : ℕ) → 240 ≤ x → x < 245 → IsSecond x y → 128 ≤ z → z < 192 → BeginsCharacter (x ∷ y ∷ z ∷ [])
begins_three x y z l h s zl zh = record {
  char = code_four x y z 128;
  scalar = four_scalar x y z 128 l h s zl zh (omega arith) (omega arith);
  next = 128;
  more = [];
  is = four x y z 128 l h s.low s.high zl zh (omega arith) (omega arith) (least_four x y z 128 l s);
}

begins_two : (x y : ℕ) → 224 ≤ x → x < 245 → IsSecond x y → BeginsCharacter (x ∷ y ∷ [])
begins_two x y l h s =
    ⊎_elim
    (λ (a : x < 240). record {
      char = code_three x y 128;
      scalar = three_scalar x y 128 l a s (omega arith) (omega arith);
      next = 128;
      more = [];
      is = three x y 128 l a s.low s.high (omega arith) (omega arith) (least_three x y 128 l s);
    })
    (λ (a : 240 ≤ x). begins_front (x ∷ y ∷ []) (128 ∷ []) (begins_three x y 128 a h s (omega arith) (omega arith)))
    (cases_lt x 240)

begins_one : (x : ℕ) → 194 ≤ x → x < 245 → BeginsCharacter (x ∷ [])
begins_one x l h =
    ⊎_elim
    (λ (a : x < 224). record {
      char = (x - 192) * 64 + (128 - 128);
      scalar = scalar_low ((x - 192) * 64 + (128 - 128)) (omega arith);
      next = 128;
      more = [];
      is = two x 128 l a (omega arith) (omega arith);
    })
    (λ (a : 224 ≤ x). let s = some_second x a h in begins_front (x ∷ []) (s.0 ∷ []) (begins_two x s.0 a h s.1))
    (cases_lt x 224)

-- std's table of where bytes stop being those of a character: of n bytes that begin x, y and z
abbrev stops_fourth : ℕ → Option ℕ
stops_fourth n = cond (nat_lt n 4) None (Some 3)

abbrev stops_third : ℕ → ℕ → Option ℕ
stops_third n z = cond (nat_lt n 3) None (cond (is_in_range 0x80 0xBF z) (stops_fourth n) (Some 2))

abbrev stops_second : ℕ → ℕ → ℕ → ℕ → Option ℕ
stops_second n x y z = cond (nat_lt n 2) None (cond (is_in_range (second_byte_min x) (second_byte_max x) y) (stops_third n z) (Some 1))

abbrev stops : ℕ → ℕ → ℕ → ℕ → Option ℕ
stops n x y z = cond (n == 0) None (cond (is_in_range 0xC2 0xF4 x) (stops_second n x y z) (Some 1))

abbrev stops_at : List ℕ → Option ℕ
stops_at bs = stops (length bs) (slice_index bs 0) (slice_index bs 1) (slice_index bs 2)

error_is : (bs : List ℕ) → utf8_error_len bs ≡ stops_at bs
unfolding utf8_error_len
error_is bs = refl

-- they end before they stop
record IsOpenThree (n z : ℕ) : Type 0 where
  few : n < 4
  third : (n < 3) ⊎ ((128 ≤ z) × (z < 192))

record IsOpenTwo (n x y z : ℕ) : Type 0 where
  lead : (194 ≤ x) × (x < 245)
  second : (n < 2) ⊎ (IsSecond x y × IsOpenThree n z)

abbrev IsOpen : ℕ → ℕ → ℕ → ℕ → Type 0
IsOpen n x y z = (n ≡ 0) ⊎ IsOpenTwo n x y z

some_none : {P : Type 0} (k : ℕ) → ◌≡◌ {A = Option ℕ} (Some k) None → P
some_none k e = cc

lead_is : (x : ℕ) → is_in_range 0xC2 0xF4 x ≡ true → (194 ≤ x) × (x < 245)
lead_is x h = (grind (arith, nat_tests), grind (arith, nat_tests))

later_is : (x : ℕ) → is_in_range 0x80 0xBF x ≡ true → (128 ≤ x) × (x < 192)
later_is x h = (grind (arith, nat_tests), grind (arith, nat_tests))

lead_test : (x : ℕ) → 194 ≤ x → x < 245 → is_in_range 0xC2 0xF4 x ≡ true
lead_test x l h = grind (arith, nat_tests)

later_test : (x : ℕ) → 128 ≤ x → x < 192 → is_in_range 0x80 0xBF x ≡ true
later_test x l h = grind (arith, nat_tests)

third_open : (n z : ℕ) → stops_third n z ≡ None → IsOpenThree n z
third_open n z e =
    ⊎_elim
    (λ a. let few = ltb-true n 3 a.0 in record { few = omega arith; third = inl few })
    (λ a. ⊎_elim
    (λ b. ⊎_elim
    (λ d. record { few = ltb-true n 4 d.0; third = inr (later_is z b.0) })
    (λ d. some_none 3 d.1)
    (chosen (nat_lt n 4) None (Some 3) None b.1))
    (λ b. some_none 2 b.1)
    (chosen (is_in_range 0x80 0xBF z) (stops_fourth n) (Some 2) None a.1))
    (chosen (nat_lt n 3) None (cond {A = Option ℕ} (is_in_range 0x80 0xBF z) (stops_fourth n) (Some 2)) None e)

second_open : (n x y z : ℕ) → stops_second n x y z ≡ None → (n < 2) ⊎ (IsSecond x y × IsOpenThree n z)
second_open n x y z e =
    ⊎_elim
    (λ a. inl (ltb-true n 2 a.0))
    (λ a. ⊎_elim
    (λ b. inr (second_is x y b.0, third_open n z b.1))
    (λ b. some_none 1 b.1)
    (chosen (is_in_range (second_byte_min x) (second_byte_max x) y) (stops_third n z) (Some 1) None a.1))
    (chosen (nat_lt n 2) None (cond {A = Option ℕ} (is_in_range (second_byte_min x) (second_byte_max x) y) (stops_third n z) (Some 1)) None e)

stops_open : (n x y z : ℕ) → stops n x y z ≡ None → IsOpen n x y z
stops_open n x y z e =
    ⊎_elim
    (λ a. inl (eqb_same n 0 a.0))
    (λ a. ⊎_elim
    (λ b. inr (record { lead = lead_is x b.0; second = second_open n x y z b.1 }))
    (λ b. some_none 1 b.1)
    (chosen (is_in_range 0xC2 0xF4 x) (stops_second n x y z) (Some 1) None a.1))
    (chosen (n == 0) None (cond {A = Option ℕ} (is_in_range 0xC2 0xF4 x) (stops_second n x y z) (Some 1)) None e)

-- both arms of a test are none
either_none : (b : Bool) (x y : Option ℕ) → x ≡ None → y ≡ None → cond b x y ≡ None
either_none true x y e f = e
either_none false x y e f = f

open_third : (n z : ℕ) → IsOpenThree n z → stops_third n z ≡ None
open_third n z o =
    let rest = cond {A = Option ℕ} (is_in_range 0x80 0xBF z) (stops_fourth n) (Some 2) in
    ⊎_elim
    (λ a. when (nat_lt n 3) None rest (lt-ltb n 3 a))
    (λ a. either_none (nat_lt n 3) None rest refl
    (when (is_in_range 0x80 0xBF z) (stops_fourth n) (Some 2) (later_test z a.0 a.1) ∙ when (nat_lt n 4) None (Some 3) (lt-ltb n 4 o.few)))
    o.third

open_second : (n x y z : ℕ) → (n < 2) ⊎ (IsSecond x y × IsOpenThree n z) → stops_second n x y z ≡ None
open_second n x y z o =
    let rest = cond {A = Option ℕ} (is_in_range (second_byte_min x) (second_byte_max x) y) (stops_third n z) (Some 1) in
    ⊎_elim
    (λ a. when (nat_lt n 2) None rest (lt-ltb n 2 a))
    (λ a. either_none (nat_lt n 2) None rest refl
    (when (is_in_range (second_byte_min x) (second_byte_max x) y) (stops_third n z) (Some 1) (second_test x y a.0) ∙ open_third n z a.1))
    o

open_stops : (n x y z : ℕ) → IsOpenTwo n x y z → stops n x y z ≡ None
open_stops n x y z o =
    let rest = cond {A = Option ℕ} (is_in_range 0xC2 0xF4 x) (stops_second n x y z) (Some 1) in
    either_none (n == 0) None rest refl
    (when (is_in_range 0xC2 0xF4 x) (stops_second n x y z) (Some 1) (lead_test x o.lead.0 o.lead.1) ∙ open_second n x y z o.second)

two_scalar : (x y : ℕ) → x < 224 → IsSecond x y → IsScalar ((x - 192) * 64 + (y - 128))
two_scalar x y h s = scalar_low ((x - 192) * 64 + (y - 128)) (omega (arith, s.high))

two_begin : (x y : ℕ) → NoCharacter (x ∷ y ∷ []) → 194 ≤ x → x < 245 → IsSecond x y → BeginsCharacter (x ∷ y ∷ [])
two_begin x y none l h s =
    ⊎_elim
    (λ (a : x < 224). absurd (none ((x - 192) * 64 + (y - 128)) [] (two_scalar x y a s) (sym (two x y l a s.low s.high) ∙ sym (append-nil _))))
    (λ (a : 224 ≤ x). begins_two x y a h s)
    (cases_lt x 224)

three_begin : (x y z : ℕ) → NoCharacter (x ∷ y ∷ z ∷ []) → 194 ≤ x → x < 245 → IsSecond x y → 128 ≤ z → z < 192 → BeginsCharacter (x ∷ y ∷ z ∷ [])
three_begin x y z none l h s zl zh =
    ⊎_elim
    (λ (a : x < 224). absurd (none ((x - 192) * 64 + (y - 128)) (z ∷ []) (two_scalar x y a s) (ap (λ b. b ++ z ∷ []) (sym (two x y l a s.low s.high)))))
    (λ (a : 224 ≤ x). ⊎_elim
    (λ (b : x < 240). absurd (none (code_three x y z) [] (three_scalar x y z a b s zl zh) (sym (three x y z a b s.low s.high zl zh (least_three x y z a s)) ∙ sym (append-nil _))))
    (λ (b : 240 ≤ x). begins_three x y z b h s zl zh)
    (cases_lt x 240))
    (cases_lt x 224)

-- bytes that end before they stop begin a character, unless one stands whole at their front
open_begins : (bs : List ℕ) → NoCharacter bs → IsOpen (length bs) (slice_index bs 0) (slice_index bs 1) (slice_index bs 2) → BeginsCharacter bs
open_begins [] none o = begins_empty
open_begins (x ∷ []) none o =
    ⊎_elim (λ (a : 1 ≡ 0). absurd (omega arith)) (λ (a : IsOpenTwo 1 x 0 0). begins_one x a.lead.0 a.lead.1) o
open_begins (x ∷ y ∷ []) none o =
    ⊎_elim (λ (a : 2 ≡ 0). absurd (omega arith))
    (λ (a : IsOpenTwo 2 x y 0). ⊎_elim
    (λ (b : 2 < 2). absurd (omega arith))
    (λ (b : IsSecond x y × IsOpenThree 2 0). two_begin x y none a.lead.0 a.lead.1 b.0)
    a.second)
    o
open_begins (x ∷ y ∷ z ∷ []) none o =
    ⊎_elim (λ (a : 3 ≡ 0). absurd (omega arith))
    (λ (a : IsOpenTwo 3 x y z). ⊎_elim
    (λ (b : 3 < 2). absurd (omega arith))
    (λ (b : IsSecond x y × IsOpenThree 3 z). ⊎_elim
    (λ (d : 3 < 3). absurd (omega arith))
    (λ (d : (128 ≤ z) × (z < 192)). three_begin x y z none a.lead.0 a.lead.1 b.0 d.0 d.1)
    b.1.third)
    a.second)
    o
open_begins (x ∷ y ∷ z ∷ w ∷ t) none o =
    ⊎_elim (λ (a : length (x ∷ y ∷ z ∷ w ∷ t) ≡ 0). absurd (omega arith))
    (λ (a : IsOpenTwo (length (x ∷ y ∷ z ∷ w ∷ t)) x y z). ⊎_elim
    (λ (b : length (x ∷ y ∷ z ∷ w ∷ t) < 2). absurd (omega arith))
    (λ (b : IsSecond x y × IsOpenThree (length (x ∷ y ∷ z ∷ w ∷ t)) z). let few = b.1.few in absurd (omega arith))
    a.second)
    o

pub error_begins : (bs : List ℕ) → NoCharacter bs → utf8_error_len bs ≡ None → BeginsCharacter bs
error_begins bs none e = open_begins bs none (stops_open (length bs) (slice_index bs 0) (slice_index bs 1) (slice_index bs 2) (sym (error_is bs) ∙ e))

-- the bytes that a character begins with
lead_of : (c x n : ℕ) (t : List ℕ) → IsScalar c → encode_utf8 c ≡ x ∷ n ∷ t → (194 ≤ x) × (x < 245)
lead_of c x n t is_c e =
    ⊎_elim
    (λ (a : c < 0x80). let h = heads c x [] (n ∷ t) (sym (encode_one c a) ∙ e) in absurd (omega (arith, ap length h.1)))
    (λ (a : 0x80 ≤ c). ⊎_elim
    (λ (b : c < 0x800). let h = heads (192 + c / 64) x _ (n ∷ t) (sym (encode_two c a b) ∙ e) in let k = h.0 in (omega arith, omega arith))
    (λ (b : 0x800 ≤ c). ⊎_elim
    (λ (d : c < 0x1_0000). let h = heads (224 + c / 4096) x _ (n ∷ t) (sym (encode_three c b d) ∙ e) in let k = h.0 in (omega arith, omega arith))
    (λ (d : 0x1_0000 ≤ c). let h = heads (240 + c / 262144) x _ (n ∷ t) (sym (encode_four c d) ∙ e) in let k = h.0 in let top = scalar_below c is_c in (omega arith, omega arith))
    (cases_lt c 0x1_0000))
    (cases_lt c 0x800))
    (cases_lt c 0x80)

second_three : (c x y : ℕ) → IsScalar c → 0x800 ≤ c → c < 0x1_0000 → 224 + c / 4096 ≡ x → 128 + c / 64 % 64 ≡ y → IsSecond x y
second_three c x y is_c l h e f = record {
  low = omega arith;
  high = omega arith;
  long_three = λ k. omega arith;
  surrogate = λ k. ⊎_elim (λ (a : c < 0xD800). omega arith) (λ (a : (0xE000 ≤ c) × (c < 0x11_0000)). let b = a.0 in omega arith) (no_surrogate c is_c);
  long_four = λ k. omega arith;
  last = λ k. omega arith;
}

second_four : (c x y : ℕ) → IsScalar c → 0x1_0000 ≤ c → 240 + c / 262144 ≡ x → 128 + c / 4096 % 64 ≡ y → IsSecond x y
second_four c x y is_c l e f = let top = scalar_below c is_c in record {
  low = omega arith;
  high = omega arith;
  long_three = λ k. omega arith;
  surrogate = λ k. omega arith;
  long_four = λ k. omega arith;
  last = λ k. omega arith;
}

second_of : (c x y n : ℕ) (t : List ℕ) → IsScalar c → encode_utf8 c ≡ x ∷ y ∷ n ∷ t → IsSecond x y
second_of c x y n t is_c e =
    ⊎_elim
    (λ (a : c < 0x80). let h = heads c x [] (y ∷ n ∷ t) (sym (encode_one c a) ∙ e) in absurd (omega (arith, ap length h.1)))
    (λ (a : 0x80 ≤ c). ⊎_elim
    (λ (b : c < 0x800). absurd (omega (arith, ap length (sym (encode_two c a b) ∙ e))))
    (λ (b : 0x800 ≤ c). ⊎_elim
    (λ (d : c < 0x1_0000).
    let h = heads (224 + c / 4096) x _ (y ∷ n ∷ t) (sym (encode_three c b d) ∙ e) in
    let k = heads (128 + c / 64 % 64) y _ (n ∷ t) h.1 in
    second_three c x y is_c b d h.0 k.0)
    (λ (d : 0x1_0000 ≤ c).
    let h = heads (240 + c / 262144) x _ (y ∷ n ∷ t) (sym (encode_four c d) ∙ e) in
    let k = heads (128 + c / 4096 % 64) y _ (n ∷ t) h.1 in
    second_four c x y is_c d h.0 k.0)
    (cases_lt c 0x1_0000))
    (cases_lt c 0x800))
    (cases_lt c 0x80)

third_of : (c x y z n : ℕ) (t : List ℕ) → encode_utf8 c ≡ x ∷ y ∷ z ∷ n ∷ t → (128 ≤ z) × (z < 192)
third_of c x y z n t e =
    ⊎_elim
    (λ (a : c < 0x1_0000). absurd (omega (arith, ap length e, length-encode c, len_three c a)))
    (λ (a : 0x1_0000 ≤ c).
    let h = heads (240 + c / 262144) x _ (y ∷ z ∷ n ∷ t) (sym (encode_four c a) ∙ e) in
    let k = heads (128 + c / 4096 % 64) y _ (z ∷ n ∷ t) h.1 in
    let m = heads (128 + c / 64 % 64) z _ (n ∷ t) k.1 in
    let f = m.0 in
    (omega arith, omega arith))
    (cases_lt c 0x1_0000)

-- bytes that begin a character do not stop
pub begins_error : (bs : List ℕ) → BeginsCharacter bs → utf8_error_len bs ≡ None
begins_error [] b = error_is [] ∙ refl
begins_error (x ∷ []) b =
    error_is (x ∷ []) ∙ open_stops 1 x 0 0 (record { lead = lead_of b.char x b.next b.more b.scalar b.is; second = inl (omega arith) })
begins_error (x ∷ y ∷ []) b =
    error_is (x ∷ y ∷ []) ∙ open_stops 2 x y 0 (record {
      lead = lead_of b.char x y (b.next ∷ b.more) b.scalar b.is;
      second = inr (second_of b.char x y b.next b.more b.scalar b.is, record { few = omega arith; third = inl (omega arith) });
    })
begins_error (x ∷ y ∷ z ∷ []) b =
    error_is (x ∷ y ∷ z ∷ []) ∙ open_stops 3 x y z (record {
      lead = lead_of b.char x y (z ∷ b.next ∷ b.more) b.scalar b.is;
      second = inr (second_of b.char x y z (b.next ∷ b.more) b.scalar b.is, record { few = omega arith; third = inr (third_of b.char x y z b.next b.more b.is) });
    })
begins_error (x ∷ y ∷ z ∷ w ∷ t) b =
    absurd (omega (arith, ap length b.is, length-encode b.char, len_utf8_bounds b.char, length-append t (b.next ∷ b.more)))

-- what follows the longest front of whole characters holds none
pub valid_none : (bytes : List ℕ) (n : ℕ) → IsValidUpTo bytes n → NoCharacter (drop n bytes)
valid_none bytes n v c rest is_c e =
    v.longest (n + length (encode_utf8 c)) (omega (arith, length-encode c, len_utf8_bounds c))
    (subst IsUtf8 (sym (take-add n (length (encode_utf8 c)) bytes ∙ ap (λ l. take n bytes ++ take (length (encode_utf8 c)) l) e ∙ ap (λ l. take n bytes ++ l) (take_at (encode_utf8 c) rest _ refl)))
    (IsUtf8-append (take n bytes) (encode_utf8 c) v.front (IsUtf8-encode c is_c)))

pub empty_none : NoCharacter []
empty_none c rest is_c e = omega (arith, ap length e, length-append (encode_utf8 c) rest, length-encode c, len_utf8_bounds c)

none_told : (len : Option ℕ) → is_some len ≡ false → len ≡ None
none_told None e = refl
none_told (Some k) e = cc

told : (b : Bool) → false ≡ not b → b ≡ true
told true e = refl
told false e = cc

-- a fault without a length tells what begins a character
pub left_begins : (bytes left : List ℕ) (n : ℕ) (len : Option ℕ) (ends : Bool) → IsValidUpTo bytes n → left ≡ drop n bytes → len ≡ utf8_error_len (drop n bytes)
    → is_some len ≡ not ends → IsTrue ends ↔ BeginsCharacter left
left_begins bytes left n len ends v is fault e = (
  λ t. subst BeginsCharacter (sym is) (error_begins (drop n bytes) (valid_none bytes n v) (sym fault ∙ none_told len (e ∙ ap not t))),
  λ b. told ends (sym (ap is_some (fault ∙ begins_error (drop n bytes) (subst BeginsCharacter is b))) ∙ e),
)

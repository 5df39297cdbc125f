-- The bytes after the last LF: no byte of another character is one.
use Rattle.std.proofs.Common.{◌≡◌, refl, ℕ, suc, ◌+◌, ◌/◌, ◌%◌, ◌<◌, ◌≤◌, Bool, true, false, cond, ◌==◌, ◌||◌, List, [], ◌∷◌, ◌++◌, length, ⊎_elim, sym, ◌∙◌, ap, subst, append_assoc, arith, length-append}
use Rattle.std.proofs.lemmas.Bool.{cases_lt}
use Rattle.std.proofs.lemmas.List.Folds.{list_any-append}
use Rattle.std.proofs.lemmas.List.{nil_from_length}
use Rattle.std.specs.Char.{encode_utf8}
use Rattle.std.specs.Str.{encode_utf8_all, all_scalars}
use Rattle.bye_terms.proofs.Tests.{bool_cases, both_parts}
use Rattle.bye_lex.specs.Utf8.{BeginsCharacter}
use Rattle.bye_lex.proofs.Branches.{eqb_same, neither}
use Rattle.bye_lex.proofs.Encodings.{encode_one, encode_two, encode_three, encode_four}
use Rattle.bye_lex.proofs.Utf8Laws.{begins_none}
use Rattle.bye_tsv.specs.Feeding.{HasCome}
use Rattle.bye_tsv.specs.Kept.{has_lf, unfinished}
use Rattle.bye_tsv.specs.Reading.{ReadingAt}
use Rattle.bye_tsv.specs.declared.fault.Bounds.{Bounds}
use Rattle.bye_lex.proofs.Fronts.{Longer, back_scalars, split}

-- characters
high : (b : ℕ) → 128 ≤ b → (b == 10) ≡ false
high b h = grind arith

parts_of : (x y : Bool) → (x || y) ≡ false → (x ≡ false) × (y ≡ false)
parts_of false y e = (refl, e)
parts_of true y e = cc

-- no byte of another character is an LF
pub char_lf : (c : ℕ) → (c == 10) ≡ false → has_lf (encode_utf8 c) ≡ false
char_lf c e =
    ⊎_elim (λ (a : c < 0x80). ap has_lf (encode_one c a) ∙ neither (c == 10) _ e refl)
    (λ (a : 0x80 ≤ c). ⊎_elim
    (λ (b : c < 0x800). ap has_lf (encode_two c a b) ∙ neither _ _ (high (192 + c / 64) (omega arith)) (last (c % 64)))
    (λ (b : 0x800 ≤ c). ⊎_elim
    (λ (d : c < 0x1_0000). ap has_lf (encode_three c b d) ∙ neither _ _ (high (224 + c / 4096) (omega arith)) (neither _ _ (high (128 + c / 64 % 64) (omega arith)) (last (c % 64))))
    (λ (d : 0x1_0000 ≤ c). ap has_lf (encode_four c d)
    ∙ neither _ _ (high (240 + c / 262144) (omega arith)) (neither _ _ (high (128 + c / 4096 % 64) (omega arith)) (neither _ _ (high (128 + c / 64 % 64) (omega arith)) (last (c % 64)))))
    (cases_lt c 0x1_0000))
    (cases_lt c 0x800))
    (cases_lt c 0x80)
  where
    last : (n : ℕ) → has_lf ((128 + n) ∷ []) ≡ false
    last n = neither _ _ (high (128 + n) (omega arith)) refl

-- a front of bytes without one has none
front_lf : (front back : List ℕ) → has_lf (front ++ back) ≡ false → has_lf front ≡ false
front_lf front back e = (parts_of _ _ (sym (list_any-append (λ b. b == 10) front back) ∙ e)).0

-- bytes without one stand after it too
pub unfinished_more : (bytes more : List ℕ) → has_lf more ≡ false → unfinished (bytes ++ more) ≡ unfinished bytes ++ more
unfinished_more [] [] e = refl
unfinished_more [] (m ∷ more) e = ap (λ b. cond b (unfinished more) (m ∷ more)) e
unfinished_more (b ∷ bytes) more e = ap (λ x. cond x (unfinished (bytes ++ more)) (b ∷ bytes ++ more)) same ∙ go (has_lf (b ∷ bytes)) (unfinished_more bytes more e)
  where
    or_false : (x y : Bool) → y ≡ false → (x || y) ≡ x
    or_false true y e = refl
    or_false false y e = e

    same : has_lf (b ∷ bytes ++ more) ≡ has_lf (b ∷ bytes)
    same = list_any-append (λ b. b == 10) (b ∷ bytes) more ∙ or_false _ _ e

    go : (x : Bool) → unfinished (bytes ++ more) ≡ unfinished bytes ++ more → cond x (unfinished (bytes ++ more)) (b ∷ bytes ++ more) ≡ cond x (unfinished bytes) (b ∷ bytes) ++ more
    go true h = h
    go false h = refl

-- they are no more than all bytes
pub unfinished_within : (bytes : List ℕ) → length (unfinished bytes) ≤ length bytes
unfinished_within [] = omega arith
unfinished_within (b ∷ bytes) = go (has_lf (b ∷ bytes)) (unfinished_within bytes)
  where
    go : (x : Bool) → length (unfinished bytes) ≤ length bytes → length (cond x (unfinished bytes) (b ∷ bytes)) ≤ suc (length bytes)
    go true h = omega (arith, h)
    go false h = omega arith

-- what begins a character has none
begins_lf : (left : List ℕ) → BeginsCharacter left → has_lf left ≡ false
begins_lf left b = ⊎_elim lf other (bool_cases (b.char == 10))
  where
    lf : (b.char == 10) ≡ true → has_lf left ≡ false
    lf e =
        let is : 10 ∷ [] ≡ left ++ b.next ∷ b.more = sym (ap encode_utf8 (eqb_same b.char 10 e) ∙ encode_one 10 (omega arith)) ∙ b.is in
        let n = ap length is ∙ length-append left (b.next ∷ b.more) in
        ap has_lf (nil_from_length left (omega (arith, n)))

    other : (b.char == 10) ≡ false → has_lf left ≡ false
    other e = front_lf left (b.next ∷ b.more) (ap has_lf (sym b.is) ∙ char_lf b.char e)

-- what is left over of bytes that have come begins a character
left_begins : (bounds : Bounds) (bytes : List ℕ) (reading : ReadingAt) → HasCome bounds bytes reading → BeginsCharacter reading.left
left_begins bounds bytes reading h =
    ⊎_elim
    (λ (z : (z : List ℕ) × (h.may.front ≡ h.front ++ z) × (reading.left ≡ encode_utf8_all z ++ h.may.left)). further z.0 z.1 z.2)
    (λ (z : Longer h.front h.may.front reading.left h.may.left).
    absurd (begins_none h.may.left h.may.begins z.next (encode_utf8_all z.more ++ reading.left) z.scalar (z.rest ∙ append_assoc (encode_utf8 z.next) (encode_utf8_all z.more) reading.left)))
    (split h.front h.may.front reading.left h.may.left h.led.scalars h.may.scalars (sym h.parts ∙ h.may.parts))
  where
    further : (z : List ℕ) → h.may.front ≡ h.front ++ z → reading.left ≡ encode_utf8_all z ++ h.may.left → BeginsCharacter reading.left
    further [] a b = subst BeginsCharacter (sym b) h.may.begins
    further (c ∷ z) a b =
        let is = both_parts _ _ (back_scalars h.front (c ∷ z) (ap all_scalars (sym a) ∙ h.may.scalars)) in
        absurd (h.none c (encode_utf8_all z ++ h.may.left) is.0 (b ∙ append_assoc (encode_utf8 c) (encode_utf8_all z) h.may.left))

pub left_lf : (bounds : Bounds) (bytes : List ℕ) (reading : ReadingAt) → HasCome bounds bytes reading → has_lf reading.left ≡ false
left_lf bounds bytes reading h = begins_lf reading.left (left_begins bounds bytes reading h)

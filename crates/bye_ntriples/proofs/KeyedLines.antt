-- Lines that are sorted with their keys are sorted.
use Rattle.std.proofs.Common.{◌≡◌, refl, ℕ, ◌+◌, ◌/◌, ◌%◌, ◌<◌, Bool, true, false, cond, List, [], ◌∷◌, ◌++◌, take, drop, map, Bor, ⊎_elim, sym, subst, arith}
use Rattle.std.specs.List.{AllByRecursion}
use Rattle.std.specs.List.Sorted.{IsPermutation, IsSortedBy}
use Rattle.std.specs.Cmp.Lexicographic.{slice_cmp}
use Rattle.std.specs.Ordering.{nat_cmp, is_lt, ordering_then}
use Rattle.std.specs.Str.{IsUtf8, encode_utf8_all, all_scalars}
use Rattle.std.proofs.Math.Utf8.{encode, scalar, scalar_cases}
use Rattle.std.proofs.Math.Dec.{ltb}
use Rattle.std.proofs.lemmas.Bool.{ltb-true}
use Rattle.std.proofs.lemmas.List.{take-append-drop}
use Rattle.std.proofs.lemmas.List.Sorted.{IsPermutation-sym}
use Rattle.bye_terms.specs.Members.{In}
use Rattle.bye_terms.proofs.Members.{all_in, all_from}
use Rattle.bye_terms.proofs.Tests.{both_parts}
use Rattle.bye_ntriples.specs.Keys.{Chosen, Keyed, IsKeyed, AreKeyed}
use Rattle.bye_ntriples.specs.KeyLists.{keyed_of}
use Rattle.bye_ntriples.specs.Writing.{parts, Ascends}
use Rattle.bye_ntriples.proofs.KeyOrder.{AreBytes, line_order}
use Rattle.bye_ntriples.proofs.Spelled.{all_join}
use Rattle.bye_ntriples.proofs.Sorted.{ascends, map_in, moved}

-- the bytes of UTF-8
bytes_of : (c : ℕ) (a b d : Bool) → c < 1114112 → ltb c 128 ≡ a → ltb c 2048 ≡ b → ltb c 65536 ≡ d
    → AreBytes (cond a (c ∷ []) (cond b ((192 + c / 64) ∷ (128 + c % 64) ∷ []) (cond d ((224 + c / 4096) ∷ (128 + c / 64 % 64) ∷ (128 + c % 64) ∷ []) ((240 + c / 262144) ∷ (128 + c / 4096 % 64) ∷ (128 + c / 64 % 64) ∷ (128 + c % 64) ∷ []))))
bytes_of c true b d l e f g = let h = ltb-true c 128 e in (omega arith, tt)
bytes_of c false true d l e f g = let h = ltb-true c 2048 f in (omega arith, (omega arith, tt))
bytes_of c false false true l e f g = let h = ltb-true c 65536 g in (omega arith, (omega arith, (omega arith, tt)))
bytes_of c false false false l e f g = (omega arith, (omega arith, (omega arith, (omega arith, tt))))

one_char : (c : ℕ) → scalar c ≡ true → AreBytes (encode c)
unfolding encode
one_char c h =
    let l : c < 1114112 = ⊎_elim (λ k. omega arith) (λ k. k.1) (scalar_cases c h) in
    bytes_of c (ltb c 128) (ltb c 2048) (ltb c 65536) l refl refl refl

chars : (cs : List ℕ) → all_scalars cs ≡ true → AreBytes (encode_utf8_all cs)
chars [] h = tt
chars (c ∷ cs) h = let k = both_parts (scalar c) (all_scalars cs) h in all_join (λ b. b < 256) (encode c) (encode_utf8_all cs) (one_char c k.0) (chars cs k.1)

pub are_bytes : (text : List ℕ) → IsUtf8 text → AreBytes text
are_bytes text u = subst AreBytes u.1.1 (chars u.0 u.1.0)

split : (a b : List ℕ) → AreBytes (a ++ b) → AreBytes a × AreBytes b
split [] b h = (tt, h)
split (c ∷ a) b h = let k = split a b h.1 in ((h.0, k.0), k.1)

parts_bytes : (ns : List ℕ) (text : List ℕ) → AreBytes text → AllByRecursion AreBytes (parts ns text)
parts_bytes [] text h = tt
parts_bytes (n ∷ ns) text h = let k = split (take n text) (drop n text) (subst AreBytes (sym (take-append-drop n text)) h) in (k.0, parts_bytes ns (drop n text) k.1)

abbrev Item : Type 0
Item = ℕ × ℕ × Bor (List ℕ)

abbrev of : Item → Keyed
of k = record { first = k.0; second = k.1; line = k.2.now }

abbrev Good : Chosen → Item → Type 0
Good chosen x = IsKeyed chosen (of x) × AreBytes x.2.now

abbrev test : Item → Item → Bool
test x y = is_lt (ordering_then (ordering_then (nat_cmp x.0 y.0) (nat_cmp x.1 y.1)) (slice_cmp nat_cmp x.2.now y.2.now))

pub sorted_lines : (items sorted : List Item) (lengths text : List ℕ) → AreKeyed (keyed_of items) → map (λ k. k.2.now) items ≡ parts lengths text → AreBytes text → IsPermutation items sorted → IsSortedBy test sorted
    → Ascends [] (map (λ k. k.2.now) sorted)
sorted_lines items sorted lengths text keys lines bytes same order =
    let good : (x : Item) → In items x → Good keys.chosen x = λ x h. (
      all_in (IsKeyed keys.chosen) (keyed_of items) (of x) keys.each (map_in of items x h),
      all_in AreBytes (parts lengths text) x.2.now (parts_bytes lengths text bytes) (subst (λ ls. In ls x.2.now) lines (map_in (λ (k : Item). k.2.now) items x h)),
    ) in
    let all : AllByRecursion (Good keys.chosen) sorted = all_from (Good keys.chosen) sorted (λ x h. good x (moved sorted items x (IsPermutation-sym items sorted same) h)) in
    ascends (λ k. k.2.now) test (Good keys.chosen) (λ x y g h e. line_order keys.chosen (of y) (of x) h.0 g.0 h.1 e) sorted all order

-- The order of lists that are compared a part at a time.
use Rattle.std.proofs.Common.{◌≡◌, refl, ℕ, List, [], ◌∷◌, ◌++◌, length, min, ◌≤◌, take, drop, append_assoc, Ordering, Less, Equal, Greater, sym, ◌∙◌, ap, arith}
use Rattle.std.specs.Cmp.Lexicographic.{slice_cmp}
use Rattle.std.specs.Ordering.{nat_cmp, ordering_then}
use Rattle.std.specs.Cmp.{nat_cmp_is}
use Rattle.std.proofs.lemmas.Grind.{common_steps}
use Rattle.std.proofs.lemmas.List.{take-append-le, take-append-drop}

then_equal : (o r : Ordering) → ordering_then o r ≡ Equal → (o ≡ Equal) × (r ≡ Equal)
then_equal Less r e = cc
then_equal Equal r e = (refl, e)
then_equal Greater r e = cc

then_same : (o r s : Ordering) → (o ≡ Equal → r ≡ s) → ordering_then o r ≡ ordering_then o s
then_same Less r s same = refl
then_same Equal r s same = same refl
then_same Greater r s same = refl

-- parts of one length that are equal leave the order to what follows
pub equal_parts : (a b p q : List ℕ) → length a ≡ length b → slice_cmp nat_cmp a b ≡ Equal → slice_cmp nat_cmp (a ++ p) (b ++ q) ≡ slice_cmp nat_cmp p q
equal_parts [] [] p q n e = refl
equal_parts [] (y ∷ b) p q n e = absurd (omega arith)
equal_parts (x ∷ a) [] p q n e = absurd (omega arith)
equal_parts (x ∷ a) (y ∷ b) p q n e =
    let w = then_equal (nat_cmp x y) (slice_cmp nat_cmp a b) e in
    ap (λ o. ordering_then o (slice_cmp nat_cmp (a ++ p) (b ++ q))) w.0 ∙ equal_parts a b p q (omega arith) w.1

-- parts of one length that are not equal decide it
pub other_parts : (a b p q : List ℕ) → length a ≡ length b → (slice_cmp nat_cmp a b ≡ Equal → ⊥) → slice_cmp nat_cmp (a ++ p) (b ++ q) ≡ slice_cmp nat_cmp a b
other_parts [] [] p q n differ = absurd (differ refl)
other_parts [] (y ∷ b) p q n differ = absurd (omega arith)
other_parts (x ∷ a) [] p q n differ = absurd (omega arith)
other_parts (x ∷ a) (y ∷ b) p q n differ =
    then_same (nat_cmp x y) _ _ (λ e. other_parts a b p q (omega arith) (λ k. differ (ap (λ o. ordering_then o (slice_cmp nat_cmp a b)) e ∙ k)))

-- where a part is empty, and so all that is left there, the lengths of the parts decide
pub ended : (h k p q x y : List ℕ) → x ≡ h ++ p → y ≡ k ++ q → (h ≡ [] → x ≡ []) → (k ≡ [] → y ≡ []) → min (length h) (length k) ≡ 0
    → nat_cmp (length h) (length k) ≡ slice_cmp nat_cmp x y
ended [] [] p q x y a b u v n = sym (λ i. slice_cmp nat_cmp (u refl i) (v refl i))
ended [] (c ∷ k) p q x y a b u v n = sym (nat_cmp_is 0 (length (c ∷ k)) Less (omega arith)) ∙ sym (λ i. slice_cmp nat_cmp (u refl i) (b i))
ended (c ∷ h) [] p q x y a b u v n = sym (nat_cmp_is (length (c ∷ h)) 0 Greater (omega arith)) ∙ sym (λ i. slice_cmp nat_cmp (a i) (v refl i))
ended (c ∷ h) (d ∷ k) p q x y a b u v n = absurd (omega arith)

rejoined : (n : ℕ) (h p : List ℕ) → take n h ++ (drop n h ++ p) ≡ h ++ p
rejoined n h p = sym (append_assoc (take n h) (drop n h) p) ∙ ap (λ x. x ++ p) (take-append-drop n h)

-- equal fronts of two texts, and what follows them
pub past_equal : (h k p q : List ℕ) (n : ℕ) → n ≤ length h → n ≤ length k → slice_cmp nat_cmp (take n h) (take n k) ≡ Equal
    → slice_cmp nat_cmp (drop n (h ++ p)) (drop n (k ++ q)) ≡ slice_cmp nat_cmp (h ++ p) (k ++ q)
past_equal h k p q n in_h in_k e =
    let same : length (take n (h ++ p)) ≡ length (take n (k ++ q)) = grind (arith, common_steps) in
    let equal : slice_cmp nat_cmp (take n (h ++ p)) (take n (k ++ q)) ≡ Equal =
    (λ i. slice_cmp nat_cmp (take-append-le n h p in_h i) (take-append-le n k q in_k i)) ∙ e in
    sym (equal_parts (take n (h ++ p)) (take n (k ++ q)) (drop n (h ++ p)) (drop n (k ++ q)) same equal)
    ∙ (λ i. slice_cmp nat_cmp (take-append-drop n (h ++ p) i) (take-append-drop n (k ++ q) i))

-- fronts of two texts that are not equal
pub at_other : (h k p q : List ℕ) (n : ℕ) → n ≤ length h → n ≤ length k → (slice_cmp nat_cmp (take n h) (take n k) ≡ Equal → ⊥)
    → slice_cmp nat_cmp (take n h) (take n k) ≡ slice_cmp nat_cmp (h ++ p) (k ++ q)
at_other h k p q n in_h in_k differ =
    let same : length (take n h) ≡ length (take n k) = grind (arith, common_steps) in
    sym (other_parts (take n h) (take n k) (drop n h ++ p) (drop n k ++ q) same differ)
    ∙ (λ i. slice_cmp nat_cmp (rejoined n h p i) (rejoined n k q i))

-- The machine of labels of blank nodes reads them.
use Rattle.std.proofs.Common.{◌≡◌, refl, ℕ, true, false, cond, ◌==◌, List, [], ◌∷◌, ◌++◌, Some, None, ⊎_elim, sym, ◌∙◌, ap, subst, append_assoc, codes}
use Rattle.std.proofs.lemmas.List.{append-nil}
use Rattle.bye_terms.specs.Characters.{is_label_start, is_label_part}
use Rattle.bye_terms.specs.Names.{is_label_rest, is_label}
use Rattle.bye_lex.specs.LabelSteps.{step, final, goes_on}
use Rattle.bye_lex.specs.Marks.{LabelToken}
use Rattle.bye_lex.specs.declared.label.LabelAt.{LabelAt}
use Rattle.bye_lex.specs.declared.label.LabelAt.TheVariants.{Start, Underscore, Colon, In, Dotted}
use Rattle.bye_lex.specs.Languages.{Viable}
use Rattle.bye_lex.proofs.Branches.{and_true, either, eqb_same, heads, neither_way, no_way, none_some, or_first, or_second, pick_of, same_eqb, snoc, some_same, some_way, when}
use Rattle.bye_lex.proofs.Scans.{Exact}
use Rattle.bye_terms.proofs.Tests.{both_parts}

-- What each state still wants, in the grammar's words.
abbrev pub Left : LabelAt → List ℕ → List ℕ → Type 0
Left Start text value = LabelToken text value
Left Underscore text value = (text ≡ 58 ∷ value) × (is_label value ≡ true)
Left Colon text value = (text ≡ value) × (is_label value ≡ true)
Left (In label) text value = (value ≡ label ++ text) × (is_label_rest false text ≡ true)
Left (Dotted label dots) text value = (value ≡ label ++ (dots ++ text)) × (is_label_rest true text ≡ true)

-- forward
abbrev Next : LabelAt → ℕ → List ℕ → List ℕ → Type 0
Next s c t v = (n : LabelAt) × (step s c ≡ Some n) × Left n t v

begins : (c : ℕ) (t v : List ℕ) → c ∷ t ≡ v → is_label v ≡ true → (is_label_start c ≡ true) × (is_label_rest false t ≡ true)
begins c t v e is = both_parts _ _ (ap is_label e ∙ is)

part_on : (c : ℕ) (x y : LabelAt) → is_label_part c ≡ true → cond (is_label_part c) (Some x) (cond (c == 46) (Some y) None) ≡ Some x
part_on c x y k = when _ _ _ k

dot_on : (c : ℕ) (x y : LabelAt) → (c == 46) ≡ true → cond (is_label_part c) (Some x) (cond (c == 46) (Some y) None) ≡ Some y
dot_on c x y k = ap (λ c. cond (is_label_part c) (Some x) (cond (c == 46) (Some y) None)) (eqb_same c 46 k)

forth : (s : LabelAt) (c : ℕ) (t v : List ℕ) → Left s (c ∷ t) v → Next s c t v
forth Start c t v h = let e = heads c 95 t (58 ∷ v) h.0 in (Underscore, when _ _ _ (same_eqb c 95 e.0), (e.1, h.1))
forth Underscore c t v h = let e = heads c 58 t v h.0 in (Colon, when _ _ _ (same_eqb c 58 e.0), (e.1, h.1))
forth Colon c t v h = let k = begins c t v h.0 h.1 in (In (c ∷ []), when _ _ _ k.0, (sym h.0, k.1))
forth (In label) c t v h =
    ⊎_elim
    (λ (k : (is_label_part c ≡ true) × (is_label_rest false t ≡ true)).
    let n : Next (In label) c t v = (In (label ++ c ∷ []), part_on c (In (label ++ c ∷ [])) (Dotted label (46 ∷ [])) k.0, (h.0 ∙ snoc label t c, k.1)) in n)
    (λ (k : ((c == 46) ≡ true) × (is_label_rest true t ≡ true)).
    let n : Next (In label) c t v = (Dotted label (46 ∷ []), dot_on c (In (label ++ c ∷ [])) (Dotted label (46 ∷ [])) k.0, (h.0 ∙ ap (λ c. label ++ c ∷ t) (eqb_same c 46 k.0), k.1)) in n)
    (either _ _ _ _ h.1)
forth (Dotted label dots) c t v h =
    ⊎_elim
    (λ (k : (is_label_part c ≡ true) × (is_label_rest false t ≡ true)).
    let n : Next (Dotted label dots) c t v = (
      In ((label ++ dots) ++ c ∷ []),
      part_on c (In ((label ++ dots) ++ c ∷ [])) (Dotted label (dots ++ 46 ∷ [])) k.0,
      (h.0 ∙ sym (append_assoc label dots (c ∷ t)) ∙ snoc (label ++ dots) t c, k.1),
    ) in n)
    (λ (k : ((c == 46) ≡ true) × (is_label_rest true t ≡ true)).
    let n : Next (Dotted label dots) c t v = (
      Dotted label (dots ++ 46 ∷ []),
      dot_on c (In ((label ++ dots) ++ c ∷ [])) (Dotted label (dots ++ 46 ∷ [])) k.0,
      (h.0 ∙ ap (λ c. label ++ (dots ++ c ∷ t)) (eqb_same c 46 k.0) ∙ ap (λ w. label ++ w) (snoc dots t 46), k.1),
    ) in n)
    (either _ _ _ _ h.1)

-- backward
at : (n m : LabelAt) (t v : List ℕ) → n ≡ m → Left n t v → Left m t v
at n m t v e h = subst (λ (n : LabelAt). Left n t v) e h

back : (s n : LabelAt) (c : ℕ) (t v : List ℕ) → step s c ≡ Some n → Left n t v → Left s (c ∷ t) v
back Start n c t v e h =
    pick_of _ _ _ _ e
    (λ b k. let a : (t ≡ 58 ∷ v) × (is_label v ≡ true) = at n Underscore t v k h in
    (ap (λ c. c ∷ t) (eqb_same c 95 b) ∙ ap (λ t. 95 ∷ t) a.0, a.1))
    (λ k. none_some k)
back Underscore n c t v e h =
    pick_of _ _ _ _ e
    (λ b k. let a : (t ≡ v) × (is_label v ≡ true) = at n Colon t v k h in (ap (λ c. c ∷ t) (eqb_same c 58 b) ∙ ap (λ t. 58 ∷ t) a.0, a.1))
    (λ k. none_some k)
back Colon n c t v e h =
    pick_of _ _ _ _ e
    (λ b k. let a : (v ≡ c ∷ t) × (is_label_rest false t ≡ true) = at n (In (c ∷ [])) t v k h in (sym a.0, ap is_label a.0 ∙ and_true _ _ b a.1))
    (λ k. none_some k)
back (In label) n c t v e h =
    pick_of _ _ _ _ e
    (λ b k. let a : (v ≡ (label ++ c ∷ []) ++ t) × (is_label_rest false t ≡ true) = at n (In (label ++ c ∷ [])) t v k h in
    (a.0 ∙ sym (snoc label t c), or_first _ _ (and_true _ _ b a.1)))
    (λ k. pick_of _ _ _ _ k
    (λ b k. let a : (v ≡ label ++ (46 ∷ t)) × (is_label_rest true t ≡ true) = at n (Dotted label (46 ∷ [])) t v k h in
    (a.0 ∙ ap (λ c. label ++ c ∷ t) (sym (eqb_same c 46 b)), or_second _ _ (and_true _ _ b a.1)))
    (λ k. none_some k))
back (Dotted label dots) n c t v e h =
    pick_of _ _ _ _ e
    (λ b k. let a : (v ≡ ((label ++ dots) ++ c ∷ []) ++ t) × (is_label_rest false t ≡ true) = at n (In ((label ++ dots) ++ c ∷ [])) t v k h in
    (a.0 ∙ sym (snoc (label ++ dots) t c) ∙ append_assoc label dots (c ∷ t), or_first _ _ (and_true _ _ b a.1)))
    (λ k. pick_of _ _ _ _ k
    (λ b k. let a : (v ≡ label ++ ((dots ++ 46 ∷ []) ++ t)) × (is_label_rest true t ≡ true) = at n (Dotted label (dots ++ 46 ∷ [])) t v k h in
    (a.0 ∙ ap (λ w. label ++ w) (sym (snoc dots t 46)) ∙ ap (λ c. label ++ (dots ++ c ∷ t)) (sym (eqb_same c 46 b)), or_second _ _ (and_true _ _ b a.1)))
    (λ k. none_some k))

-- each state can go on
pub can : (s : LabelAt) → Viable (Left s) []
can Start = record { more = codes "_:a"; scalars = refl; value = codes "a"; whole = (refl, refl) }
can Underscore = record { more = codes ":a"; scalars = refl; value = codes "a"; whole = (refl, refl) }
can Colon = record { more = codes "a"; scalars = refl; value = codes "a"; whole = (refl, refl) }
can (In label) = record { more = []; scalars = refl; value = label ++ []; whole = (refl, refl) }
can (Dotted label dots) = record { more = codes "a"; scalars = refl; value = label ++ (dots ++ codes "a"); whole = (refl, refl) }

ends : (s : LabelAt) (v : List ℕ) → Left s [] v → final s ≡ Some v
ends Start v h = let e = h.0 in cc
ends Underscore v h = let e = h.0 in cc
ends Colon v h = let e : is_label [] ≡ true = ap is_label h.0 ∙ h.1 in cc
ends (In label) v h = ap Some (sym (h.0 ∙ append-nil label))
ends (Dotted label dots) v h = let e = h.1 in cc

may_end : (s : LabelAt) (v : List ℕ) → final s ≡ Some v → Left s [] v
may_end Start v e = none_some e
may_end Underscore v e = none_some e
may_end Colon v e = none_some e
may_end (In label) v e = (sym (some_same e) ∙ sym (append-nil label), refl)
may_end (Dotted label dots) v e = none_some e

pub label_exact : Exact Left step final
label_exact = record {
  forth = forth;
  back = λ s n c t v a e h. back s n c t v e h;
  alive = λ s n c a e. can n;
  ends = ends;
  may_end = may_end;
}

-- after a label or dots, the character goes on or it does not
pub in_stops : (label : List ℕ) (c : ℕ) → goes_on c ≡ false → step (In label) c ≡ None
in_stops label c e = no_way (is_label_part c) (c == 46) (In (label ++ c ∷ [])) (Dotted label (46 ∷ [])) e

pub dots_stop : (label dots : List ℕ) (c : ℕ) → goes_on c ≡ false → step (Dotted label dots) c ≡ None
dots_stop label dots c e = no_way (is_label_part c) (c == 46) (In ((label ++ dots) ++ c ∷ [])) (Dotted label (dots ++ 46 ∷ [])) e

pub stopped_dots : (label dots : List ℕ) (c : ℕ) → step (Dotted label dots) c ≡ None → goes_on c ≡ false
stopped_dots label dots c e = neither_way (is_label_part c) (c == 46) (In ((label ++ dots) ++ c ∷ [])) (Dotted label (dots ++ 46 ∷ [])) e

pub gone_on : (label dots : List ℕ) (c : ℕ) (n : LabelAt) → step (Dotted label dots) c ≡ Some n → goes_on c ≡ true
gone_on label dots c n e = some_way (is_label_part c) (c == 46) (In ((label ++ dots) ++ c ∷ [])) (Dotted label (dots ++ 46 ∷ [])) n e

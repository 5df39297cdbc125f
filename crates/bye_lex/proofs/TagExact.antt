-- The machine of language tags reads them.
use Rattle.std.proofs.Common.{◌≡◌, refl, ℕ, Bool, true, false, cond, ◌==◌, ◌&&◌, List, [], ◌∷◌, ◌++◌, Some, None, ⊎_elim, sym, ◌∙◌, ap, subst, codes}
use Rattle.std.proofs.lemmas.List.{append-nil}
use Rattle.bye_terms.specs.Characters.{is_letter, is_letter_or_digit}
use Rattle.bye_terms.specs.Names.{is_subtags, is_tag_rest, is_tag}
use Rattle.bye_lex.specs.TagSteps.{step, final}
use Rattle.bye_lex.specs.Marks.{TagToken}
use Rattle.bye_lex.specs.declared.tag.TagAt.{TagAt}
use Rattle.bye_lex.specs.declared.tag.TagAt.TheVariants.{Start, Sign, Letters, Hyphen, Subtag}
use Rattle.bye_lex.specs.Languages.{Viable}
use Rattle.bye_lex.proofs.Branches.{and_true, either, eqb_same, heads, none_some, or_first, or_second, pick_of, same_eqb, snoc, some_same, unless, when}
use Rattle.bye_lex.proofs.Scans.{Exact}
use Rattle.bye_terms.proofs.Tests.{both_parts}

-- What each state still wants, in the grammar's words.
abbrev pub Left : TagAt → List ℕ → List ℕ → Type 0
Left Start text value = TagToken text value
Left Sign text value = (text ≡ value) × (is_tag value ≡ true)
Left (Letters tag) text value = (value ≡ tag ++ text) × (is_tag_rest text ≡ true)
Left (Hyphen tag) text value = (value ≡ tag ++ 45 ∷ text) × (is_subtags true text ≡ true)
Left (Subtag tag) text value = (value ≡ tag ++ text) × (is_subtags false text ≡ true)

-- forward
abbrev Next : TagAt → ℕ → List ℕ → List ℕ → Type 0
Next s c t v = (n : TagAt) × (step s c ≡ Some n) × Left n t v

begins : (c : ℕ) (t v : List ℕ) → c ∷ t ≡ v → is_tag v ≡ true → (is_letter c ≡ true) × (is_tag_rest t ≡ true)
begins c t v e is = both_parts _ _ (ap is_tag e ∙ is)

-- a hyphen where one more may stand
hyphen_on : (b : Bool) (c : ℕ) (x y : TagAt) (p : ℕ → Bool) → p 45 ≡ false → (c == 45) ≡ true → cond (p c) (Some x) (cond (c == 45) (Some y) None) ≡ Some y
hyphen_on b c x y p off k = ap (λ c. cond (p c) (Some x) (cond (c == 45) (Some y) None)) (eqb_same c 45 k) ∙ unless _ _ _ _ off refl

no_due : (b : Bool) → (b && true) ≡ true → b ≡ true
no_due true e = refl
no_due false e = cc

never_due : (b : Bool) → (b && false) ≡ true → ⊥
never_due true e = cc
never_due false e = cc

with_due : (b : Bool) → b ≡ true → (b && true) ≡ true
with_due true e = refl
with_due false e = cc

forth : (s : TagAt) (c : ℕ) (t v : List ℕ) → Left s (c ∷ t) v → Next s c t v
forth Start c t v h = let e = heads c 64 t v h.0 in (Sign, when _ _ _ (same_eqb c 64 e.0), (e.1, h.1))
forth Sign c t v h = let k = begins c t v h.0 h.1 in (Letters (c ∷ []), when _ _ _ k.0, (sym h.0, k.1))
forth (Letters tag) c t v h =
    ⊎_elim
    (λ (k : (is_letter c ≡ true) × (is_tag_rest t ≡ true)).
    let n : Next (Letters tag) c t v = (Letters (tag ++ c ∷ []), when _ _ _ k.0, (h.0 ∙ snoc tag t c, k.1)) in n)
    (λ (k : ((c == 45) ≡ true) × (is_subtags true t ≡ true)).
    let n : Next (Letters tag) c t v = (Hyphen tag, hyphen_on true c (Letters (tag ++ c ∷ [])) (Hyphen tag) is_letter refl k.0, (h.0 ∙ ap (λ c. tag ++ c ∷ t) (eqb_same c 45 k.0), k.1)) in n)
    (either _ _ _ _ h.1)
forth (Hyphen tag) c t v h =
    ⊎_elim
    (λ (k : (is_letter_or_digit c ≡ true) × (is_subtags false t ≡ true)).
    let n : Next (Hyphen tag) c t v = (Subtag ((tag ++ 45 ∷ []) ++ c ∷ []), when _ _ _ k.0, (h.0 ∙ snoc tag (c ∷ t) 45 ∙ snoc (tag ++ 45 ∷ []) t c, k.1)) in n)
    (λ (k : (((c == 45) && false) ≡ true) × (is_subtags true t ≡ true)). absurd (never_due _ k.0))
    (either _ _ _ _ h.1)
forth (Subtag tag) c t v h =
    ⊎_elim
    (λ (k : (is_letter_or_digit c ≡ true) × (is_subtags false t ≡ true)).
    let n : Next (Subtag tag) c t v = (Subtag (tag ++ c ∷ []), when _ _ _ k.0, (h.0 ∙ snoc tag t c, k.1)) in n)
    (λ (k : (((c == 45) && true) ≡ true) × (is_subtags true t ≡ true)).
    let f = no_due _ k.0 in
    let n : Next (Subtag tag) c t v = (Hyphen tag, hyphen_on true c (Subtag (tag ++ c ∷ [])) (Hyphen tag) is_letter_or_digit refl f, (h.0 ∙ ap (λ c. tag ++ c ∷ t) (eqb_same c 45 f), k.1)) in n)
    (either _ _ _ _ h.1)

-- backward
at : (n m : TagAt) (t v : List ℕ) → n ≡ m → Left n t v → Left m t v
at n m t v e h = subst (λ (n : TagAt). Left n t v) e h

back : (s n : TagAt) (c : ℕ) (t v : List ℕ) → step s c ≡ Some n → Left n t v → Left s (c ∷ t) v
back Start n c t v e h =
    pick_of _ _ _ _ e
    (λ b k. let a : (t ≡ v) × (is_tag v ≡ true) = at n Sign t v k h in (ap (λ c. c ∷ t) (eqb_same c 64 b) ∙ ap (λ t. 64 ∷ t) a.0, a.1))
    (λ k. none_some k)
back Sign n c t v e h =
    pick_of _ _ _ _ e
    (λ b k. let a : (v ≡ c ∷ t) × (is_tag_rest t ≡ true) = at n (Letters (c ∷ [])) t v k h in (sym a.0, ap is_tag a.0 ∙ and_true _ _ b a.1))
    (λ k. none_some k)
back (Letters tag) n c t v e h =
    pick_of _ _ _ _ e
    (λ b k. let a : (v ≡ (tag ++ c ∷ []) ++ t) × (is_tag_rest t ≡ true) = at n (Letters (tag ++ c ∷ [])) t v k h in
    (a.0 ∙ sym (snoc tag t c), or_first _ _ (and_true _ _ b a.1)))
    (λ k. pick_of _ _ _ _ k
    (λ b k. let a : (v ≡ tag ++ 45 ∷ t) × (is_subtags true t ≡ true) = at n (Hyphen tag) t v k h in
    (a.0 ∙ ap (λ c. tag ++ c ∷ t) (sym (eqb_same c 45 b)), or_second _ _ (and_true _ _ b a.1)))
    (λ k. none_some k))
back (Hyphen tag) n c t v e h =
    pick_of _ _ _ _ e
    (λ b k. let a : (v ≡ ((tag ++ 45 ∷ []) ++ c ∷ []) ++ t) × (is_subtags false t ≡ true) = at n (Subtag ((tag ++ 45 ∷ []) ++ c ∷ [])) t v k h in
    (a.0 ∙ sym (snoc (tag ++ 45 ∷ []) t c) ∙ sym (snoc tag (c ∷ t) 45), or_first _ _ (and_true _ _ b a.1)))
    (λ k. none_some k)
back (Subtag tag) n c t v e h =
    pick_of _ _ _ _ e
    (λ b k. let a : (v ≡ (tag ++ c ∷ []) ++ t) × (is_subtags false t ≡ true) = at n (Subtag (tag ++ c ∷ [])) t v k h in
    (a.0 ∙ sym (snoc tag t c), or_first _ _ (and_true _ _ b a.1)))
    (λ k. pick_of _ _ _ _ k
    (λ b k. let a : (v ≡ tag ++ 45 ∷ t) × (is_subtags true t ≡ true) = at n (Hyphen tag) t v k h in
    (a.0 ∙ ap (λ c. tag ++ c ∷ t) (sym (eqb_same c 45 b)), or_second _ _ (and_true _ _ (with_due _ b) a.1)))
    (λ k. none_some k))

-- each state can go on
pub can : (s : TagAt) → Viable (Left s) []
can Start = record { more = codes "@a"; scalars = refl; value = codes "a"; whole = (refl, refl) }
can Sign = record { more = codes "a"; scalars = refl; value = codes "a"; whole = (refl, refl) }
can (Letters tag) = record { more = []; scalars = refl; value = tag ++ []; whole = (refl, refl) }
can (Hyphen tag) = record { more = codes "a"; scalars = refl; value = tag ++ codes "-a"; whole = (refl, refl) }
can (Subtag tag) = record { more = []; scalars = refl; value = tag ++ []; whole = (refl, refl) }

ends : (s : TagAt) (v : List ℕ) → Left s [] v → final s ≡ Some v
ends Start v h = let e = h.0 in cc
ends Sign v h = let e : is_tag [] ≡ true = ap is_tag h.0 ∙ h.1 in cc
ends (Letters tag) v h = ap Some (sym (h.0 ∙ append-nil tag))
ends (Hyphen tag) v h = let e = h.1 in cc
ends (Subtag tag) v h = ap Some (sym (h.0 ∙ append-nil tag))

may_end : (s : TagAt) (v : List ℕ) → final s ≡ Some v → Left s [] v
may_end Start v e = none_some e
may_end Sign v e = none_some e
may_end (Letters tag) v e = (sym (some_same e) ∙ sym (append-nil tag), refl)
may_end (Hyphen tag) v e = none_some e
may_end (Subtag tag) v e = (sym (some_same e) ∙ sym (append-nil tag), refl)

pub tag_exact : Exact Left step final
tag_exact = record {
  forth = forth;
  back = λ s n c t v a e h. back s n c t v e h;
  alive = λ s n c a e. can n;
  ends = ends;
  may_end = may_end;
}

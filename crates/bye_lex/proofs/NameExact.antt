-- The machine of names of variables reads them.
use Rattle.std.proofs.Common.{◌≡◌, refl, ℕ, true, List, [], ◌∷◌, ◌++◌, Some, sym, ◌∙◌, ap, subst, codes}
use Rattle.std.specs.List.{list_all}
use Rattle.std.proofs.lemmas.List.{append-nil}
use Rattle.bye_terms.specs.Characters.{is_name_part}
use Rattle.bye_terms.specs.Names.{is_name}
use Rattle.bye_lex.specs.NameSteps.{step, final}
use Rattle.bye_lex.specs.Marks.{NameToken}
use Rattle.bye_lex.specs.declared.name.NameAt.{NameAt}
use Rattle.bye_lex.specs.declared.name.NameAt.TheVariants.{Start, In}
use Rattle.bye_lex.specs.Languages.{Viable}
use Rattle.bye_lex.proofs.Branches.{and_true, none_some, pick_of, snoc, some_same, when}
use Rattle.bye_lex.proofs.Scans.{Exact}
use Rattle.bye_terms.proofs.Tests.{both_parts}

-- What each state still wants, in the grammar's words.
abbrev pub Left : NameAt → List ℕ → List ℕ → Type 0
Left Start text value = NameToken text value
Left (In name) text value = (value ≡ name ++ text) × (list_all is_name_part text ≡ true)

forth : (s : NameAt) (c : ℕ) (t v : List ℕ) → Left s (c ∷ t) v → (n : NameAt) × (step s c ≡ Some n) × Left n t v
forth Start c t v h = let k = both_parts _ _ (ap is_name h.0 ∙ h.1) in (In (c ∷ []), when _ _ _ k.0, (sym h.0, k.1))
forth (In name) c t v h = let k = both_parts _ _ h.1 in (In (name ++ c ∷ []), when _ _ _ k.0, (h.0 ∙ snoc name t c, k.1))

at : (n m : NameAt) (t v : List ℕ) → n ≡ m → Left n t v → Left m t v
at n m t v e h = subst (λ (n : NameAt). Left n t v) e h

back : (s n : NameAt) (c : ℕ) (t v : List ℕ) → step s c ≡ Some n → Left n t v → Left s (c ∷ t) v
back Start n c t v e h =
    pick_of _ _ _ _ e
    (λ b k. let a : (v ≡ c ∷ t) × (list_all is_name_part t ≡ true) = at n (In (c ∷ [])) t v k h in (sym a.0, ap is_name a.0 ∙ and_true _ _ b a.1))
    (λ k. none_some k)
back (In name) n c t v e h =
    pick_of _ _ _ _ e
    (λ b k. let a : (v ≡ (name ++ c ∷ []) ++ t) × (list_all is_name_part t ≡ true) = at n (In (name ++ c ∷ [])) t v k h in
    (a.0 ∙ sym (snoc name t c), and_true _ _ b a.1))
    (λ k. none_some k)

-- each state can go on
pub can : (s : NameAt) → Viable (Left s) []
can Start = record { more = codes "a"; scalars = refl; value = codes "a"; whole = (refl, refl) }
can (In name) = record { more = []; scalars = refl; value = name ++ []; whole = (refl, refl) }

ends : (s : NameAt) (v : List ℕ) → Left s [] v → final s ≡ Some v
ends Start v h = let e : is_name [] ≡ true = ap is_name h.0 ∙ h.1 in cc
ends (In name) v h = ap Some (sym (h.0 ∙ append-nil name))

may_end : (s : NameAt) (v : List ℕ) → final s ≡ Some v → Left s [] v
may_end Start v e = none_some e
may_end (In name) v e = (sym (some_same e) ∙ sym (append-nil name), refl)

pub name_exact : Exact Left step final
name_exact = record {
  forth = forth;
  back = λ s n c t v a e h. back s n c t v e h;
  alive = λ s n c a e. can n;
  ends = ends;
  may_end = may_end;
}

-- Numbers of terms: a list of distinct terms that grows at its end.
use Rattle.std.proofs.Common.{◌≡◌, refl, ℕ, zero, suc, ◌+◌, ◌<◌, ◌≤◌, true, false, cond, List, [], ◌∷◌, ◌++◌, append_assoc, append-nil, Option, Some, None, is_some, ◌⊎◌, inl, inr, ⊎_elim, sym, ◌∙◌, ap, subst, length, get_or, slice_get, position, take, arith}
use Rattle.std.specs.List.{list_any}
use Rattle.std.proofs.lemmas.List.Quantifiers.{position-Some}
use Rattle.std.proofs.lemmas.Option.{slice_get-get_or}
use Rattle.std.proofs.Math.Seq.{take-append_seam}
use Rattle.bye_terms.specs.declared.term.Term.{Term}
use Rattle.bye_terms.specs.Members.{In, EachOnce}
use Rattle.bye_terms.specs.Sameness.{same_term, terms_same, same_self}
use Rattle.bye_terms.proofs.Lists.{none_of}
use Rattle.bye_terms.proofs.Members.{in_cases, once_more}
use Rattle.bye_terms.proofs.Tests.{bool_cases, not_both}
use Rattle.indexmap.specs.IndexSet.{insert_key}
use Rattle.bye_graph.specs.Graphs.{term_of}
use Rattle.bye_graph.specs.Orders.{Grew, AreKept}

-- a term that no test finds is not there
not_there : (ts : List Term) (t : Term) → list_any (same_term t) ts ≡ false → In ts t → ⊥
not_there ts t none h = not_both (same_term t t) (same_self t) (none_of (same_term t) ts none t h)

inserted : (ts : List Term) (t : Term) → (insert_key same_term ts t ≡ ts) ⊎ ((insert_key same_term ts t ≡ ts ++ t ∷ []) × (In ts t → ⊥))
inserted ts t =
    ⊎_elim
    (λ there. inl (ap (λ b. cond b ts (ts ++ t ∷ [])) there))
    (λ new. inr (ap (λ b. cond b ts (ts ++ t ∷ [])) new, not_there ts t new))
    (bool_cases (list_any (same_term t) ts))

more_one : (ts : List Term) (t : Term) → length (ts ++ t ∷ []) ≡ suc (length ts)
more_one [] t = refl
more_one (x ∷ ts) t = ap suc (more_one ts t)

-- after a term is numbered
pub number_once : (ts us : List Term) (t : Term) → us ≡ insert_key same_term ts t → EachOnce ts → EachOnce us
number_once ts us t is once =
    ⊎_elim
    (λ same. subst EachOnce (sym (is ∙ same)) once)
    (λ w. subst EachOnce (sym (is ∙ w.0)) (once_more ts t once w.1))
    (inserted ts t)

pub number_few : (ts us : List Term) (t : Term) (most : ℕ) → us ≡ insert_key same_term ts t → length ts + 1 < most → length us < most
number_few ts us t most is few =
    ⊎_elim
    (λ same. subst (λ us. length us < most) (sym (is ∙ same)) (omega arith))
    (λ w. let e = more_one ts t in subst (λ us. length us < most) (sym (is ∙ w.0)) (omega (arith, e)))
    (inserted ts t)

pub number_grows : (ts us : List Term) (t : Term) → us ≡ insert_key same_term ts t → (us ≡ ts) ⊎ (us ≡ ts ++ t ∷ [])
number_grows ts us t is = ⊎_elim (λ same. inl (is ∙ same)) (λ w. inr (is ∙ w.0)) (inserted ts t)

pub number_stands : (ts : List Term) (n : ℕ) (t : Term) → (k : Term) × (slice_get ts n ≡ Some k) × (same_term t k ≡ true) → slice_get ts n ≡ Some t
number_stands ts n t (k, at, same) = at ∙ ap Some (sym (terms_same t k same))

-- what a look-up tells
pub found_none : (ts : List Term) (t : Term) (o : Option ℕ) → o ≡ None → is_some o ≡ list_any (same_term t) ts → In ts t → ⊥
found_none ts t o none any = not_there ts t (sym any ∙ ap is_some none)

pub found_some : (ts : List Term) (t : Term) (n : ℕ) → Some n ≡ position (same_term t) ts → slice_get ts n ≡ Some t
found_some ts t n e =
    let at = position-Some (same_term t) ts n t (sym e) in
    slice_get-get_or ts n t at.0 ∙ ap Some (sym (terms_same t (get_or ts n t) at.1))

-- the front of a list of distinct terms
in_front : (ts : List Term) (n : ℕ) (t : Term) → In (take n ts) t → In ts t
in_front [] zero t h = h
in_front [] (suc n) t h = h
in_front (x ∷ ts) zero t h = absurd h
in_front (x ∷ ts) (suc n) t (inl e) = inl e
in_front (x ∷ ts) (suc n) t (inr h) = inr (in_front ts n t h)

pub once_front : (ts : List Term) (n : ℕ) → EachOnce ts → EachOnce (take n ts)
once_front [] zero once = once
once_front [] (suc n) once = once
once_front (x ∷ ts) zero once = tt
once_front (x ∷ ts) (suc n) once = ((λ h. once.0 (in_front ts n x h)), once_front ts n once.1)

pub few_front : (ts : List Term) (n : ℕ) → length (take n ts) ≤ length ts
few_front [] zero = omega arith
few_front [] (suc n) = omega arith
few_front (x ∷ ts) zero = omega arith
few_front (x ∷ ts) (suc n) = let h = few_front ts n in omega (arith, h)

-- the list with more at its end
grew_one : (ts us : List Term) (t : Term) → (us ≡ ts) ⊎ (us ≡ ts ++ t ∷ []) → Grew ts us
grew_one ts us t (inl e) = ([], e ∙ sym (append-nil ts))
grew_one ts us t (inr e) = (t ∷ [], e)

grew_more : (ts us vs : List Term) → Grew ts us → Grew us vs → Grew ts vs
grew_more ts us vs (a, x) (b, y) = (a ++ b, y ∙ ap (λ l. l ++ b) x ∙ append_assoc ts a b)

get_joined : (ts more : List Term) (n : ℕ) (t : Term) → slice_get ts n ≡ Some t → slice_get (ts ++ more) n ≡ Some t
get_joined [] more n t e = cc
get_joined (x ∷ ts) more zero t e = e
get_joined (x ∷ ts) more (suc n) t e = get_joined ts more n t e

get_grew : (ts us : List Term) (n : ℕ) (t : Term) → Grew ts us → slice_get ts n ≡ Some t → slice_get us n ≡ Some t
get_grew ts us n t (more, e) h = subst (λ l. slice_get l n ≡ Some t) (sym e) (get_joined ts more n t h)

pub cut_back : (ts us : List Term) → Grew ts us → take (length ts) us ≡ ts
cut_back ts us (more, e) = ap (take (length ts)) e ∙ take-append_seam ts more

few_one : (ts us : List Term) (t : Term) → (us ≡ ts) ⊎ (us ≡ ts ++ t ∷ []) → length us ≤ length ts + 1
few_one ts us t (inl e) = subst (λ us. length us ≤ length ts + 1) (sym e) (omega arith)
few_one ts us t (inr e) = let m = more_one ts t in subst (λ us. length us ≤ length ts + 1) (sym e) (omega (arith, m))

only_one : (ts us : List Term) (t x : Term) → (us ≡ ts) ⊎ (us ≡ ts ++ t ∷ []) → In us x → In ts x ⊎ (t ≡ x)
only_one ts us t x (inl e) h = inl (subst (λ us. In us x) e h)
only_one ts us t x (inr e) h =
    ⊎_elim inl (λ k. ⊎_elim inr (λ b. absurd b) k) (in_cases ts (t ∷ []) x (subst (λ us. In us x) e h))

-- one, two and three terms are numbered
abbrev pub IsOneMore : List Term → List Term → Term → Type 0
IsOneMore ts us t = (us ≡ ts) ⊎ (us ≡ ts ++ t ∷ [])

pub grew_first : (ts us : List Term) (s : Term) → IsOneMore ts us s → Grew ts us
grew_first ts us s more = grew_one ts us s more

pub grew_second : (ts us vs : List Term) (s p : Term) → IsOneMore ts us s → IsOneMore us vs p → Grew ts vs
grew_second ts us vs s p more next = grew_more ts us vs (grew_one ts us s more) (grew_one us vs p next)

pub grew_third : (ts us vs ws : List Term) (s p o : Term) → IsOneMore ts us s → IsOneMore us vs p → IsOneMore vs ws o → Grew ts ws
grew_third ts us vs ws s p o more next last = grew_more ts vs ws (grew_second ts us vs s p more next) (grew_one vs ws o last)

pub three_kept : (ts us vs ws : List Term) (a b c : ℕ) (s p o : Term) → slice_get us a ≡ Some s → IsOneMore ts us s → slice_get vs b ≡ Some p → IsOneMore us vs p → slice_get ws c ≡ Some o → IsOneMore vs ws o → EachOnce ws
    → AreKept ts ws (a, b, c) (record { s = s; p = p; o = o })
three_kept ts us vs ws a b c s p o x more y next z last once = record {
  s = get_grew us ws a s (grew_more us vs ws (grew_one us vs p next) (grew_one vs ws o last)) x;
  p = get_grew vs ws b p (grew_one vs ws o last) y;
  o = z;
  once = once;
  few = (let i : length us ≤ length ts + 1 = few_one ts us s more in let j : length vs ≤ length us + 1 = few_one us vs p next in let k : length ws ≤ length vs + 1 = few_one vs ws o last in omega (arith, i, j, k));
  only = λ t h.
      ⊎_elim
      (λ h. ⊎_elim
      (λ h. ⊎_elim inl (λ e. inr (inl e)) (only_one ts us s t more h))
      (λ e. inr (inr (inl e)))
      (only_one us vs p t next h))
      (λ e. inr (inr (inr e)))
      (only_one vs ws o t last h);
}

-- the term of a number
pub term_at : (ts : List Term) (n : ℕ) (t : Term) → slice_get ts n ≡ Some t → term_of ts n ≡ t
term_at [] n t e = cc
term_at (x ∷ ts) zero t e = cc
term_at (x ∷ ts) (suc n) t e = term_at ts n t e

pub below_get : (ts : List Term) (n : ℕ) (t : Term) → slice_get ts n ≡ Some t → n < length ts
below_get [] n t e = cc
below_get (x ∷ ts) zero t e = omega arith
below_get (x ∷ ts) (suc n) t e = let h : n < length ts = below_get ts n t e in omega arith

pub get_in : (ts : List Term) (n : ℕ) (t : Term) → slice_get ts n ≡ Some t → In ts t
get_in [] n t e = cc
get_in (x ∷ ts) zero t e = inl (cc)
get_in (x ∷ ts) (suc n) t e = inr (get_in ts n t e)

pub term_in : (ts : List Term) (n : ℕ) → n < length ts → In ts (term_of ts n)
term_in [] n l = absurd (omega arith)
term_in (x ∷ ts) zero l = inl refl
term_in (x ∷ ts) (suc n) l = inr (term_in ts n (omega arith))

joined_at : (ts more : List Term) (n : ℕ) → n < length ts → term_of (ts ++ more) n ≡ term_of ts n
joined_at [] more n l = absurd (omega arith)
joined_at (x ∷ ts) more zero l = refl
joined_at (x ∷ ts) more (suc n) l = joined_at ts more n (omega arith)

pub grown_at : (ts us : List Term) (n : ℕ) → Grew ts us → n < length ts → term_of us n ≡ term_of ts n
grown_at ts us n (more, e) l = ap (λ us. term_of us n) e ∙ joined_at ts more n l

pub grown_length : (ts us : List Term) → Grew ts us → length ts ≤ length us
grown_length ts us (more, e) = subst (λ us. length ts ≤ length us) (sym e) (joined ts more)
  where
    joined : (ts more : List Term) → length ts ≤ length (ts ++ more)
    joined [] more = omega arith
    joined (t ∷ ts) more = let h = joined ts more in omega (arith, h)

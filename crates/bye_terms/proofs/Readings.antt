-- Reading from the front of a text: what was read stands there, and what stands there is read.
use Rattle.std.proofs.Common.{◌≡◌, refl, ℕ, Bool, true, false, cond, ◌==◌, List, [], ◌∷◌, ◌++◌, Option, Some, None, ⊎_elim, sym, ◌∙◌, ap, subst, append_assoc, arith}
use Rattle.std.specs.Option.{option_map}
use Rattle.std.specs.List.{list_all}
use Rattle.std.specs.Char.{encode_utf8}
use Rattle.std.specs.Str.{chars, IsUtf8, NonePass, NoCharPasses, encode_utf8_all, all_scalars}
use Rattle.std.proofs.lemmas.Str.{IsUtf8-past_char, chars_past_char, chars_from_encodes, chars-encodes, scalars-chars}
use Rattle.bye_terms.specs.Characters.{is_letter, is_scheme_char, is_iri_char}
use Rattle.bye_terms.specs.Iris.{IsIri}
use Rattle.bye_terms.specs.Names.{is_iri, is_after_letter}
use Rattle.bye_terms.specs.declared.term.Term.{Term}
use Rattle.bye_terms.specs.declared.term.Term.TheVariants.{Iri, Blank, Lit}
use Rattle.bye_terms.specs.Reading.{◌>>=◌, after_at, until_at, as_iri, iri_at}
use lib.Utf8.{scalar}
use Rattle.bye_terms.proofs.Tests.{bool_cases, both_parts, both, one_part}

-- one reading after another
pub read_both : {A B : Type 0} (o : Option A) (f : A → Option B) (y : B) → (o >>= f) ≡ Some y → (x : A) × (o ≡ Some x) × (f x ≡ Some y)
read_both None f y e = cc
read_both (Some x) f y e = (x, refl, e)

pub read_on : {A B : Type 0} (o : Option A) (x : A) (f : A → Option B) (y : Option B) → o ≡ Some x → f x ≡ y → (o >>= f) ≡ y
read_on o x f y e h = ap (λ o. o >>= f) e ∙ h

pub some_same : {A : Type 0} {x y : A} → ◌≡◌ {A = Option A} (Some x) (Some y) → x ≡ y
some_same e = cc

eqb_same : (a b : ℕ) → (a == b) ≡ true → a ≡ b
eqb_same a b e = grind arith

same_eqb : (c : ℕ) → (c == c) ≡ true
same_eqb c = grind arith

-- one character
pub after_takes : (c : ℕ) (text rest : List ℕ) → after_at c text ≡ Some rest → text ≡ c ∷ rest
after_takes c [] rest e = cc
after_takes c (d ∷ text) rest e =
    elim (d == c) as (λ t. (d == c) ≡ t → cond t (Some text) None ≡ Some rest → d ∷ text ≡ c ∷ rest) [
      | true ↦ λ is e. let same = eqb_same d c is in let more : text ≡ rest = cc in cc
      | false ↦ λ is e. cc
    ] refl e

pub after_again : (c : ℕ) (rest : List ℕ) → after_at c (c ∷ rest) ≡ Some rest
after_again c rest = ap (λ t. cond t (Some rest) None) (same_eqb c)

-- all before a character
pub until_takes : (c : ℕ) (text : List ℕ) (r : List ℕ × List ℕ) → until_at c text ≡ Some r → text ≡ r.0 ++ c ∷ r.1
until_takes c [] r e = cc
until_takes c (d ∷ text) r e =
    elim (d == c) as (λ t. (d == c) ≡ t → cond t (Some ([], text)) (option_map (λ r. (d ∷ r.0, r.1)) (until_at c text)) ≡ Some r → d ∷ text ≡ r.0 ++ c ∷ r.1) [
      | true ↦ λ is e. let P : List ℕ × List ℕ → Type 0 = λ r. d ∷ text ≡ r.0 ++ c ∷ r.1 in subst P (some_same e) (ap (λ d. d ∷ text) (eqb_same d c is))
      | false ↦ λ is e.
          elim (until_at c text) as (λ u. until_at c text ≡ u → option_map (λ r. (d ∷ r.0, r.1)) u ≡ Some r → d ∷ text ≡ r.0 ++ c ∷ r.1) [
            | None ↦ λ u e. cc
            | Some q ↦ λ u e. let P : List ℕ × List ℕ → Type 0 = λ r. d ∷ text ≡ r.0 ++ c ∷ r.1 in subst P (some_same e) (ap (λ xs. d ∷ xs) (until_takes c text q u))
          ] refl e
    ] refl e

pub until_again : (c : ℕ) (front rest : List ℕ) → NonePass (λ d. d == c) front → until_at c (front ++ c ∷ rest) ≡ Some (front, rest)
until_again c [] rest free = ap (λ t. cond t (Some ([], rest)) (option_map (λ r. (c ∷ r.0, r.1)) (until_at c rest))) (same_eqb c)
until_again c (d ∷ front) rest (x, free) =
    ap (λ t. cond t (Some ([], front ++ c ∷ rest)) (option_map (λ r. (d ∷ r.0, r.1)) (until_at c (front ++ c ∷ rest)))) x
    ∙ ap (option_map (λ r. (d ∷ r.0, r.1))) (until_again c front rest free)

pub until_none : (c : ℕ) (text : List ℕ) → NonePass (λ d. d == c) text → until_at c text ≡ None
until_none c [] free = refl
until_none c (d ∷ text) (x, free) =
    ap (λ t. cond t (Some ([], text)) (option_map (λ r. (d ∷ r.0, r.1)) (until_at c text))) x
    ∙ ap (option_map (λ r. (d ∷ r.0, r.1))) (until_none c text free)

-- a text that is cut before characters in UTF-8
front_chars : (cs bytes rest : List ℕ) → IsUtf8 bytes → bytes ≡ encode_utf8_all cs ++ rest → IsUtf8 rest × (chars bytes ≡ cs ++ chars rest)
front_chars [] bytes rest u e = (subst IsUtf8 e u, ap chars e)
front_chars (c ∷ cs) bytes rest u e =
    let split : bytes ≡ encode_utf8 c ++ (encode_utf8_all cs ++ rest) = e ∙ append_assoc (encode_utf8 c) (encode_utf8_all cs) rest in
    let more = front_chars cs (encode_utf8_all cs ++ rest) rest (IsUtf8-past_char bytes _ c u split) refl in
    (more.0, chars_past_char bytes _ c u split ∙ ap (λ xs. c ∷ xs) more.1)

front_scalars : (cs ds : List ℕ) → all_scalars (cs ++ ds) ≡ true → all_scalars cs ≡ true
front_scalars [] ds e = refl
front_scalars (c ∷ cs) ds e = let w = both_parts (scalar c) (all_scalars (cs ++ ds)) e in both (scalar c) (all_scalars cs) w.0 (front_scalars cs ds w.1)

pub until_none_bytes : (c : ℕ) (bytes : List ℕ) → IsUtf8 bytes → NoCharPasses (λ d. d == c) bytes → until_at c (chars bytes) ≡ None
until_none_bytes c bytes u (cs, e, free) = ap (until_at c) (sym (chars_from_encodes cs bytes u e)) ∙ until_none c cs free

pub until_bytes : (c : ℕ) (bytes front rest : List ℕ) → IsUtf8 bytes → NoCharPasses (λ d. d == c) front → bytes ≡ front ++ (encode_utf8 c ++ rest)
    → until_at c (chars bytes) ≡ Some (chars front, chars rest)
until_bytes c bytes front rest u (cs, is, free) e =
    let cut = front_chars cs bytes (encode_utf8 c ++ rest) u (e ∙ ap (λ xs. xs ++ (encode_utf8 c ++ rest)) (sym is)) in
    let more = chars_past_char (encode_utf8 c ++ rest) rest c cut.0 refl in
    let all : chars bytes ≡ cs ++ c ∷ chars rest = cut.1 ∙ ap (λ xs. cs ++ xs) more in
    let scalars = front_scalars cs (c ∷ chars rest) (ap all_scalars (sym all) ∙ scalars-chars bytes u) in
    let same : chars front ≡ cs = ap chars (sym is) ∙ chars-encodes cs scalars in
    ap (until_at c) all ∙ until_again c cs (chars rest) free ∙ ap (λ xs. Some (xs, chars rest)) (sym same)

-- an IRI has no bracket
never : (p : ℕ → Bool) → p 62 ≡ false → (c : ℕ) → p c ≡ true → (c == 62) ≡ false
never p e c h = ⊎_elim (λ is. let k = subst (λ c. p c ≡ true) (eqb_same c 62 is) h in cc) (λ is. is) (bool_cases (c == 62))

iri_chars_free : (text : List ℕ) → list_all is_iri_char text ≡ true → NonePass (λ d. d == 62) text
iri_chars_free [] e = tt
iri_chars_free (c ∷ text) e = let w = both_parts _ _ e in (never is_iri_char refl c w.0, iri_chars_free text w.1)

after_letter_free : (text : List ℕ) → is_after_letter text ≡ true → NonePass (λ d. d == 62) text
after_letter_free [] e = cc
after_letter_free (c ∷ text) e =
    ⊎_elim
    (λ h. let w = both_parts _ _ h in (never (λ c. c == 58) refl c w.0, iri_chars_free text w.1))
    (λ h. let w = both_parts _ _ h in (never is_scheme_char refl c w.0, after_letter_free text w.1))
    (one_part _ _ e)

iri_free : (text : List ℕ) → is_iri text ≡ true → NonePass (λ d. d == 62) text
iri_free [] e = cc
iri_free (c ∷ text) e = let w = both_parts _ _ e in (never is_letter refl c w.0, after_letter_free text w.1)

-- an IRI in its brackets
as_iri_takes : (text iri : List ℕ) → as_iri text ≡ Some iri → (text ≡ iri) × (is_iri iri ≡ true)
as_iri_takes text iri e =
    elim (is_iri text) as (λ t. is_iri text ≡ t → cond t (Some text) None ≡ Some iri → (text ≡ iri) × (is_iri iri ≡ true)) [
      | true ↦ λ is e. let same : text ≡ iri = cc in (same, ap is_iri (sym same) ∙ is)
      | false ↦ λ is e. cc
    ] refl e

pub iri_takes : (text : List ℕ) (r : List ℕ × List ℕ) → iri_at text ≡ Some r → (text ≡ 60 ∷ (r.0 ++ 62 ∷ r.1)) × (is_iri r.0 ≡ true)
unfolding iri_at
iri_takes text r e =
    let a = read_both (after_at 60 text) _ r e in
    let b = read_both (until_at 62 a.0) _ r a.2 in
    let c = read_both (as_iri b.0.0) _ r b.2 in
    let w = as_iri_takes b.0.0 c.0 c.1 in
    let at : text ≡ 60 ∷ (c.0 ++ 62 ∷ b.0.1) = after_takes 60 text a.0 a.1 ∙ ap (λ xs. 60 ∷ xs) (until_takes 62 a.0 b.0 b.1 ∙ ap (λ xs. xs ++ 62 ∷ b.0.1) w.0) in
    subst (λ r. (text ≡ 60 ∷ (r.0 ++ 62 ∷ r.1)) × (is_iri r.0 ≡ true)) (some_same c.2) (at, w.1)

pub iri_again : (iri rest : List ℕ) → is_iri iri ≡ true → iri_at (60 ∷ (iri ++ 62 ∷ rest)) ≡ Some (iri, rest)
unfolding iri_at
iri_again iri rest is =
    ap (λ o. o >>= (λ inner. until_at 62 inner >>= (λ parts. as_iri parts.0 >>= (λ read. Some (read, parts.1))))) (after_again 60 (iri ++ 62 ∷ rest))
    ∙ ap (λ o. o >>= (λ parts. as_iri parts.0 >>= (λ read. Some (read, parts.1)))) (until_again 62 iri rest (iri_free iri is))
    ∙ ap (λ t. cond t (Some iri) None >>= (λ read. Some (read, rest))) is

-- a term that is an IRI, with its text
pub named : (term : Term) → IsIri term → (text : List ℕ) × (term ≡ Iri text) × (is_iri text ≡ true)
named (Iri text) h = (text, refl, h)
named (Blank label) h = absurd h
named (Lit literal) h = absurd h

-- Triples with one line are one triple.
use Rattle.std.proofs.Common.{◌≡◌, refl, ℕ, Bool, true, false, ◌==◌, ◌&&◌, List, [], ◌∷◌, ◌++◌, Option, Some, None, codes, sym, ◌∙◌, ap, subst, append_assoc, ⊎_elim, arith}
use Rattle.std.specs.List.{AllByRecursion, list_all}
use Rattle.std.proofs.lemmas.List.{append_cancel_right}
use Rattle.std.proofs.lemmas.Str.{encodes_same}
use Rattle.bye_terms.specs.Characters.{is_letter, is_scheme_char, is_iri_char, is_label_start, is_label_part}
use Rattle.bye_terms.specs.Names.{is_after_letter, is_iri, is_label_rest, is_label}
use Rattle.bye_terms.specs.Spellings.{term_text}
use Rattle.bye_terms.specs.Terms.{Statement, is_subject, is_iri_term}
use Rattle.bye_terms.specs.declared.term.Term.{Term}
use Rattle.bye_terms.specs.declared.term.Term.TheVariants.{Iri, Blank, Lit}
use Rattle.bye_terms.proofs.Tests.{both_parts, one_part}
use Rattle.bye_lex.specs.Marks.{LabelToken, TagToken}
use Rattle.bye_lex.specs.Strings.{StringToken}
use Rattle.bye_terms.specs.Valid.{IsTerm}
use Rattle.bye_lex.specs.ReadingBack.{quoted, NotLonger, EndsThere, EndsLiteral, TermText}
use Rattle.bye_lex.specs.Written.{written}
use Rattle.bye_lex.specs.declared.style.Style.TheVariants.{Triples}
use Rattle.bye_lex.proofs.Branches.{heads}
use Rattle.bye_lex.proofs.ReadingBack.{reads_back}
use Rattle.bye_lex.proofs.OneTerm.{one_term}
use Rattle.bye_ntriples.specs.Canonical.{line_text, line_bytes, IsStatement}
use Rattle.bye_ntriples.proofs.Spelled.{all_join}

-- no space stands in an IRI or in a label
abbrev Other : ℕ → Type 0
Other c = c ≡ 32 → ⊥

not_at : (p : ℕ → Bool) (c : ℕ) → p 32 ≡ false → p c ≡ true → Other c
not_at p c f t e = let g : true ≡ false = sym t ∙ ap p e ∙ f in cc

iri_chars : (text : List ℕ) → list_all is_iri_char text ≡ true → AllByRecursion Other text
iri_chars [] h = tt
iri_chars (c ∷ cs) h = let k = both_parts (is_iri_char c) _ h in (not_at is_iri_char c refl k.0, iri_chars cs k.1)

after_letter : (text : List ℕ) → is_after_letter text ≡ true → AllByRecursion Other text
after_letter [] h = tt
after_letter (c ∷ cs) h =
    ⊎_elim
    (λ h. let k = both_parts (c == 58) _ h in (not_at (λ c. c == 58) c refl k.0, iri_chars cs k.1))
    (λ h. let k = both_parts (is_scheme_char c) _ h in (not_at is_scheme_char c refl k.0, after_letter cs k.1))
    (one_part (c == 58 && list_all is_iri_char cs) (is_scheme_char c && is_after_letter cs) h)

iri : (text : List ℕ) → is_iri text ≡ true → AllByRecursion Other text
iri [] h = tt
iri (c ∷ cs) h = let k = both_parts (is_letter c) _ h in (not_at is_letter c refl k.0, after_letter cs k.1)

label_rest : (due : Bool) (text : List ℕ) → is_label_rest due text ≡ true → AllByRecursion Other text
label_rest due [] h = tt
label_rest due (c ∷ cs) h =
    ⊎_elim
    (λ h. let k = both_parts (is_label_part c) _ h in (not_at is_label_part c refl k.0, label_rest false cs k.1))
    (λ h. let k = both_parts (c == 46) _ h in (not_at (λ c. c == 46) c refl k.0, label_rest true cs k.1))
    (one_part (is_label_part c && is_label_rest false cs) (c == 46 && is_label_rest true cs) h)

label : (text : List ℕ) → is_label text ≡ true → AllByRecursion Other text
label [] h = tt
label (c ∷ cs) h = let k = both_parts (is_label_start c) _ h in (not_at is_label_start c refl k.0, label_rest false cs k.1)

no_literal : {P : Type 0} → false ≡ true → P
no_literal e = cc

without_space : (t : Term) → IsTerm t → is_subject t ≡ true → AllByRecursion Other (term_text t)
without_space (Iri text) valid h = all_join Other (codes "<" ++ text) (codes ">") (all_join Other (codes "<") text ((λ e. omega (arith, e)), tt) (iri text valid)) ((λ e. omega (arith, e)), tt)
without_space (Blank text) valid h = all_join Other (codes "_:") text ((λ e. omega (arith, e)), ((λ e. omega (arith, e)), tt)) (label text valid)
without_space (Lit literal) valid h = no_literal h

-- up to the first space
fronts : (a b r s : List ℕ) → AllByRecursion Other a → AllByRecursion Other b → a ++ 32 ∷ r ≡ b ++ 32 ∷ s → (a ≡ b) × (r ≡ s)
fronts [] [] r s h k e = (refl, (heads 32 32 r s e).1)
fronts [] (d ∷ b) r s h k e = absurd (k.0 (sym (heads 32 d r (b ++ 32 ∷ s) e).0))
fronts (c ∷ a) [] r s h k e = absurd (h.0 (heads c 32 (a ++ 32 ∷ r) s e).0)
fronts (c ∷ a) (d ∷ b) r s h k e =
    let g = heads c d (a ++ 32 ∷ r) (b ++ 32 ∷ s) e in
    let m = fronts a b r s h.1 k.1 g.1 in
    ((λ i. g.0 i ∷ m.0 i), m.1)

-- what is written of a term alone is its tokens, and those of no other term
not_longer : {V : Type 0} (L : List ℕ → V → Type 0) (text : List ℕ) → NotLonger L text []
not_longer L text [] after other e some h = omega (arith, some)
not_longer L text (c ∷ more) after other e some h = cc

ends_literal : (lexical : List ℕ) (tag : Option (List ℕ)) (datatype : List ℕ) → EndsLiteral Triples lexical tag datatype []
ends_literal lexical (Some tag) datatype = not_longer TagToken (codes "@" ++ tag)
ends_literal lexical None datatype = λ e. not_longer (StringToken Triples) (quoted Triples lexical)

ends : (t : Term) → EndsThere Triples t []
ends (Iri text) = tt
ends (Blank text) = not_longer LabelToken (codes "_:" ++ text)
ends (Lit literal) = ends_literal literal.lexical literal.tag literal.datatype

spelled : (t : Term) → written Triples t ≡ term_text t
spelled (Iri text) = refl
spelled (Blank text) = refl
spelled (Lit literal) = refl

pub tokens : (t : Term) → IsTerm t → TermText Triples (term_text t) [] t
tokens t valid = subst (λ text. TermText Triples text [] t) (spelled t) (reads_back Triples t [] valid (ends t))

same_term : (t u : Term) → IsTerm t → IsTerm u → term_text t ≡ term_text u → t ≡ u
same_term t u valid other e = one_term Triples (term_text u) [] t u (subst (λ text. TermText Triples text [] t) e (tokens t valid)) (tokens u other)

iri_subject : (t : Term) → is_iri_term t ≡ true → is_subject t ≡ true
iri_subject (Iri text) h = refl
iri_subject (Blank text) h = refl
iri_subject (Lit literal) h = no_literal h

pub line_flat : (t : Statement) → line_text t ≡ term_text t.s ++ 32 ∷ (term_text t.p ++ 32 ∷ (term_text t.o ++ codes " .\n"))
line_flat t = simp append_assoc

pub same_line : (t u : Statement) → IsStatement t → IsStatement u → line_bytes t ≡ line_bytes u → t ≡ u
same_line t u valid other e =
    let texts = encodes_same (line_text t) (line_text u) e in
    let s = fronts (term_text t.s) (term_text u.s) _ _ (without_space t.s valid.subject valid.parts.0) (without_space u.s other.subject other.parts.0) (sym (line_flat t) ∙ texts ∙ line_flat u) in
    let p = fronts (term_text t.p) (term_text u.p) _ _ (without_space t.p valid.predicate (iri_subject t.p valid.parts.1)) (without_space u.p other.predicate (iri_subject u.p other.parts.1)) s.1 in
    let subject = same_term t.s u.s valid.subject other.subject s.0 in
    let predicate = same_term t.p u.p valid.predicate other.predicate p.0 in
    let object = same_term t.o u.o valid.object other.object (append_cancel_right (term_text t.o) (term_text u.o) (codes " .\n") p.1) in
    λ i. record { s = subject i; p = predicate i; o = object i }

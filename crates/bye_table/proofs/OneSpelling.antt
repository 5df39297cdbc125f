-- Terms of RDF with one spelling are one term.
use Rattle.std.proofs.Common.{◌≡◌, refl, ℕ, Bool, true, false, cond, ◌==◌, List, [], ◌∷◌, ◌++◌, Option, Some, None, codes, ◌⊎◌, inl, inr, sym, ◌∙◌, ap, append_assoc, arith}
use Rattle.std.proofs.lemmas.Bool.{eqb-true}
use Rattle.std.proofs.lemmas.List.{append_cancel_right}
use Rattle.std.proofs.lemmas.Slice.Eq.{bytes_eq-Decides}
use Rattle.std.proofs.lemmas.Str.{encodes_same}
use Rattle.bye_terms.specs.declared.term.Term.{Term}
use Rattle.bye_terms.specs.declared.term.Term.TheVariants.{Iri, Blank, Lit}
use Rattle.bye_terms.specs.Literals.{LiteralValue, is_xsd_string, xsd_string}
use Rattle.bye_terms.specs.Spellings.{escaped, escaped_char, suffix_text, term_bytes, term_text}
use Rattle.bye_terms.specs.Valid.{IsRdfTerm, IsTagged, IsTerm}

heads : (c d : ℕ) (a b : List ℕ) → c ∷ a ≡ d ∷ b → (c ≡ d) × (a ≡ b)
heads c d a b e = (cc, cc)

some_none : {P : Type 0} (c : ℕ) (a : List ℕ) → c ∷ a ≡ [] → P
some_none c a e = cc

-- a character within quotes stands raw, and is neither quote nor backslash, or is meant by the one that follows a backslash
abbrev meant : ℕ → ℕ
meant k = cond (k == 110) 10 (cond (k == 114) 13 k)

abbrev Escape : ℕ → List ℕ → Type 0
Escape c e = ((k : ℕ) × (e ≡ 92 ∷ k ∷ []) × (c ≡ meant k)) ⊎ ((e ≡ c ∷ []) × (c ≡ 34 → ⊥) × (c ≡ 92 → ⊥))

not_equal : (c d : ℕ) → c == d ≡ false → c ≡ d → ⊥
not_equal c d f e = grind (arith, eqb-true)

escape_of : (c : ℕ) → Escape c (escaped_char c)
escape_of c = quote (c == 34) (c == 92) (c == 10) (c == 13) refl refl refl refl
  where
    quote : (q b l r : Bool) → c == 34 ≡ q → c == 92 ≡ b → c == 10 ≡ l → c == 13 ≡ r → Escape c (cond q (codes "\\\"") (cond b (codes "\\\\") (cond l (codes "\\n") (cond r (codes "\\r") (c ∷ [])))))
    quote true b l r is _ _ _ = inl (34, refl, eqb-true c 34 is)
    quote false true l r _ is _ _ = inl (92, refl, eqb-true c 92 is)
    quote false false true r _ _ is _ = inl (110, refl, eqb-true c 10 is)
    quote false false false true _ _ _ is = inl (114, refl, eqb-true c 13 is)
    quote false false false false q b _ _ = inr (refl, not_equal c 34 q, not_equal c 92 b)

no_quote : (c : ℕ) (e s r : List ℕ) → Escape c e → 34 ∷ s ≡ e ++ r → ⊥
no_quote c e s r (inl h) same = let k = heads 34 92 s (h.0 ∷ r) (same ∙ ap (λ e. e ++ r) h.1) in omega (arith, k.0)
no_quote c e s r (inr h) same = h.1 (sym (heads 34 c s r (same ∙ ap (λ e. e ++ r) h.0)).0)

raw_escape : (c d k : ℕ) (r q : List ℕ) → (c ≡ 92 → ⊥) → c ∷ r ≡ 92 ∷ k ∷ q → ⊥
raw_escape c d k r q other same = other (heads c 92 r (k ∷ q) same).0

one_char : (c d : ℕ) (e f r q : List ℕ) → Escape c e → Escape d f → e ++ r ≡ f ++ q → (c ≡ d) × (r ≡ q)
one_char c d e f r q (inl h) (inl k) same =
    let all = heads 92 92 (h.0 ∷ r) (k.0 ∷ q) (sym (ap (λ e. e ++ r) h.1) ∙ same ∙ ap (λ f. f ++ q) k.1) in
    let one = heads h.0 k.0 r q all.1 in
    (h.2 ∙ ap meant one.0 ∙ sym k.2, one.1)
one_char c d e f r q (inl h) (inr k) same = absurd (raw_escape d c h.0 q r k.2 (sym (ap (λ f. f ++ q) k.0) ∙ sym same ∙ ap (λ e. e ++ r) h.1))
one_char c d e f r q (inr h) (inl k) same = absurd (raw_escape c d k.0 r q h.2 (sym (ap (λ e. e ++ r) h.0) ∙ same ∙ ap (λ f. f ++ q) k.1))
one_char c d e f r q (inr h) (inr k) same = heads c d r q (sym (ap (λ e. e ++ r) h.0) ∙ same ∙ ap (λ f. f ++ q) k.0)

-- so a text in quotes is one text, whatever follows it
one_text : (x y s t : List ℕ) → escaped x ++ 34 ∷ s ≡ escaped y ++ 34 ∷ t → (x ≡ y) × (s ≡ t)
one_text [] [] s t e = (refl, (heads 34 34 s t e).1)
one_text [] (d ∷ y) s t e = absurd (no_quote d (escaped_char d) s (escaped y ++ 34 ∷ t) (escape_of d) (e ∙ append_assoc (escaped_char d) (escaped y) (34 ∷ t)))
one_text (c ∷ x) [] s t e = absurd (no_quote c (escaped_char c) t (escaped x ++ 34 ∷ s) (escape_of c) (sym e ∙ append_assoc (escaped_char c) (escaped x) (34 ∷ s)))
one_text (c ∷ x) (d ∷ y) s t e =
    let first = one_char c d (escaped_char c) (escaped_char d) (escaped x ++ 34 ∷ s) (escaped y ++ 34 ∷ t) (escape_of c) (escape_of d)
    (sym (append_assoc (escaped_char c) (escaped x) (34 ∷ s)) ∙ e ∙ append_assoc (escaped_char d) (escaped y) (34 ∷ t)) in
    let rest = one_text x y s t first.1 in
    ((λ i. first.0 i ∷ rest.0 i), rest.1)

-- what follows the quotes
abbrev typed : Bool → List ℕ → List ℕ
typed is datatype = cond is [] (codes "^^<" ++ datatype ++ codes ">")

no_sign : {P : Type 0} (is : Bool) (tag datatype : List ℕ) → 64 ∷ tag ≡ typed is datatype → P
no_sign true tag datatype e = some_none 64 tag e
no_sign false tag datatype e = let k = heads 64 94 tag _ e in absurd (omega (arith, k.0))

one_datatype : (is also : Bool) (x y : List ℕ) → is_xsd_string x ≡ is → is_xsd_string y ≡ also → typed is x ≡ typed also y → x ≡ y
one_datatype true true x y i j e = (bytes_eq-Decides x xsd_string).0 i ∙ sym ((bytes_eq-Decides y xsd_string).0 j)
one_datatype true false x y i j e = some_none 94 _ (sym e)
one_datatype false true x y i j e = some_none 94 _ e
one_datatype false false x y i j e =
    let f = append_cancel_right (codes "^^<" ++ x) (codes "^^<" ++ y) (codes ">") e in cc

one_suffix : (tag other : Option (List ℕ)) (x y : List ℕ) → IsTagged tag x → IsTagged other y → suffix_text tag x ≡ suffix_text other y → (tag ≡ other) × (x ≡ y)
one_suffix (Some tag) (Some other) x y h k e = (ap Some (heads 64 64 tag other e).1, h.1 ∙ sym k.1)
one_suffix (Some tag) None x y h k e = no_sign (is_xsd_string y) tag y e
one_suffix None (Some other) x y h k e = no_sign (is_xsd_string x) other x (sym e)
one_suffix None None x y h k e = (refl, one_datatype (is_xsd_string x) (is_xsd_string y) x y refl refl e)

one_literal : (l m : LiteralValue) → IsTagged l.tag l.datatype → IsTagged m.tag m.datatype → term_text (Lit l) ≡ term_text (Lit m) → Lit l ≡ Lit m
one_literal l m h k e =
    let after : (n : LiteralValue) → List ℕ = λ n. suffix_text n.tag n.datatype in
    let inner = heads 34 34 (escaped l.lexical ++ codes "\"" ++ after l) (escaped m.lexical ++ codes "\"" ++ after m) e in
    let text = one_text l.lexical m.lexical (after l) (after m) (sym (append_assoc (escaped l.lexical) (codes "\"") (after l)) ∙ inner.1 ∙ append_assoc (escaped m.lexical) (codes "\"") (after m)) in
    let suffix = one_suffix l.tag m.tag l.datatype m.datatype h k text.1 in
    λ i. Lit (record { lexical = text.0 i; datatype = suffix.1 i; tag = suffix.0 i })

-- terms with one spelling
one_term : (s t : Term) → IsTerm s → IsTerm t → term_text s ≡ term_text t → s ≡ t
one_term (Iri x) (Iri y) h k e = let f = append_cancel_right (60 ∷ x) (60 ∷ y) (62 ∷ []) e in ap Iri (heads 60 60 x y f).1
one_term (Iri x) (Blank y) h k e = let f = heads 60 95 _ _ e in absurd (omega (arith, f.0))
one_term (Iri x) (Lit y) h k e = let f = heads 60 34 _ _ e in absurd (omega (arith, f.0))
one_term (Blank x) (Iri y) h k e = let f = heads 95 60 _ _ e in absurd (omega (arith, f.0))
one_term (Blank x) (Blank y) h k e = ap Blank (heads 58 58 x y (heads 95 95 (58 ∷ x) (58 ∷ y) e).1).1
one_term (Blank x) (Lit y) h k e = let f = heads 95 34 _ _ e in absurd (omega (arith, f.0))
one_term (Lit x) (Iri y) h k e = let f = heads 34 60 _ _ e in absurd (omega (arith, f.0))
one_term (Lit x) (Blank y) h k e = let f = heads 34 95 _ _ e in absurd (omega (arith, f.0))
one_term (Lit x) (Lit y) h k e = one_literal x y h k e

pub one_spelling : (s t : Term) → IsRdfTerm s → IsRdfTerm t → term_bytes s ≡ term_bytes t → s ≡ t
one_spelling s t h k e = one_term s t h.is k.is (encodes_same (term_text s) (term_text t) e)

-- The canonical document is a graph document.
use Rattle.std.proofs.Common.{◌≡◌, refl, ℕ, Bool, true, false, List, [], ◌∷◌, ◌++◌, Option, Some, None, inl, inr, ⊎_elim, flat_map, option_to_list, sym, ◌∙◌, ap, subst, append_assoc}
use Rattle.std.specs.List.{AllByRecursion}
use Rattle.std.specs.Str.{encode_utf8_all, all_scalars}
use Rattle.std.proofs.lemmas.Str.{encodes-append}
use Rattle.std.proofs.lemmas.Slice.Eq.{bytes_eq-Decides}
use Rattle.bye_terms.specs.Literals.{is_lang_string, lang_string, xsd_string}
use Rattle.bye_terms.specs.Spellings.{term_text}
use Rattle.bye_terms.specs.Terms.{Statement, is_subject, is_iri_term}
use Rattle.bye_terms.specs.declared.term.Term.{Term}
use Rattle.bye_terms.specs.declared.term.Term.TheVariants.{Iri, Blank, Lit}
use Rattle.bye_terms.proofs.Members.{all_in, all_from}
use Rattle.bye_terms.specs.Valid.{IsTagged, IsTerm}
use Rattle.bye_lex.specs.ReadingBack.{DatatypeText, SuffixText}
use Rattle.bye_lex.specs.declared.style.Style.TheVariants.{Triples}
use Rattle.bye_lex.proofs.Branches.{scalars_join}
use Rattle.bye_ntriples.specs.Canonical.{line_text, line_bytes, IsStatement, CanonicalReadsBack}
use Rattle.bye_ntriples.specs.Documents.{LaterLine, LaterLines, NtText}
use Rattle.bye_ntriples.specs.Lines.{Spaced, Dot, Dotted, LineEnd, DatatypeToken, AfterSpaces, Suffix, Object, Predicate, Subject, Line, Then}
use Rattle.bye_ntriples.specs.Triples.{triple_of, string_of, tagged_of, typed_of}
use Rattle.bye_ntriples.proofs.SameLines.{tokens}

-- no space, or one
pub here : {V : Type 0} (L : List ℕ → V → Type 0) (text : List ℕ) (v : V) → L text v → Spaced L text v
here L [] v h = h
here L (c ∷ cs) v h = inr h

after_space : {V : Type 0} (L : List ℕ → V → Type 0) (text : List ℕ) (v : V) → L text v → Spaced L (32 ∷ text) v
after_space L text v h = inl (refl, here L text v h)

-- the end of a line
abbrev last : List ℕ
last = 32 ∷ 46 ∷ []

ends : (t : Statement) → Dotted LineEnd t last t
ends t = after_space (Dot LineEnd t) (46 ∷ []) t (record { rest = []; end = tt; spelled = refl; is = refl })

-- what follows the string of a literal
not_true : (b : Bool) → (b ≡ true → ⊥) → b ≡ false
not_true true f = absurd (f refl)
not_true false f = refl

abbrev of_type : Term → List ℕ → List ℕ → List ℕ → Statement
of_type s p lexical d = triple_of s p (typed_of lexical d)

suffix : (s : Term) (p lexical text : List ℕ) (tag : Option (List ℕ)) (datatype : List ℕ) → SuffixText Triples text [] tag datatype → IsTagged tag datatype
    → Suffix LineEnd s p lexical (text ++ last) (triple_of s p (Lit (record { lexical = lexical; datatype = datatype; tag = tag })))
suffix s p lexical text (Some tag) datatype h valid =
    let t = triple_of s p (Lit (record { lexical = lexical; datatype = datatype; tag = Some tag })) in
    let u = triple_of s p (tagged_of lexical tag) in
    let same : t ≡ u = ap (λ d. triple_of s p (Lit (record { lexical = lexical; datatype = d; tag = Some tag }))) h.1 in
    subst (Suffix LineEnd s p lexical (text ++ last)) (sym same)
    (here (AfterSpaces LineEnd s p lexical) (text ++ last) u (inr (inl (record { own = text; value = tag; rest = last; token = h.0.is; after = ends u; spelled = refl }))))
suffix s p lexical text None datatype h valid =
    ⊎_elim
    (λ (k : (text ≡ []) × (datatype ≡ xsd_string)).
    let u = triple_of s p (string_of lexical) in
    subst (λ t. Suffix LineEnd s p lexical (t ++ last) (of_type s p lexical datatype)) (sym k.0)
    (subst (Suffix LineEnd s p lexical last) (ap (of_type s p lexical) (sym k.1))
    (after_space (AfterSpaces LineEnd s p lexical) (46 ∷ []) u (inl (record { rest = []; end = tt; spelled = refl; is = refl })))))
    (λ (k : DatatypeText Triples text [] datatype).
    let u = of_type s p lexical datatype in
    let not_lang = not_true (is_lang_string datatype) (λ e. valid.1 ((bytes_eq-Decides datatype lang_string).0 e)) in
    let token : DatatypeToken k.iri datatype = (k.is.is, not_lang) in
    let after = here (Then DatatypeToken (λ datatype. Dotted LineEnd (triple_of s p (typed_of lexical datatype)))) (k.iri ++ last) u (record { own = k.iri; value = datatype; rest = last; token = token; after = ends u; spelled = refl }) in
    here (AfterSpaces LineEnd s p lexical) (text ++ last) u (inr (inr (record { rest = k.iri ++ last; after = after; spelled = ap (λ t. t ++ last) k.parts }))))
    h

-- the parts of a triple
object : (s : Term) (p : List ℕ) (o : Term) → IsTerm o → Object LineEnd s p (term_text o ++ last) (triple_of s p o)
object s p (Iri text) valid = inl (record { own = term_text (Iri text); value = text; rest = last; token = (tokens (Iri text) valid).is; after = ends (triple_of s p (Iri text)); spelled = refl })
object s p (Blank label) valid = inr (inl (record { own = term_text (Blank label); value = label; rest = last; token = (tokens (Blank label) valid).is; after = ends (triple_of s p (Blank label)); spelled = refl }))
object s p (Lit l) valid =
    let k = tokens (Lit l) valid in
    inr (inr (record {
      own = k.string;
      value = l.lexical;
      rest = k.suffix ++ last;
      token = k.is.is;
      after = suffix s p l.lexical k.suffix l.tag l.datatype k.after valid;
      spelled = ap (λ t. t ++ last) k.parts ∙ append_assoc k.string k.suffix last;
    }))

no_iri : {P : Type 0} → false ≡ true → P
no_iri e = cc

predicate : (s p o : Term) → IsTerm p → IsTerm o → is_iri_term p ≡ true → Predicate LineEnd s (term_text p ++ 32 ∷ (term_text o ++ last)) (record { s = s; p = p; o = o })
predicate s (Iri p) o valid object_valid h = record {
  own = term_text (Iri p);
  value = p;
  rest = 32 ∷ (term_text o ++ last);
  token = (tokens (Iri p) valid).is;
  after = after_space (Object LineEnd s p) (term_text o ++ last) (triple_of s p o) (object s p o object_valid);
  spelled = refl;
}
predicate s (Blank label) o valid object_valid h = no_iri h
predicate s (Lit literal) o valid object_valid h = no_iri h

subject : (s p o : Term) → IsTerm s → IsTerm p → IsTerm o → is_subject s ≡ true → is_iri_term p ≡ true → Subject LineEnd (term_text s ++ 32 ∷ (term_text p ++ 32 ∷ (term_text o ++ last))) (record { s = s; p = p; o = o })
subject (Iri s) p o valid predicate_valid object_valid h k = inl (record {
  own = term_text (Iri s);
  value = s;
  rest = 32 ∷ (term_text p ++ 32 ∷ (term_text o ++ last));
  token = (tokens (Iri s) valid).is;
  after = after_space (Predicate LineEnd (Iri s)) (term_text p ++ 32 ∷ (term_text o ++ last)) (record { s = Iri s; p = p; o = o }) (predicate (Iri s) p o predicate_valid object_valid k);
  spelled = refl;
})
subject (Blank s) p o valid predicate_valid object_valid h k = inr (record {
  own = term_text (Blank s);
  value = s;
  rest = 32 ∷ (term_text p ++ 32 ∷ (term_text o ++ last));
  token = (tokens (Blank s) valid).is;
  after = after_space (Predicate LineEnd (Blank s)) (term_text p ++ 32 ∷ (term_text o ++ last)) (record { s = Blank s; p = p; o = o }) (predicate (Blank s) p o predicate_valid object_valid k);
  spelled = refl;
})
subject (Lit literal) p o valid predicate_valid object_valid h k = no_iri h

-- the line without its LF
abbrev body : Statement → List ℕ
body t = term_text t.s ++ 32 ∷ (term_text t.p ++ 32 ∷ (term_text t.o ++ last))

body_line : (t : Statement) → line_text t ≡ body t ++ 10 ∷ []
body_line t = simp append_assoc

line : (t : Statement) → IsStatement t → Line (body t) (Some t)
line t h = inr (record {
  triple = t;
  stated = here (Subject LineEnd) (body t) t (subject t.s t.p t.o h.subject h.predicate h.object h.parts.0 h.parts.1);
  is = refl;
})

-- the lines of a document
later : (text : List ℕ) (ts : List Statement) → NtText text ts → LaterLines (10 ∷ text) ts
later text ts k =
    let first : LaterLine = record { separator = 10; text = k.own; fact = k.fact } in
    record {
      lines = first ∷ k.later.lines;
      each = (record { ends = refl; is = k.first }, k.later.each);
      spelled = ap (λ t. 10 ∷ t) (k.spelled ∙ ap (λ t. k.own ++ t) k.later.spelled);
      stated = k.stated ∙ ap (λ ts. option_to_list k.fact ++ ts) k.later.stated;
    }

text : (ts : List Statement) → AllByRecursion IsStatement ts → NtText (flat_map line_text ts) ts
text [] h = record {
  own = [];
  fact = None;
  rest = [];
  more = [];
  first = inl (tt, refl);
  later = record { lines = []; each = tt; spelled = refl; stated = refl };
  spelled = refl;
  stated = refl;
}
text (t ∷ ts) h = record {
  own = body t;
  fact = Some t;
  rest = 10 ∷ flat_map line_text ts;
  more = ts;
  first = line t h.0;
  later = later (flat_map line_text ts) ts (text ts h.1);
  spelled = ap (λ l. l ++ flat_map line_text ts) (body_line t) ∙ append_assoc (body t) (10 ∷ []) (flat_map line_text ts);
  stated = refl;
}

scalars : (ts : List Statement) → AllByRecursion IsStatement ts → all_scalars (flat_map line_text ts) ≡ true
scalars [] h = refl
scalars (t ∷ ts) h = scalars_join (line_text t) (flat_map line_text ts) h.0.scalars (scalars ts h.1)

encoded : (ts : List Statement) → flat_map line_bytes ts ≡ encode_utf8_all (flat_map line_text ts)
encoded [] = refl
encoded (t ∷ ts) = ap (λ b. line_bytes t ++ b) (encoded ts) ∙ sym (encodes-append (line_text t) (flat_map line_text ts))

pub canonical_reads_back : CanonicalReadsBack
canonical_reads_back triples bytes valid c =
    let all = all_from IsStatement c.distinct (λ t h. all_in IsStatement triples t valid (c.same.1 t h)) in
    record { text = flat_map line_text c.distinct; scalars = scalars c.distinct all; encoded = c.written ∙ encoded c.distinct; lines = text c.distinct all }

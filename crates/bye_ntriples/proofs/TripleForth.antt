-- From a character of a triple, and what a state wants, to the next state and what it wants.
use Rattle.std.proofs.lemmas.List.{append-nil}
use Rattle.bye_lex.specs.declared.string.StringAt.{StringAt}
use Rattle.std.proofs.Common.{◌≡◌, refl, ℕ, Bool, true, false, cond, ◌==◌, ◌||◌, List, [], ◌∷◌, ◌++◌, Option, Some, None, ◌⊎◌, inl, inr, ⊎_elim, sym, ◌∙◌, ap, subst}
use Rattle.bye_terms.specs.Terms.{Statement}
use Rattle.bye_terms.specs.declared.term.Term.{Term}
use Rattle.bye_terms.specs.declared.term.Term.TheVariants.{Iri, Blank}
use Rattle.bye_lex.specs.Iris.{IriToken}
use Rattle.bye_lex.specs.Marks.{LabelToken, TagToken}
use Rattle.bye_lex.specs.LabelSteps as label_steps
use Rattle.bye_lex.specs.Strings.{StringToken, StringTail, around, has_quoting}
use Rattle.bye_lex.specs.declared.iri.IriAt.{IriAt}
use Rattle.bye_lex.specs.declared.iri.IriAt.TheVariants as iri_at
use Rattle.bye_lex.specs.declared.label.LabelAt.{LabelAt}
use Rattle.bye_lex.specs.declared.label.LabelAt.TheVariants as labels
use Rattle.bye_lex.specs.declared.quoting.Quote.TheVariants.{Double, Single}
use Rattle.bye_lex.specs.declared.quoting.Quoting.{Quoting}
use Rattle.bye_lex.specs.declared.quoting.Quoting.TheVariants.{Short, Long}
use Rattle.bye_lex.specs.declared.string.StringAt.TheVariants as string_at
use Rattle.bye_lex.specs.declared.style.Style.TheVariants.{Triples}
use Rattle.bye_lex.specs.declared.tag.TagAt.{TagAt}
use Rattle.bye_lex.specs.declared.tag.TagAt.TheVariants as tags
use Rattle.bye_lex.specs.TagSteps as tag_steps
use Rattle.bye_terms.specs.Names.{is_label_rest}
use Rattle.bye_lex.proofs.Branches.{when, unless, eqb_same, same_eqb, heads, none_some, some_same}
use Rattle.bye_lex.proofs.Embedding.{Onward}
use Rattle.bye_lex.proofs.LabelExact.{Left, label_exact, in_stops, dots_stop}
use Rattle.bye_ntriples.specs.Lines.{is_space, Spaced, Then, Dot, Dotted, DatatypeToken, Datatype, Carets, Tagged, AfterSpaces}
use Rattle.bye_ntriples.specs.Lines as lines
use Rattle.bye_ntriples.specs.LineSteps as line
use Rattle.bye_ntriples.specs.Triples.{triple_of, string_of, tagged_of, typed_of}
use Rattle.bye_ntriples.specs.declared.line.LineAt.{LineAt}
use Rattle.bye_ntriples.specs.declared.line.LineAt.TheVariants.{Begin, Subject, AfterSubject, Predicate, AfterPredicate, Object, Suffix, AfterObject, Ended, Comment}
use Rattle.bye_ntriples.specs.declared.line.SubjectAt.TheVariants as subjects
use Rattle.bye_ntriples.specs.declared.line.ObjectAt.TheVariants as objects
use Rattle.bye_ntriples.specs.declared.line.SuffixAt.TheVariants as suffixes
use Rattle.bye_ntriples.proofs.LineMeaning.{WithinLabel, WithinTag, WithinIri, WithinString, AfterSubjectIri, AfterSubjectLabel, AfterPredicateIri, AfterObjectIri, AfterObjectLabel, AfterTag, AfterDatatype, LeftTriple, Good, is_open_string}
use Rattle.bye_ntriples.proofs.Tokens.{begin_iri, iri_forth, label_forth, tag_forth, decided}
use Rattle.bye_ntriples.proofs.StringTokens.{string_forth}

-- the first character of a token
first_iri : {W : Type 0} (Rest : List ℕ → List ℕ → W → Type 0) (c : ℕ) (t : List ℕ) (w : W) → Then (IriToken Triples) Rest (c ∷ t) w → c ≡ 60
first_iri Rest c t w h = (heads c 60 t (h.token.rest ++ h.rest) (h.spelled ∙ ap (λ own. own ++ h.rest) h.token.spelled)).0

pub begin_label : {W : Type 0} (Rest : List ℕ → List ℕ → W → Type 0) (text : List ℕ) (w : W) → Then LabelToken Rest text w → WithinLabel Rest labels.Start text w
begin_label Rest text w h = record { own = h.own; value = h.value; rest = h.rest; is = h.token; after = h.after; spelled = h.spelled }

first_label : {W : Type 0} (Rest : List ℕ → List ℕ → W → Type 0) (c : ℕ) (t : List ℕ) (w : W) → Then LabelToken Rest (c ∷ t) w → c ≡ 95
first_label Rest c t w h = (heads c 95 t (58 ∷ h.value ++ h.rest) (h.spelled ∙ ap (λ own. own ++ h.rest) h.token.0)).0

pub begin_tag : {W : Type 0} (Rest : List ℕ → List ℕ → W → Type 0) (text : List ℕ) (w : W) → Then TagToken Rest text w → WithinTag Rest tags.Start text w
begin_tag Rest text w h = record { own = h.own; value = h.value; rest = h.rest; is = h.token; after = h.after; spelled = h.spelled }

first_tag : {W : Type 0} (Rest : List ℕ → List ℕ → W → Type 0) (c : ℕ) (t : List ℕ) (w : W) → Then TagToken Rest (c ∷ t) w → c ≡ 64
first_tag Rest c t w h = (heads c 64 t (h.value ++ h.rest) (h.spelled ∙ ap (λ own. own ++ h.rest) h.token.0)).0

quoted_at : {W : Type 0} (Rest : List ℕ → List ℕ → W → Type 0) (text : List ℕ) (w : W) (own value rest : List ℕ) (token : StringToken Triples own value) (quoting : Quoting) → token.quoting ≡ quoting → Rest value rest w → text ≡ own ++ rest → WithinString Rest string_at.Start text w
quoted_at Rest text w own value rest token (Short Double) e k p =
    let is = subst (λ q. (tail : List ℕ) × (own ≡ around q ++ tail) × StringTail Triples q tail value) e (token.tail, token.spelled, token.after) in
    record { first = 34; own = is.0; value = value; rest = rest; is = record { quoting = Short Double; has = refl; tail = is.0; after = is.2; spelled = refl }; after = k; spelled = p ∙ ap (λ own. own ++ rest) is.1 }
quoted_at Rest text w own value rest token (Short Single) e k p = let h = sym (ap (has_quoting Triples) e) ∙ token.has in cc
quoted_at Rest text w own value rest token (Long q) e k p = let h = sym (ap (has_quoting Triples) e) ∙ token.has in cc

pub begin_string : {W : Type 0} (Rest : List ℕ → List ℕ → W → Type 0) (text : List ℕ) (w : W) → Then (StringToken Triples) Rest text w → WithinString Rest string_at.Start text w
begin_string Rest text w h = quoted_at Rest text w h.own h.value h.rest h.token h.token.quoting refl h.after h.spelled

string_first : {W : Type 0} (Rest : List ℕ → List ℕ → W → Type 0) (c : ℕ) (t : List ℕ) (w : W) → Then (StringToken Triples) Rest (c ∷ t) w → c ≡ 34
string_first Rest c t w h =
    let k = begin_string Rest (c ∷ t) w h in
    let q : k.first ≡ 34 = starts k.is.quoting k.is.tail k.first k.own k.is.has k.is.spelled in
    (heads c k.first t (k.own ++ k.rest) k.spelled).0 ∙ q
  where
    starts : (quoting : Quoting) (tail : List ℕ) (c : ℕ) (own : List ℕ) → has_quoting Triples quoting ≡ true → c ∷ own ≡ around quoting ++ tail → c ≡ 34
    starts (Short Double) tail c own h e = (heads c 34 own tail e).0
    starts (Short Single) tail c own h e = cc
    starts (Long q) tail c own h e = cc

-- spaces, or what follows them
spaced_forth : (P : LineAt → List ℕ → Statement → Type 0) (L : List ℕ → Statement → Type 0) (state : LineAt) (other : Option LineAt) (c : ℕ) (t : List ℕ) (v : Statement) → (Spaced L t v → P state t v) → (L (c ∷ t) v → (is_space c ≡ false) × Onward P other t v)
    → Spaced L (c ∷ t) v → Onward P (cond (is_space c) (Some state) other) t v
spaced_forth P L state other c t v into onto (inl k) = (state, when _ _ _ k.0, into k.1)
spaced_forth P L state other c t v into onto (inr k) = let m = onto k in (m.1.0, unless _ _ _ _ m.0 m.1.1, m.1.2)

no_space : (c d : ℕ) → c ≡ d → is_space d ≡ false → is_space c ≡ false
no_space c d e f = ap is_space e ∙ f

not_this : (c d e : ℕ) → c ≡ d → (d == e) ≡ false → (c == e) ≡ false
not_this c d e h f = ap (λ c. c == e) h ∙ f

pub space_is : (c : ℕ) → is_space c ≡ true → (c ≡ 32) ⊎ (c ≡ 9)
space_is c e = ⊎_elim (λ b. inl (eqb_same c 32 b)) (λ b. inr (eqb_same c 9 (sym (or_first (c == 32) (c == 9) b) ∙ e))) (decided (c == 32))
  where
    or_first : (a b : Bool) → a ≡ false → (a || b) ≡ b
    or_first true b e = cc
    or_first false b e = refl

-- no label goes on with a space
spaced_off : (c : ℕ) → is_space c ≡ true → label_steps.goes_on c ≡ false
spaced_off c e = ⊎_elim (λ k. ap label_steps.goes_on k) (λ k. ap label_steps.goes_on k) (space_is c e)

-- a whole label stops where it does not go on
label_stops : (s : LabelAt) (v : List ℕ) (c : ℕ) → label_steps.final s ≡ Some v → label_steps.goes_on c ≡ false → label_steps.step s c ≡ None
label_stops labels.Start v c e f = none_some e
label_stops labels.Underscore v c e f = none_some e
label_stops labels.Colon v c e f = none_some e
label_stops (labels.In label) v c e f = in_stops label c f
label_stops (labels.Dotted label dots) v c e f = none_some e

-- no whole tag goes on with a space or a dot
tag_stops : (s : TagAt) (v : List ℕ) → tag_steps.final s ≡ Some v → (tag_steps.step s 32 ≡ None) × ((tag_steps.step s 9 ≡ None) × (tag_steps.step s 46 ≡ None))
tag_stops tags.Start v e = none_some e
tag_stops tags.Sign v e = none_some e
tag_stops (tags.Letters tag) v e = (refl, (refl, refl))
tag_stops (tags.Hyphen tag) v e = none_some e
tag_stops (tags.Subtag tag) v e = (refl, (refl, refl))

tag_spaced : (s : TagAt) (v : List ℕ) (c : ℕ) → tag_steps.final s ≡ Some v → is_space c ≡ true → tag_steps.step s c ≡ None
tag_spaced s v c e f = ⊎_elim (λ k. ap (tag_steps.step s) k ∙ (tag_stops s v e).0) (λ k. ap (tag_steps.step s) k ∙ (tag_stops s v e).1.0) (space_is c f)

-- What may stand after the dot of a triple: it leads on from there, and does not go on in a label.
pub record Endings (End : List ℕ → Type 0) : Type 0 where
  pub forth : (stated : Statement) (c : ℕ) (t : List ℕ) → End (c ∷ t) → Onward (LeftTriple End) (line.ended stated c) t stated
  pub apart : (c : ℕ) (t : List ℕ) → End (c ∷ t) → label_steps.goes_on c ≡ false

-- before the dot that ends the triple, or at a dot that may belong to a label
abbrev pub is_before_end : LineAt → Bool
is_before_end Begin = true
is_before_end (Subject at) = true
is_before_end (AfterSubject s) = true
is_before_end (Predicate s at) = true
is_before_end (AfterPredicate s p) = true
is_before_end (Object s p at) = true
is_before_end (Suffix s p lexical at) = true
is_before_end (AfterObject stated) = true
is_before_end (Ended stated) = false
is_before_end (Comment fact) = false

module _ (End : List ℕ → Type 0) where
  abbrev Next : Option LineAt → List ℕ → Statement → Type 0
  Next = Onward (LeftTriple End)

  dot_is : (stated : Statement) (c : ℕ) (t : List ℕ) (v : Statement) → Dot End stated (c ∷ t) v → (c ≡ 46) × (End t × (v ≡ stated))
  dot_is stated c t v h = let k = heads c 46 t h.rest h.spelled in (k.0, (subst End (sym k.1) h.end, h.is))

  after_object : (stated : Statement) (c : ℕ) (t : List ℕ) (v : Statement) → Dotted End stated (c ∷ t) v → Next (line.after_object stated c) t v
  after_object stated c t v h =
      spaced_forth (LeftTriple End) (Dot End stated) (AfterObject stated) _ c t v (λ k. k)
      (λ k. let d = dot_is stated c t v k in (no_space c 46 d.0 refl, (Ended stated, when _ _ _ (same_eqb c 46 d.0), d.1)))
      h

  in_predicate : (s : Term) (at : IriAt) (c : ℕ) (t : List ℕ) (v : Statement) → WithinIri (AfterPredicateIri End s) at (c ∷ t) v → Next (line.in_predicate s at c) t v
  in_predicate s at c t v h = iri_forth (LeftTriple End) (AfterPredicateIri End s) (λ n. Predicate s n) (λ p. Some (AfterPredicate s p)) at c t v (λ n k. k) (λ p k. (AfterPredicate s p, refl, k)) h

  after_subject : (s : Term) (c : ℕ) (t : List ℕ) (v : Statement) → Spaced (lines.Predicate End s) (c ∷ t) v → Next (line.after_subject s c) t v
  after_subject s c t v h =
      spaced_forth (LeftTriple End) (lines.Predicate End s) (AfterSubject s) _ c t v (λ k. k)
      (λ k. (no_space c 60 (first_iri (AfterPredicateIri End s) c t v k) refl, in_predicate s iri_at.Start c t v (begin_iri k)))
      h

  in_subject : (at : IriAt) (c : ℕ) (t : List ℕ) (v : Statement) → WithinIri (AfterSubjectIri End) at (c ∷ t) v → Next (line.in_subject at c) t v
  in_subject at c t v h = iri_forth (LeftTriple End) (AfterSubjectIri End) (λ n. Subject (subjects.Iri n)) (λ s. Some (AfterSubject (Iri s))) at c t v (λ n k. k) (λ s k. (AfterSubject (Iri s), refl, k)) h

  subject_apart : (q : LabelAt) (s : List ℕ) (c : ℕ) (t : List ℕ) (v : Statement) → label_steps.final q ≡ Some s → AfterSubjectLabel End s (c ∷ t) v → label_steps.step q c ≡ None
  subject_apart q s c t v w (inl k) = label_stops q s c w (spaced_off c k.0)
  subject_apart q s c t v w (inr k) = label_stops q s c w (ap label_steps.goes_on (first_iri (AfterPredicateIri End (Blank s)) c t v k))

  in_subject_label : (q : LabelAt) (c : ℕ) (t : List ℕ) (v : Statement) → WithinLabel (AfterSubjectLabel End) q (c ∷ t) v → Next (line.in_subject_label q c) t v
  in_subject_label q c t v h =
      label_forth (LeftTriple End) (AfterSubjectLabel End) (λ n. Subject (subjects.Label n)) (λ s c. line.after_subject (Blank s) c) q c t v (λ n k. k) (λ s k. after_subject (Blank s) c t v k)
      (λ s b k. subject_apart q s c t v b k) h

  abbrev AtSubject : ℕ → List ℕ → Statement → Type 0
  AtSubject c t v = ((is_space c ≡ false) × ((c == 35) ≡ false)) × Next (line.subject c) t v

  subject : (c : ℕ) (t : List ℕ) (v : Statement) → lines.Subject End (c ∷ t) v → AtSubject c t v
  subject c t v (inl k) =
      let e = first_iri (AfterSubjectIri End) c t v k in
      let n = in_subject iri_at.Start c t v (begin_iri k) in
      ((no_space c 60 e refl, not_this c 60 35 e refl), (n.0, when _ _ _ (same_eqb c 60 e) ∙ n.1, n.2))
  subject c t v (inr k) =
      let e = first_label (AfterSubjectLabel End) c t v k in
      let n = in_subject_label labels.Start c t v (begin_label (AfterSubjectLabel End) (c ∷ t) v k) in
      ((no_space c 95 e refl, not_this c 95 35 e refl), (n.0, unless _ _ _ _ (not_this c 95 60 e refl) refl ∙ n.1, n.2))

  begin : (c : ℕ) (t : List ℕ) (v : Statement) → lines.Triple End (c ∷ t) v → Next (line.begin c) t v
  begin c t v h =
      spaced_forth (LeftTriple End) (lines.Subject End) Begin _ c t v (λ k. k)
      (λ k. let n = subject c t v k in (n.0.0, (n.1.0, unless _ _ _ _ n.0.1 refl ∙ n.1.1, n.1.2)))
      h

  in_object : (s : Term) (p : List ℕ) (at : IriAt) (c : ℕ) (t : List ℕ) (v : Statement) → WithinIri (AfterObjectIri End s p) at (c ∷ t) v → Next (line.in_object s p at c) t v
  in_object s p at c t v h = iri_forth (LeftTriple End) (AfterObjectIri End s p) (λ n. Object s p (objects.Iri n)) (λ o. Some (AfterObject (triple_of s p (Iri o)))) at c t v (λ n k. k) (λ o k. (AfterObject (triple_of s p (Iri o)), refl, k)) h

  -- after a whole label of an object stands a space or a dot
  object_apart : (q : LabelAt) (s : Term) (p o : List ℕ) (c : ℕ) (t : List ℕ) (v : Statement) → (c == 46) ≡ false → label_steps.final q ≡ Some o → AfterObjectLabel End s p o (c ∷ t) v → label_steps.step q c ≡ None
  object_apart q s p o c t v f w (inl k) = label_stops q o c w (spaced_off c k.0)
  object_apart q s p o c t v f w (inr k) = let e = sym (same_eqb c 46 (dot_is (triple_of s p (Blank o)) c t v k).0) ∙ f in cc

  label_goes : (s : Term) (p : List ℕ) (q : LabelAt) (c : ℕ) (t : List ℕ) (v : Statement) → ((o : List ℕ) → label_steps.final q ≡ Some o → (c == 46) ≡ false) → WithinLabel (AfterObjectLabel End s p) q (c ∷ t) v → Next (line.go_on_in_label s p q c) t v
  label_goes s p q c t v f h =
      label_forth (LeftTriple End) (AfterObjectLabel End s p) (λ n. Object s p (objects.Label n)) (λ o c. line.after_object (triple_of s p (Blank o)) c) q c t v (λ n k. k) (λ o k. after_object (triple_of s p (Blank o)) c t v k)
      (λ o b k. object_apart q s p o c t v (f o b) b k) h

  in_object_label : (s : Term) (p : List ℕ) (q : LabelAt) (c : ℕ) (t : List ℕ) (v : Statement) → WithinLabel (AfterObjectLabel End s p) q (c ∷ t) v → Next (line.in_object_label s p q c) t v
  in_object_label s p labels.Start c t v h = label_goes s p labels.Start c t v (λ o e. none_some e) h
  in_object_label s p labels.Underscore c t v h = label_goes s p labels.Underscore c t v (λ o e. none_some e) h
  in_object_label s p labels.Colon c t v h = label_goes s p labels.Colon c t v (λ o e. none_some e) h
  in_object_label s p (labels.In label) c t v h =
      ⊎_elim
      (λ (b : (c == 46) ≡ true).
      let r : Next (line.in_object_label s p (labels.In label) c) t v = (Object s p (objects.Dot label), when _ _ _ b, subst (λ c. WithinLabel (AfterObjectLabel End s p) (labels.In label) (c ∷ t) v) (eqb_same c 46 b) h) in r)
      (λ (b : (c == 46) ≡ false).
      let n = label_goes s p (labels.In label) c t v (λ o e. b) h in
      let r : Next (line.in_object_label s p (labels.In label) c) t v = (n.0, unless _ _ _ _ b refl ∙ n.1, n.2) in r)
      (decided (c == 46))
  in_object_label s p (labels.Dotted label dots) c t v h = label_goes s p (labels.Dotted label dots) c t v (λ o e. none_some e) h

  -- after a label and a dot
  dot_own : Endings End → (s : Term) (p label : List ℕ) (c : ℕ) (t own value rest : List ℕ) (v : Statement) → Left (labels.In label) own value → AfterObjectLabel End s p value rest v → 46 ∷ c ∷ t ≡ own ++ rest → Next (line.after_dot s p label c) t v
  dot_own x s p label c t [] value rest v w k e =
      let stated = triple_of s p (Blank label) in
      let same : value ≡ label = w.0 ∙ append-nil label in
      let k1 : AfterObjectLabel End s p label (46 ∷ c ∷ t) v = subst (λ l. AfterObjectLabel End s p l (46 ∷ c ∷ t) v) same (subst (λ r. AfterObjectLabel End s p value r v) (sym e) k) in
      ⊎_elim
      (λ (d : (is_space 46 ≡ true) × Dotted End stated (c ∷ t) v). let z = d.0 in let r : Next (line.after_dot s p label c) t v = cc in r)
      (λ (d : Dot End stated (46 ∷ c ∷ t) v).
      let q = dot_is stated 46 (c ∷ t) v d in
      let n = x.forth stated c t q.1.0 in
      let stops = dots_stop label (46 ∷ []) c (x.apart c t q.1.0) in
      let r : Next (line.after_dot s p label c) t v = (n.0, ap (λ o. line.settle_dot s p label c o) stops ∙ n.1, subst (λ v. LeftTriple End n.0 t v) (sym q.1.1) n.2) in r)
      k1
  dot_own x s p label c t (d ∷ []) value rest v w k e =
      let z : is_label_rest false (46 ∷ []) ≡ true = subst (λ d. is_label_rest false (d ∷ []) ≡ true) (sym (heads 46 d (c ∷ t) rest e).0) w.1 in cc
  dot_own x s p label c t (d ∷ b ∷ own) value rest v w k e =
      let h = heads 46 d (c ∷ t) (b ∷ own ++ rest) e in
      let g = heads c b t (own ++ rest) h.1 in
      let w1 : Left (labels.In label) (46 ∷ c ∷ own) value = subst (λ b. Left (labels.In label) (46 ∷ b ∷ own) value) (sym g.0) (subst (λ d. Left (labels.In label) (d ∷ b ∷ own) value) (sym h.0) w) in
      let one = label_exact.forth (labels.In label) 46 (c ∷ own) value w1 in
      let dotted : Left (labels.Dotted label (46 ∷ [])) (c ∷ own) value = subst (λ n. Left n (c ∷ own) value) (sym (some_same one.1)) one.2 in
      let n = label_exact.forth (labels.Dotted label (46 ∷ [])) c own value dotted in (
        Object s p (objects.Label n.0),
        ap (λ o. line.settle_dot s p label c o) n.1,
        record { own = own; value = value; rest = rest; is = n.2; after = k; spelled = g.1 },
      )

  after_dot : Endings End → (s : Term) (p label : List ℕ) (c : ℕ) (t : List ℕ) (v : Statement) → WithinLabel (AfterObjectLabel End s p) (labels.In label) (46 ∷ c ∷ t) v → Next (line.after_dot s p label c) t v
  after_dot x s p label c t v h = dot_own x s p label c t h.own h.value h.rest v h.is h.after h.spelled

  in_object_string : (s : Term) (p : List ℕ) (at : StringAt) (c : ℕ) (t : List ℕ) (v : Statement) → is_open_string at ≡ true → WithinString (λ lexical. lines.Suffix End s p lexical) at (c ∷ t) v → Next (line.in_object_string s p at c) t v
  in_object_string s p at c t v g h =
      string_forth (LeftTriple End) (λ lexical. lines.Suffix End s p lexical) (λ n. Object s p (objects.String n)) (λ lexical. Suffix s p lexical suffixes.Start) at c t v g (λ n k. k) (λ lexical k. k) h

  abbrev AtObject : Term → List ℕ → ℕ → List ℕ → Statement → Type 0
  AtObject s p c t v = (is_space c ≡ false) × Next (line.object s p c) t v

  object : (s : Term) (p : List ℕ) (c : ℕ) (t : List ℕ) (v : Statement) → lines.Object End s p (c ∷ t) v → AtObject s p c t v
  object s p c t v (inl k) =
      let e = first_iri (AfterObjectIri End s p) c t v k in
      let n = in_object s p iri_at.Start c t v (begin_iri k) in
      (no_space c 60 e refl, (n.0, when _ _ _ (same_eqb c 60 e) ∙ n.1, n.2))
  object s p c t v (inr (inl k)) =
      let e = first_label (AfterObjectLabel End s p) c t v k in
      let n = in_object_label s p labels.Start c t v (begin_label (AfterObjectLabel End s p) (c ∷ t) v k) in
      (no_space c 95 e refl, (n.0, unless _ _ _ _ (not_this c 95 60 e refl) (unless _ _ _ _ (not_this c 95 34 e refl) refl) ∙ n.1, n.2))
  object s p c t v (inr (inr k)) =
      let e = string_first (λ lexical. lines.Suffix End s p lexical) c t v k in
      let n = in_object_string s p string_at.Start c t v refl (begin_string (λ lexical. lines.Suffix End s p lexical) (c ∷ t) v k) in
      (no_space c 34 e refl, (n.0, unless _ _ _ _ (not_this c 34 60 e refl) (when _ _ _ (same_eqb c 34 e)) ∙ n.1, n.2))

  after_predicate : (s : Term) (p : List ℕ) (c : ℕ) (t : List ℕ) (v : Statement) → Spaced (lines.Object End s p) (c ∷ t) v → Next (line.after_predicate s p c) t v
  after_predicate s p c t v h = spaced_forth (LeftTriple End) (lines.Object End s p) (AfterPredicate s p) _ c t v (λ k. k) (λ k. object s p c t v k) h

  tag_apart : (q : TagAt) (tag : List ℕ) (stated : Statement) (c : ℕ) (t : List ℕ) (v : Statement) → tag_steps.final q ≡ Some tag → Dotted End stated (c ∷ t) v → tag_steps.step q c ≡ None
  tag_apart q tag stated c t v w (inl k) = tag_spaced q tag c w k.0
  tag_apart q tag stated c t v w (inr k) = ap (tag_steps.step q) (dot_is stated c t v k).0 ∙ (tag_stops q tag w).1.1

  in_tag : (s : Term) (p lexical : List ℕ) (q : TagAt) (c : ℕ) (t : List ℕ) (v : Statement) → WithinTag (AfterTag End s p lexical) q (c ∷ t) v → Next (line.in_tag s p lexical q c) t v
  in_tag s p lexical q c t v h =
      tag_forth (LeftTriple End) (AfterTag End s p lexical) (λ n. Suffix s p lexical (suffixes.Tag n)) (λ tag c. line.after_object (triple_of s p (tagged_of lexical tag)) c) q c t v (λ n k. k) (λ tag k. after_object (triple_of s p (tagged_of lexical tag)) c t v k)
      (λ tag b k. tag_apart q tag (triple_of s p (tagged_of lexical tag)) c t v b k) h

  abbrev AtSuffix : Term → List ℕ → List ℕ → ℕ → List ℕ → Statement → Type 0
  AtSuffix s p lexical c t v =
      (is_space c ≡ false) × Next (cond (c == 46) (Some (Ended (triple_of s p (string_of lexical)))) (cond (c == 94) (Some (Suffix s p lexical suffixes.Caret)) (line.in_tag s p lexical tags.Start c))) t v

  at_suffix : (s : Term) (p lexical : List ℕ) (c : ℕ) (t : List ℕ) (v : Statement) → AfterSpaces End s p lexical (c ∷ t) v → AtSuffix s p lexical c t v
  at_suffix s p lexical c t v (inl k) =
      let d = dot_is (triple_of s p (string_of lexical)) c t v k in
      (no_space c 46 d.0 refl, (Ended (triple_of s p (string_of lexical)), when _ _ _ (same_eqb c 46 d.0), d.1))
  at_suffix s p lexical c t v (inr (inl k)) =
      let e = first_tag (AfterTag End s p lexical) c t v k in
      let n = in_tag s p lexical tags.Start c t v (begin_tag (AfterTag End s p lexical) (c ∷ t) v k) in
      (no_space c 64 e refl, (n.0, unless _ _ _ _ (not_this c 64 46 e refl) (unless _ _ _ _ (not_this c 64 94 e refl) refl) ∙ n.1, n.2))
  at_suffix s p lexical c t v (inr (inr k)) =
      let h = heads c 94 t (94 ∷ k.rest) k.spelled in
      let r : LeftTriple End (Suffix s p lexical suffixes.Caret) t v = record { rest = k.rest; after = k.after; spelled = ap (λ t. 94 ∷ t) h.1 } in
      (no_space c 94 h.0 refl, (Suffix s p lexical suffixes.Caret, unless _ _ _ _ (not_this c 94 46 h.0 refl) (when _ _ _ (same_eqb c 94 h.0)), r))

  after_string : (s : Term) (p lexical : List ℕ) (c : ℕ) (t : List ℕ) (v : Statement) → lines.Suffix End s p lexical (c ∷ t) v → Next (line.after_string s p lexical c) t v
  after_string s p lexical c t v h = spaced_forth (LeftTriple End) (AfterSpaces End s p lexical) (Suffix s p lexical suffixes.Start) _ c t v (λ k. k) (λ k. at_suffix s p lexical c t v k) h

  caret : (s : Term) (p lexical : List ℕ) (c : ℕ) (t : List ℕ) (v : Statement) → Carets End s p lexical (94 ∷ c ∷ t) v → Next (line.caret s p lexical c) t v
  caret s p lexical c t v h =
      let k = heads 94 94 (c ∷ t) (94 ∷ h.rest) h.spelled in
      let g = heads c 94 t h.rest k.1 in
      (Suffix s p lexical suffixes.Carets, when _ _ _ (same_eqb c 94 g.0), subst (λ t. Datatype End s p lexical t v) (sym g.1) h.after)

  in_datatype : (s : Term) (p lexical : List ℕ) (at : IriAt) (c : ℕ) (t : List ℕ) (v : Statement) → WithinIri (AfterDatatype End s p lexical) at (c ∷ t) v → Next (line.in_datatype s p lexical at c) t v
  in_datatype s p lexical at c t v h =
      iri_forth (LeftTriple End) (AfterDatatype End s p lexical) (λ n. Suffix s p lexical (suffixes.Datatype n)) (line.typed s p lexical) at c t v (λ n k. k)
      (λ d k. (AfterObject (triple_of s p (typed_of lexical d)), unless _ _ _ _ k.0 refl, k.1)) h

  abbrev TypedRest : Term → List ℕ → List ℕ → List ℕ → List ℕ → Statement → Type 0
  TypedRest s p lexical datatype = Dotted End (triple_of s p (typed_of lexical datatype))

  begin_datatype : (s : Term) (p lexical text : List ℕ) (v : Statement) → Then DatatypeToken (TypedRest s p lexical) text v → Then (IriToken Triples) (AfterDatatype End s p lexical) text v
  begin_datatype s p lexical text v h = record { own = h.own; value = h.value; rest = h.rest; token = h.token.0; after = (h.token.1, h.after); spelled = h.spelled }

  after_carets : (s : Term) (p lexical : List ℕ) (c : ℕ) (t : List ℕ) (v : Statement) → Datatype End s p lexical (c ∷ t) v → Next (line.after_carets s p lexical c) t v
  after_carets s p lexical c t v h =
      spaced_forth (LeftTriple End) (Then DatatypeToken (TypedRest s p lexical)) (Suffix s p lexical suffixes.Carets) _ c t v (λ k. k)
      (λ k. let i = begin_datatype s p lexical (c ∷ t) v k in
      (no_space c 60 (first_iri (AfterDatatype End s p lexical) c t v i) refl, in_datatype s p lexical iri_at.Start c t v (begin_iri i)))
      h

  -- each state of a triple, up to its dot
  pub triple_forth : Endings End → (s : LineAt) (c : ℕ) (t : List ℕ) (v : Statement) → Good s → is_before_end s ≡ true → LeftTriple End s (c ∷ t) v → Next (line.step s c) t v
  triple_forth x Begin c t v g b h = begin c t v h
  triple_forth x (Subject (subjects.Iri at)) c t v g b h = in_subject at c t v h
  triple_forth x (Subject (subjects.Label q)) c t v g b h = in_subject_label q c t v h
  triple_forth x (AfterSubject s) c t v g b h = after_subject s c t v h
  triple_forth x (Predicate s at) c t v g b h = in_predicate s at c t v h
  triple_forth x (AfterPredicate s p) c t v g b h = after_predicate s p c t v h
  triple_forth x (Object s p (objects.Iri at)) c t v g b h = in_object s p at c t v h
  triple_forth x (Object s p (objects.Label q)) c t v g b h = in_object_label s p q c t v h
  triple_forth x (Object s p (objects.Dot label)) c t v g b h = after_dot x s p label c t v h
  triple_forth x (Object s p (objects.String at)) c t v g b h = in_object_string s p at c t v g.going h
  triple_forth x (Suffix s p lexical suffixes.Start) c t v g b h = after_string s p lexical c t v h
  triple_forth x (Suffix s p lexical (suffixes.Tag q)) c t v g b h = in_tag s p lexical q c t v h
  triple_forth x (Suffix s p lexical suffixes.Caret) c t v g b h = caret s p lexical c t v h
  triple_forth x (Suffix s p lexical suffixes.Carets) c t v g b h = after_carets s p lexical c t v h
  triple_forth x (Suffix s p lexical (suffixes.Datatype at)) c t v g b h = in_datatype s p lexical at c t v h
  triple_forth x (AfterObject stated) c t v g b h = after_object stated c t v h
  triple_forth x (Ended stated) c t v g b h = cc
  triple_forth x (Comment fact) c t v g b h = cc

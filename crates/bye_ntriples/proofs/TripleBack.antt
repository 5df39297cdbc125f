-- From the next state of a triple, and what it wants, to a character and what the state before it wants.
use Rattle.std.proofs.Common.{◌≡◌, refl, ℕ, Bool, true, false, cond, ◌==◌, List, [], ◌∷◌, Option, Some, None, inl, inr, ⊎_elim, sym, ◌∙◌, ap, subst}
use Rattle.bye_terms.specs.Literals.{is_lang_string}
use Rattle.bye_terms.specs.Terms.{Statement}
use Rattle.bye_terms.specs.declared.term.Term.{Term}
use Rattle.bye_terms.specs.declared.term.Term.TheVariants.{Iri, Blank}
use Rattle.bye_lex.specs.Iris.{IriToken}
use Rattle.bye_lex.specs.Languages.{Viable}
use Rattle.bye_lex.specs.Marks.{LabelToken, TagToken}
use Rattle.bye_lex.specs.LabelSteps as label_steps
use Rattle.bye_lex.specs.Strings.{StringToken}
use Rattle.bye_lex.specs.declared.iri.IriAt.{IriAt}
use Rattle.bye_lex.specs.declared.iri.IriAt.TheVariants as iri_at
use Rattle.bye_lex.specs.declared.label.LabelAt.{LabelAt}
use Rattle.bye_lex.specs.declared.label.LabelAt.TheVariants as labels
use Rattle.bye_lex.specs.declared.string.StringAt.{StringAt}
use Rattle.bye_lex.specs.declared.string.StringAt.TheVariants as string_at
use Rattle.bye_lex.specs.declared.style.Style.TheVariants.{Triples}
use Rattle.bye_lex.specs.declared.tag.TagAt.{TagAt}
use Rattle.bye_lex.specs.declared.tag.TagAt.TheVariants as tags
use Rattle.bye_lex.proofs.Branches.{eqb_same, some_same, none_some, pick_of, chosen, told}
use Rattle.bye_lex.proofs.IriMeaning as iris
use Rattle.bye_lex.proofs.IriExact.{can_start}
use Rattle.bye_lex.proofs.StringExact as strings
use Rattle.bye_ntriples.specs.Lines.{is_space, Spaced, Then, Dot, Dotted, DatatypeToken, Datatype, Carets, Tagged, AfterSpaces}
use Rattle.bye_ntriples.specs.Lines as lines
use Rattle.bye_ntriples.specs.LineSteps as line
use Rattle.bye_ntriples.specs.Triples.{triple_of, string_of, tagged_of, typed_of}
use Rattle.bye_ntriples.specs.declared.line.LineAt.{LineAt}
use Rattle.bye_ntriples.specs.declared.line.LineAt.TheVariants.{Begin, Subject, AfterSubject, Predicate, AfterPredicate, Object, Suffix, AfterObject, Ended, Comment}
use Rattle.bye_ntriples.specs.declared.line.SubjectAt.TheVariants as subjects
use Rattle.bye_ntriples.specs.declared.line.ObjectAt.TheVariants as objects
use Rattle.bye_ntriples.specs.declared.line.SuffixAt.TheVariants as suffixes
use Rattle.bye_ntriples.proofs.LineMeaning.{WithinLabel, WithinTag, WithinIri, WithinString, AfterSubjectIri, AfterSubjectLabel, AfterPredicateIri, AfterObjectIri, AfterObjectLabel, AfterTag, AfterDatatype, LeftTriple, GoodString, Good}
use Rattle.bye_lex.proofs.Embedding.{ended, longer}
use Rattle.bye_lex.proofs.LabelExact.{Left, label_exact, can}
use Rattle.bye_ntriples.proofs.Tokens.{iri_back, label_back, tag_back}
use Rattle.bye_ntriples.proofs.StringTokens.{string_back}
use Rattle.bye_ntriples.proofs.TripleForth.{is_before_end}

-- tokens from their beginnings
end_iri : {W : Type 0} (Rest : List ℕ → List ℕ → W → Type 0) (text : List ℕ) (w : W) → WithinIri Rest iri_at.Start text w → Then (IriToken Triples) Rest text w
end_iri Rest text w h = record { own = h.first ∷ h.own; value = h.value; rest = h.rest; token = h.is; after = h.after; spelled = h.spelled }

end_string : {W : Type 0} (Rest : List ℕ → List ℕ → W → Type 0) (text : List ℕ) (w : W) → WithinString Rest string_at.Start text w → Then (StringToken Triples) Rest text w
end_string Rest text w h = record { own = h.first ∷ h.own; value = h.value; rest = h.rest; token = h.is; after = h.after; spelled = h.spelled }

end_label : {W : Type 0} (Rest : List ℕ → List ℕ → W → Type 0) (text : List ℕ) (w : W) → WithinLabel Rest labels.Start text w → Then LabelToken Rest text w
end_label Rest text w h = record { own = h.own; value = h.value; rest = h.rest; token = h.is; after = h.after; spelled = h.spelled }

end_tag : {W : Type 0} (Rest : List ℕ → List ℕ → W → Type 0) (text : List ℕ) (w : W) → WithinTag Rest tags.Start text w → Then TagToken Rest text w
end_tag Rest text w h = record { own = h.own; value = h.value; rest = h.rest; token = h.is; after = h.after; spelled = h.spelled }

spaced_back : (P : LineAt → List ℕ → Statement → Type 0) (L : List ℕ → Statement → Type 0) (state n : LineAt) (other : Option LineAt) (c : ℕ) (t : List ℕ) (v : Statement) → (P state t v → Spaced L t v) → (other ≡ Some n → L (c ∷ t) v)
    → cond (is_space c) (Some state) other ≡ Some n → P n t v → Spaced L (c ∷ t) v
spaced_back P L state n other c t v from off e h =
    let R : Type 0 = Spaced L (c ∷ t) v in
    let r : R = pick_of {P = R} (is_space c) state n other e (λ b k. inl (b, from (subst (λ n. P n t v) k h))) (λ k. inr (off k)) in r

module _ (End : List ℕ → Type 0) where
  abbrev P : LineAt → List ℕ → Statement → Type 0
  P = LeftTriple End

  -- what a step after the dot says, where it leads to this state
  abbrev pub EndingBack : LineAt → ℕ → List ℕ → Statement → Type 0
  EndingBack n c t v = (stated : Statement) → line.ended stated c ≡ Some n → P n t v → End (c ∷ t) × (v ≡ stated)

  at_dot : (stated : Statement) (n : LineAt) (c : ℕ) (t : List ℕ) (v : Statement) → (c == 46) ≡ true → n ≡ Ended stated → P n t v → Dot End stated (c ∷ t) v
  at_dot stated n c t v b k h = let e : P (Ended stated) t v = subst (λ n. P n t v) k h in record { rest = t; end = e.0; spelled = ap (λ c. c ∷ t) (eqb_same c 46 b); is = e.1 }

  after_object : (stated : Statement) (n : LineAt) (c : ℕ) (t : List ℕ) (v : Statement) → line.after_object stated c ≡ Some n → P n t v → Dotted End stated (c ∷ t) v
  after_object stated n c t v e h =
      spaced_back P (Dot End stated) (AfterObject stated) n _ c t v (λ k. k)
      (λ k. pick_of {P = Dot End stated (c ∷ t) v} (c == 46) (Ended stated) n None k (λ b k. at_dot stated n c t v b k h) (λ k. none_some k))
      e h

  at : (m n : LineAt) (t : List ℕ) (v : Statement) → ◌≡◌ {A = Option LineAt} (Some m) (Some n) → P n t v → P m t v
  at m n t v e h = subst (λ (n : LineAt). P n t v) (sym (some_same e)) h

  in_predicate : (s : Term) (q : IriAt) (n : LineAt) (c : ℕ) (t : List ℕ) (v : Statement) → Viable (iris.Left Triples q) [] → line.in_predicate s q c ≡ Some n → P n t v → WithinIri (AfterPredicateIri End s) q (c ∷ t) v
  in_predicate s q n c t v a e h = iri_back P (AfterPredicateIri End s) (λ n. Predicate s n) (λ p. Some (AfterPredicate s p)) q n c t v (λ n k. k) (λ p e k. at (AfterPredicate s p) n t v e k) a e h

  after_subject : (s : Term) (n : LineAt) (c : ℕ) (t : List ℕ) (v : Statement) → line.after_subject s c ≡ Some n → P n t v → Spaced (lines.Predicate End s) (c ∷ t) v
  after_subject s n c t v e h =
      spaced_back P (lines.Predicate End s) (AfterSubject s) n _ c t v (λ k. k) (λ k. end_iri (AfterPredicateIri End s) (c ∷ t) v (in_predicate s iri_at.Start n c t v (can_start Triples) k h)) e h

  in_subject : (q : IriAt) (n : LineAt) (c : ℕ) (t : List ℕ) (v : Statement) → Viable (iris.Left Triples q) [] → line.in_subject q c ≡ Some n → P n t v → WithinIri (AfterSubjectIri End) q (c ∷ t) v
  in_subject q n c t v a e h = iri_back P (AfterSubjectIri End) (λ n. Subject (subjects.Iri n)) (λ s. Some (AfterSubject (Iri s))) q n c t v (λ n k. k) (λ s e k. at (AfterSubject (Iri s)) n t v e k) a e h

  in_subject_label : (q : LabelAt) (n : LineAt) (c : ℕ) (t : List ℕ) (v : Statement) → line.in_subject_label q c ≡ Some n → P n t v → WithinLabel (AfterSubjectLabel End) q (c ∷ t) v
  in_subject_label q n c t v e h =
      label_back P (AfterSubjectLabel End) (λ n. Subject (subjects.Label n)) (λ s c. line.after_subject (Blank s) c) q n c t v (λ n k. k) (λ s e k. after_subject (Blank s) n c t v e k) e h

  subject : (n : LineAt) (c : ℕ) (t : List ℕ) (v : Statement) → line.subject c ≡ Some n → P n t v → lines.Subject End (c ∷ t) v
  subject n c t v e h =
      ⊎_elim
      (λ (k : ((c == 60) ≡ true) × (line.in_subject iri_at.Start c ≡ Some n)). inl (end_iri (AfterSubjectIri End) (c ∷ t) v (in_subject iri_at.Start n c t v (can_start Triples) k.1 h)))
      (λ (k : ((c == 60) ≡ false) × (line.in_subject_label labels.Start c ≡ Some n)). inr (end_label (AfterSubjectLabel End) (c ∷ t) v (in_subject_label labels.Start n c t v k.1 h)))
      (chosen _ _ _ _ e)

  begin : (n : LineAt) (c : ℕ) (t : List ℕ) (v : Statement) → line.begin c ≡ Some n → P n t v → lines.Triple End (c ∷ t) v
  begin n c t v e h =
      spaced_back P (lines.Subject End) Begin n _ c t v (λ k. k)
      (λ k. pick_of {P = lines.Subject End (c ∷ t) v} (c == 35) (Comment None) n (line.subject c) k (λ b k. let z : P (Comment None) t v = subst (λ n. P n t v) k h in none_some z.1) (λ k. subject n c t v k h))
      e h

  in_object : (s : Term) (p : List ℕ) (q : IriAt) (n : LineAt) (c : ℕ) (t : List ℕ) (v : Statement) → Viable (iris.Left Triples q) [] → line.in_object s p q c ≡ Some n → P n t v → WithinIri (AfterObjectIri End s p) q (c ∷ t) v
  in_object s p q n c t v a e h = iri_back P (AfterObjectIri End s p) (λ n. Object s p (objects.Iri n)) (λ o. Some (AfterObject (triple_of s p (Iri o)))) q n c t v (λ n k. k) (λ o e k. at (AfterObject (triple_of s p (Iri o))) n t v e k) a e h

  go_on_in_label : (s : Term) (p : List ℕ) (q : LabelAt) (n : LineAt) (c : ℕ) (t : List ℕ) (v : Statement) → line.go_on_in_label s p q c ≡ Some n → P n t v → WithinLabel (AfterObjectLabel End s p) q (c ∷ t) v
  go_on_in_label s p q n c t v e h =
      label_back P (AfterObjectLabel End s p) (λ n. Object s p (objects.Label n)) (λ o c. line.after_object (triple_of s p (Blank o)) c) q n c t v (λ n k. k) (λ o e k. after_object (triple_of s p (Blank o)) n c t v e k) e h

  in_object_label : (s : Term) (p : List ℕ) (q : LabelAt) (n : LineAt) (c : ℕ) (t : List ℕ) (v : Statement) → line.in_object_label s p q c ≡ Some n → P n t v → WithinLabel (AfterObjectLabel End s p) q (c ∷ t) v
  in_object_label s p labels.Start n c t v e h = go_on_in_label s p labels.Start n c t v e h
  in_object_label s p labels.Underscore n c t v e h = go_on_in_label s p labels.Underscore n c t v e h
  in_object_label s p labels.Colon n c t v e h = go_on_in_label s p labels.Colon n c t v e h
  in_object_label s p (labels.In label) n c t v e h =
      let R : Type 0 = WithinLabel (AfterObjectLabel End s p) (labels.In label) (c ∷ t) v in
      let r : R =
      pick_of {P = R} (c == 46) (Object s p (objects.Dot label)) n _ e
      (λ b k.
      let h1 : WithinLabel (AfterObjectLabel End s p) (labels.In label) (46 ∷ t) v = subst (λ n. P n t v) k h in
      subst (λ c. WithinLabel (AfterObjectLabel End s p) (labels.In label) (c ∷ t) v) (sym (eqb_same c 46 b)) h1)
      (λ k. go_on_in_label s p (labels.In label) n c t v k h) in r
  in_object_label s p (labels.Dotted label dots) n c t v e h = go_on_in_label s p (labels.Dotted label dots) n c t v e h

  after_dot : (s : Term) (p label : List ℕ) (n : LineAt) (c : ℕ) (t : List ℕ) (v : Statement) → EndingBack n c t v → line.after_dot s p label c ≡ Some n → P n t v → WithinLabel (AfterObjectLabel End s p) (labels.In label) (46 ∷ c ∷ t) v
  after_dot s p label n c t v x e h =
      let dotted : LabelAt = labels.Dotted label (46 ∷ []) in
      let Rest = AfterObjectLabel End s p in
      ⊎_elim
      (λ (f : label_steps.step dotted c ≡ None).
      let stated = triple_of s p (Blank label) in
      let k = x stated (sym (ap (λ o. line.settle_dot s p label c o) f) ∙ e) h in
      let dot : Dotted End stated (46 ∷ c ∷ t) v = inr (record { rest = c ∷ t; end = k.0; spelled = refl; is = k.1 }) in
      ended Left label_steps.step label_steps.final label_exact Rest (labels.In label) label (46 ∷ c ∷ t) v refl dot)
      (λ (f : (k : LabelAt) × (label_steps.step dotted c ≡ Some k)).
      let is = some_same (sym (ap (λ o. line.settle_dot s p label c o) f.1) ∙ e) in
      let h1 : WithinLabel Rest f.0 t v = subst (λ n. P n t v) (sym is) h in
      let further = longer Left label_steps.step label_steps.final label_exact Rest dotted f.0 c t v (can dotted) f.1 h1 in
      longer Left label_steps.step label_steps.final label_exact Rest (labels.In label) dotted 46 (c ∷ t) v (can (labels.In label)) refl further)
      (told (label_steps.step dotted c))

  in_object_string : (s : Term) (p : List ℕ) (q : StringAt) (n : LineAt) (c : ℕ) (t : List ℕ) (v : Statement) → GoodString q → line.in_object_string s p q c ≡ Some n → P n t v → WithinString (λ lexical. lines.Suffix End s p lexical) q (c ∷ t) v
  in_object_string s p q n c t v g e h = string_back P (λ lexical. lines.Suffix End s p lexical) (λ n. Object s p (objects.String n)) (λ lexical. Suffix s p lexical suffixes.Start) q n c t v (λ n k. k) (λ lexical k. k) g e h

  object : (s : Term) (p : List ℕ) (n : LineAt) (c : ℕ) (t : List ℕ) (v : Statement) → line.object s p c ≡ Some n → P n t v → lines.Object End s p (c ∷ t) v
  object s p n c t v e h =
      ⊎_elim
      (λ (k : ((c == 60) ≡ true) × (line.in_object s p iri_at.Start c ≡ Some n)). inl (end_iri (AfterObjectIri End s p) (c ∷ t) v (in_object s p iri_at.Start n c t v (can_start Triples) k.1 h)))
      (λ (k : ((c == 60) ≡ false) × (cond (c == 34) (line.in_object_string s p string_at.Start c) (line.in_object_label s p labels.Start c) ≡ Some n)). inr
      (⊎_elim
      (λ (k : ((c == 34) ≡ true) × (line.in_object_string s p string_at.Start c ≡ Some n)).
      inr (end_string (λ lexical. lines.Suffix End s p lexical) (c ∷ t) v (in_object_string s p string_at.Start n c t v (record { viable = strings.can_start Triples; going = refl }) k.1 h)))
      (λ (k : ((c == 34) ≡ false) × (line.in_object_label s p labels.Start c ≡ Some n)). inl (end_label (AfterObjectLabel End s p) (c ∷ t) v (in_object_label s p labels.Start n c t v k.1 h)))
      (chosen _ _ _ _ k.1)))
      (chosen _ _ _ _ e)

  after_predicate : (s : Term) (p : List ℕ) (n : LineAt) (c : ℕ) (t : List ℕ) (v : Statement) → line.after_predicate s p c ≡ Some n → P n t v → Spaced (lines.Object End s p) (c ∷ t) v
  after_predicate s p n c t v e h = spaced_back P (lines.Object End s p) (AfterPredicate s p) n _ c t v (λ k. k) (λ k. object s p n c t v k h) e h

  in_tag : (s : Term) (p lexical : List ℕ) (q : TagAt) (n : LineAt) (c : ℕ) (t : List ℕ) (v : Statement) → line.in_tag s p lexical q c ≡ Some n → P n t v → WithinTag (AfterTag End s p lexical) q (c ∷ t) v
  in_tag s p lexical q n c t v e h =
      tag_back P (AfterTag End s p lexical) (λ n. Suffix s p lexical (suffixes.Tag n)) (λ tag c. line.after_object (triple_of s p (tagged_of lexical tag)) c) q n c t v (λ n k. k)
      (λ tag e k. after_object (triple_of s p (tagged_of lexical tag)) n c t v e k) e h

  at_suffix : (s : Term) (p lexical : List ℕ) (n : LineAt) (c : ℕ) (t : List ℕ) (v : Statement)
      → cond (c == 46) (Some (Ended (triple_of s p (string_of lexical)))) (cond (c == 94) (Some (Suffix s p lexical suffixes.Caret)) (line.in_tag s p lexical tags.Start c)) ≡ Some n → P n t v → AfterSpaces End s p lexical (c ∷ t) v
  at_suffix s p lexical n c t v e h =
      let R : Type 0 = AfterSpaces End s p lexical (c ∷ t) v in
      let r : R =
      pick_of {P = R} (c == 46) (Ended (triple_of s p (string_of lexical))) n _ e
      (λ b k. inl (at_dot (triple_of s p (string_of lexical)) n c t v b k h))
      (λ k. pick_of {P = R} (c == 94) (Suffix s p lexical suffixes.Caret) n _ k
      (λ b k.
      let h1 : Carets End s p lexical (94 ∷ t) v = subst (λ n. P n t v) k h in
      inr (inr (record { rest = h1.rest; after = h1.after; spelled = ap (λ c. c ∷ t) (eqb_same c 94 b) ∙ h1.spelled })))
      (λ k. inr (inl (end_tag (AfterTag End s p lexical) (c ∷ t) v (in_tag s p lexical tags.Start n c t v k h)))))
      in r

  after_string : (s : Term) (p lexical : List ℕ) (n : LineAt) (c : ℕ) (t : List ℕ) (v : Statement) → line.after_string s p lexical c ≡ Some n → P n t v → lines.Suffix End s p lexical (c ∷ t) v
  after_string s p lexical n c t v e h = spaced_back P (AfterSpaces End s p lexical) (Suffix s p lexical suffixes.Start) n _ c t v (λ k. k) (λ k. at_suffix s p lexical n c t v k h) e h

  caret : (s : Term) (p lexical : List ℕ) (n : LineAt) (c : ℕ) (t : List ℕ) (v : Statement) → line.caret s p lexical c ≡ Some n → P n t v → Carets End s p lexical (94 ∷ c ∷ t) v
  caret s p lexical n c t v e h =
      let R : Type 0 = Carets End s p lexical (94 ∷ c ∷ t) v in
      let r : R =
      pick_of {P = R} (c == 94) (Suffix s p lexical suffixes.Carets) n None e
      (λ b k. record { rest = t; after = subst (λ n. P n t v) k h; spelled = ap (λ c. 94 ∷ c ∷ t) (eqb_same c 94 b) }) (λ k. none_some k) in r

  typed : (s : Term) (p lexical datatype : List ℕ) (n : LineAt) (t : List ℕ) (v : Statement) (b : Bool) → cond b None (Some (AfterObject (triple_of s p (typed_of lexical datatype)))) ≡ Some n → P n t v → (b ≡ false) × Dotted End (triple_of s p (typed_of lexical datatype)) t v
  typed s p lexical datatype n t v true e h = none_some e
  typed s p lexical datatype n t v false e h = (refl, at (AfterObject (triple_of s p (typed_of lexical datatype))) n t v e h)

  in_datatype : (s : Term) (p lexical : List ℕ) (q : IriAt) (n : LineAt) (c : ℕ) (t : List ℕ) (v : Statement) → Viable (iris.Left Triples q) [] → line.in_datatype s p lexical q c ≡ Some n → P n t v → WithinIri (AfterDatatype End s p lexical) q (c ∷ t) v
  in_datatype s p lexical q n c t v a e h =
      iri_back P (AfterDatatype End s p lexical) (λ n. Suffix s p lexical (suffixes.Datatype n)) (line.typed s p lexical) q n c t v (λ n k. k) (λ d e k. typed s p lexical d n t v (is_lang_string d) e k) a e h

  end_datatype : (s : Term) (p lexical text : List ℕ) (v : Statement) → Then (IriToken Triples) (AfterDatatype End s p lexical) text v → Then DatatypeToken (λ datatype. Dotted End (triple_of s p (typed_of lexical datatype))) text v
  end_datatype s p lexical text v h = record { own = h.own; value = h.value; rest = h.rest; token = (h.token, h.after.0); after = h.after.1; spelled = h.spelled }

  after_carets : (s : Term) (p lexical : List ℕ) (n : LineAt) (c : ℕ) (t : List ℕ) (v : Statement) → line.after_carets s p lexical c ≡ Some n → P n t v → Datatype End s p lexical (c ∷ t) v
  after_carets s p lexical n c t v e h =
      spaced_back P (Then DatatypeToken (λ datatype. Dotted End (triple_of s p (typed_of lexical datatype)))) (Suffix s p lexical suffixes.Carets) n _ c t v (λ k. k)
      (λ k. end_datatype s p lexical (c ∷ t) v (end_iri (AfterDatatype End s p lexical) (c ∷ t) v (in_datatype s p lexical iri_at.Start n c t v (can_start Triples) k h))) e h

  -- each state of a triple, up to its dot
  pub triple_back : (s n : LineAt) (c : ℕ) (t : List ℕ) (v : Statement) → EndingBack n c t v → Good s → is_before_end s ≡ true → line.step s c ≡ Some n → P n t v → P s (c ∷ t) v
  triple_back Begin n c t v x g b e h = begin n c t v e h
  triple_back (Subject (subjects.Iri q)) n c t v x g b e h = in_subject q n c t v g.viable e h
  triple_back (Subject (subjects.Label q)) n c t v x g b e h = in_subject_label q n c t v e h
  triple_back (AfterSubject s) n c t v x g b e h = after_subject s n c t v e h
  triple_back (Predicate s q) n c t v x g b e h = in_predicate s q n c t v g.viable e h
  triple_back (AfterPredicate s p) n c t v x g b e h = after_predicate s p n c t v e h
  triple_back (Object s p (objects.Iri q)) n c t v x g b e h = in_object s p q n c t v g.viable e h
  triple_back (Object s p (objects.Label q)) n c t v x g b e h = in_object_label s p q n c t v e h
  triple_back (Object s p (objects.Dot label)) n c t v x g b e h = after_dot s p label n c t v x e h
  triple_back (Object s p (objects.String q)) n c t v x g b e h = in_object_string s p q n c t v g e h
  triple_back (Suffix s p lexical suffixes.Start) n c t v x g b e h = after_string s p lexical n c t v e h
  triple_back (Suffix s p lexical (suffixes.Tag q)) n c t v x g b e h = in_tag s p lexical q n c t v e h
  triple_back (Suffix s p lexical suffixes.Caret) n c t v x g b e h = caret s p lexical n c t v e h
  triple_back (Suffix s p lexical suffixes.Carets) n c t v x g b e h = after_carets s p lexical n c t v e h
  triple_back (Suffix s p lexical (suffixes.Datatype q)) n c t v x g b e h = in_datatype s p lexical q n c t v g.viable e h
  triple_back (AfterObject stated) n c t v x g b e h = after_object stated n c t v e h
  triple_back (Ended stated) n c t v x g b e h = cc
  triple_back (Comment fact) n c t v x g b e h = cc

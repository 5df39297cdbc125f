-- Where a line may end.
use Rattle.std.proofs.Common.{◌≡◌, refl, ℕ, true, false, List, [], ◌∷◌, ◌++◌, Option, Some, None, inl, inr, sym, ◌∙◌, ap, subst}
use Rattle.std.proofs.lemmas.List.{append-nil}
use Rattle.bye_terms.specs.Terms.{Statement}
use Rattle.bye_terms.specs.declared.term.Term.{Term}
use Rattle.bye_terms.specs.declared.term.Term.TheVariants.{Blank}
use Rattle.bye_lex.specs.Iris.{IriToken}
use Rattle.bye_lex.specs.declared.style.Style.TheVariants.{Triples}
use Rattle.bye_lex.specs.declared.label.LabelAt.TheVariants as labels
use Rattle.bye_lex.proofs.Branches.{heads, some_same, none_some}
use Rattle.bye_ntriples.specs.Lines.{is_space, Then, Dot, Dotted, Datatype, DatatypeToken, LineEnd}
use Rattle.bye_ntriples.specs.Lines as lines
use Rattle.bye_ntriples.specs.LineSteps as line
use Rattle.bye_ntriples.specs.Triples.{triple_of}
use Rattle.bye_ntriples.specs.declared.line.LineAt.{LineAt}
use Rattle.bye_ntriples.specs.declared.line.LineAt.TheVariants.{Begin, Subject, AfterSubject, Predicate, AfterPredicate, Object, Suffix, AfterObject, Ended, Comment}
use Rattle.bye_ntriples.specs.declared.line.SubjectAt.TheVariants as subjects
use Rattle.bye_ntriples.specs.declared.line.ObjectAt.TheVariants as objects
use Rattle.bye_ntriples.specs.declared.line.SuffixAt.TheVariants as suffixes
use Rattle.bye_ntriples.proofs.LineMeaning.{AfterSubjectIri, AfterSubjectLabel, AfterPredicateIri, AfterObjectIri, AfterObjectLabel, AfterTag, LeftTriple, LeftBlank, LeftLine}
use Rattle.bye_lex.proofs.LabelExact.{Left}
use Rattle.bye_terms.specs.Names.{is_label_rest}
use Rattle.bye_ntriples.proofs.Tokens.{begin_iri}
use Rattle.bye_ntriples.proofs.TripleForth.{begin_label, begin_tag, begin_string}

no_iri : {W : Type 0} (Rest : List ℕ → List ℕ → W → Type 0) (w : W) → Then (IriToken Triples) Rest [] w → ⊥
no_iri Rest w h = let k = (begin_iri h).spelled in cc

-- nothing is left of a token, and then nothing of what follows it
nothing_on : {W : Type 0} (Rest : List ℕ → List ℕ → W → Type 0) (w : W) (own rest v : List ℕ) → ((v : List ℕ) → Rest v [] w → ⊥) → Rest v rest w → ◌≡◌ {A = List ℕ} [] (own ++ rest) → ⊥
nothing_on Rest w [] rest v none k e = none v (subst (λ r. Rest v r w) (sym e) k)
nothing_on Rest w (x ∷ own) rest v none k e = cc

module _ (End : List ℕ → Type 0) where
  no_dot : (stated v : Statement) → Dotted End stated [] v → ⊥
  no_dot stated v h = let k = h.spelled in cc

  no_object : (s : Term) (p : List ℕ) (v : Statement) → lines.Object End s p [] v → ⊥
  no_object s p v (inl k) = no_iri (AfterObjectIri End s p) v k
  no_object s p v (inr (inl k)) = let w = begin_label (AfterObjectLabel End s p) [] v k in nothing_on (AfterObjectLabel End s p) v w.own w.rest _ (λ o h. no_dot _ v h) w.after w.spelled
  no_object s p v (inr (inr k)) = let w = (begin_string (λ lexical. lines.Suffix End s p lexical) [] v k).spelled in cc

  no_predicate : (s : Term) (v : Statement) → lines.Predicate End s [] v → ⊥
  no_predicate s v h = no_iri (AfterPredicateIri End s) v h

  no_subject : (v : Statement) → lines.Subject End [] v → ⊥
  no_subject v (inl k) = no_iri (AfterSubjectIri End) v k
  no_subject v (inr k) = let w = begin_label (AfterSubjectLabel End) [] v k in nothing_on (AfterSubjectLabel End) v w.own w.rest _ (λ s h. no_predicate (Blank s) v h) w.after w.spelled

  no_suffix : (s : Term) (p lexical : List ℕ) (v : Statement) → lines.Suffix End s p lexical [] v → ⊥
  no_suffix s p lexical v (inl k) = no_dot _ v k
  no_suffix s p lexical v (inr (inl k)) = let w = begin_tag (AfterTag End s p lexical) [] v k in nothing_on (AfterTag End s p lexical) v w.own w.rest _ (λ tag h. no_dot _ v h) w.after w.spelled
  no_suffix s p lexical v (inr (inr k)) = let e = k.spelled in cc

  no_datatype : (s : Term) (p lexical : List ℕ) (v : Statement) → Datatype End s p lexical [] v → ⊥
  no_datatype s p lexical v h = let e = h.token.0.spelled in let k = h.spelled ∙ ap (λ own. own ++ h.rest) e in cc

  not_46 : is_space 46 ≡ true → ⊥
  not_46 e = cc

  at_dot : (stated v : Statement) → Dotted End stated (46 ∷ []) v → v ≡ stated
  at_dot stated v (inl k) = absurd (not_46 k.0)
  at_dot stated v (inr k) = k.is

  last_dot : (s : Term) (p label own value rest : List ℕ) (v : Statement) → Left (labels.In label) own value → AfterObjectLabel End s p value rest v → 46 ∷ [] ≡ own ++ rest → v ≡ triple_of s p (Blank label)
  last_dot s p label [] value rest v w k e =
      at_dot (triple_of s p (Blank label)) v (subst (λ l. AfterObjectLabel End s p l (46 ∷ []) v) (w.0 ∙ append-nil label) (subst (λ r. AfterObjectLabel End s p value r v) (sym e) k))
  last_dot s p label (d ∷ []) value rest v w k e = let z : is_label_rest false (46 ∷ []) ≡ true = subst (λ d. is_label_rest false (d ∷ []) ≡ true) (sym (heads 46 d [] rest e).0) w.1 in cc
  last_dot s p label (d ∷ b ∷ own) value rest v w k e = let z = (heads 46 d [] (b ∷ own ++ rest) e).1 in cc

  pub triple_ends : (s : LineAt) (v : Statement) → LeftTriple End s [] v → line.final s ≡ Some (Some v)
  triple_ends Begin v h = absurd (no_subject v h)
  triple_ends (Subject (subjects.Iri q)) v h = let e = h.spelled in cc
  triple_ends (Subject (subjects.Label q)) v h = absurd (nothing_on (AfterSubjectLabel End) v h.own h.rest _ (λ s k. no_predicate (Blank s) v k) h.after h.spelled)
  triple_ends (AfterSubject s) v h = absurd (no_predicate s v h)
  triple_ends (Predicate s q) v h = let e = h.spelled in cc
  triple_ends (AfterPredicate s p) v h = absurd (no_object s p v h)
  triple_ends (Object s p (objects.Iri q)) v h = let e = h.spelled in cc
  triple_ends (Object s p (objects.Label q)) v h = absurd (nothing_on (AfterObjectLabel End s p) v h.own h.rest _ (λ o k. no_dot _ v k) h.after h.spelled)
  triple_ends (Object s p (objects.Dot label)) v h = ap (λ v. Some (Some v)) (sym (last_dot s p label h.own h.value h.rest v h.is h.after h.spelled))
  triple_ends (Object s p (objects.String q)) v h = let e = h.spelled in cc
  triple_ends (Suffix s p lexical suffixes.Start) v h = absurd (no_suffix s p lexical v h)
  triple_ends (Suffix s p lexical (suffixes.Tag q)) v h = absurd (nothing_on (AfterTag End s p lexical) v h.own h.rest _ (λ tag k. no_dot _ v k) h.after h.spelled)
  triple_ends (Suffix s p lexical suffixes.Caret) v h = let e = (heads 94 94 [] (94 ∷ h.rest) h.spelled).1 in cc
  triple_ends (Suffix s p lexical suffixes.Carets) v h = absurd (no_datatype s p lexical v h)
  triple_ends (Suffix s p lexical (suffixes.Datatype q)) v h = let e = h.spelled in cc
  triple_ends (AfterObject stated) v h = absurd (no_dot stated v h)
  triple_ends (Ended stated) v h = ap (λ v. Some (Some v)) (sym h.1)
  triple_ends (Comment fact) v h = ap Some h.1

blank_ends : (s : LineAt) → LeftBlank s [] → line.final s ≡ Some None
blank_ends Begin h = refl
blank_ends (Subject q) h = absurd h
blank_ends (AfterSubject s) h = absurd h
blank_ends (Predicate s q) h = absurd h
blank_ends (AfterPredicate s p) h = absurd h
blank_ends (Object s p q) h = absurd h
blank_ends (Suffix s p lexical q) h = absurd h
blank_ends (AfterObject stated) h = absurd h
blank_ends (Ended stated) h = absurd h
blank_ends (Comment None) h = refl
blank_ends (Comment (Some v)) h = absurd h

pub line_ends : (s : LineAt) (fact : Option Statement) → LeftLine s [] fact → line.final s ≡ Some fact
line_ends s fact (inl k) = blank_ends s k.0 ∙ ap Some (sym k.1)
line_ends s fact (inr k) = triple_ends LineEnd s k.triple k.stated ∙ ap Some (sym k.is)

-- a dot that may belong to the label ends the triple where nothing follows
pub dot_left : (End : List ℕ → Type 0) (s : Term) (p label : List ℕ) → End [] → LeftTriple End (Object s p (objects.Dot label)) [] (triple_of s p (Blank label))
dot_left End s p label end = record {
  own = [];
  value = label;
  rest = 46 ∷ [];
  is = (sym (append-nil label), refl);
  after = inr (record { rest = []; end = end; spelled = refl; is = refl });
  spelled = refl;
}

told_left : (s : LineAt) (v : Statement) (fact : Option Statement) → ◌≡◌ {A = Option (Option Statement)} (Some (Some v)) (Some fact) → LeftTriple LineEnd s [] v → LeftLine s [] fact
told_left s v fact e h = inr (record { triple = v; stated = h; is = sym (some_same e) })

pub line_may_end : (s : LineAt) (fact : Option Statement) → line.final s ≡ Some fact → LeftLine s [] fact
line_may_end Begin fact e = inl (tt, sym (some_same e))
line_may_end (Subject q) fact e = none_some e
line_may_end (AfterSubject s) fact e = none_some e
line_may_end (Predicate s q) fact e = none_some e
line_may_end (AfterPredicate s p) fact e = none_some e
line_may_end (Object s p (objects.Iri q)) fact e = none_some e
line_may_end (Object s p (objects.Label q)) fact e = none_some e
line_may_end (Object s p (objects.Dot label)) fact e = told_left (Object s p (objects.Dot label)) (triple_of s p (Blank label)) fact e (dot_left LineEnd s p label tt)
line_may_end (Object s p (objects.String q)) fact e = none_some e
line_may_end (Suffix s p lexical q) fact e = none_some e
line_may_end (AfterObject stated) fact e = none_some e
line_may_end (Ended stated) fact e = told_left (Ended stated) stated fact e (tt, refl)
line_may_end (Comment None) fact e = inl (tt, sym (some_same e))
line_may_end (Comment (Some v)) fact e = told_left (Comment (Some v)) v fact e (tt, refl)

-- The states of the machine of lines that are reached: where steps lead, and that no step goes over a line's end.
use Rattle.std.proofs.Common.{◌≡◌, refl, ℕ, Bool, true, false, cond, ◌==◌, ◌||◌, List, [], ◌∷◌, ◌++◌, Option, Some, None, option_and_then, ◌⊎◌, inl, inr, ⊎_elim, sym, ◌∙◌, ap, subst}
use Rattle.bye_terms.specs.Literals.{is_lang_string}
use Rattle.bye_terms.specs.Terms.{Statement}
use Rattle.bye_terms.specs.declared.term.Term.{Term}
use Rattle.bye_terms.specs.declared.term.Term.TheVariants.{Iri, Blank}
use Rattle.bye_lex.specs.IriSteps as iri
use Rattle.bye_lex.specs.Languages.{Viable}
use Rattle.bye_lex.specs.LabelSteps as label_steps
use Rattle.bye_lex.specs.StringSteps as string
use Rattle.bye_lex.specs.declared.iri.IriAt.{IriAt}
use Rattle.bye_lex.specs.declared.iri.IriAt.TheVariants as iri_at
use Rattle.bye_lex.specs.declared.label.LabelAt.{LabelAt}
use Rattle.bye_lex.specs.declared.label.LabelAt.TheVariants as labels
use Rattle.bye_lex.specs.declared.quoting.Quote.TheVariants.{Double, Single}
use Rattle.bye_lex.specs.declared.quoting.Quoting.TheVariants.{Short, Long}
use Rattle.bye_lex.specs.declared.string.StringAt.{StringAt}
use Rattle.bye_lex.specs.declared.string.StringAt.TheVariants as string_at
use Rattle.bye_lex.specs.declared.style.Style.TheVariants.{Triples}
use Rattle.bye_lex.proofs.Branches.{eqb_same, some_same, none_some, one_way, pick_of, chosen, told}
use Rattle.bye_lex.proofs.IriMeaning as iris
use Rattle.bye_lex.proofs.IriExact.{can_start}
use Rattle.bye_lex.proofs.StringExact as strings
use Rattle.bye_lex.proofs.LabelExact.{stopped_dots}
use Rattle.bye_lex.specs.Embedding.{enter, settle}
use Rattle.bye_lex.specs.TagSteps as tag_steps
use Rattle.bye_lex.specs.declared.tag.TagAt.{TagAt}
use Rattle.bye_lex.specs.declared.tag.TagAt.TheVariants as tags
use Rattle.bye_ntriples.specs.Lines.{is_space, is_line_end}
use Rattle.bye_ntriples.specs.LineSteps as line
use Rattle.bye_ntriples.specs.LineSteps.{in_iri, whole_string, in_string, in_label, within_tag}
use Rattle.bye_ntriples.specs.Triples.{triple_of, string_of, tagged_of, typed_of}
use Rattle.bye_ntriples.specs.declared.line.LineAt.{LineAt}
use Rattle.bye_ntriples.specs.declared.line.LineAt.TheVariants.{Begin, Subject, AfterSubject, Predicate, AfterPredicate, Object, Suffix, AfterObject, Ended, Comment}
use Rattle.bye_ntriples.specs.declared.line.SubjectAt.TheVariants as subjects
use Rattle.bye_ntriples.specs.declared.line.ObjectAt.{ObjectAt}
use Rattle.bye_ntriples.specs.declared.line.ObjectAt.TheVariants as objects
use Rattle.bye_ntriples.specs.DocSteps.{held}
use Rattle.bye_terms.specs.Characters.{is_label_part}
use Rattle.bye_ntriples.specs.declared.line.SuffixAt.TheVariants as suffixes
use Rattle.bye_ntriples.proofs.LineMeaning.{GoodString, Good, is_open_string}
use Rattle.bye_ntriples.proofs.Tokens.{iri_leads, label_gives, tag_gives, decided}
use Rattle.bye_ntriples.proofs.StringTokens.{string_leads}

-- the states in which a line may have no triple
abbrev pub is_blank : LineAt → Bool
is_blank Begin = true
is_blank (Subject at) = false
is_blank (AfterSubject s) = false
is_blank (Predicate s at) = false
is_blank (AfterPredicate s p) = false
is_blank (Object s p at) = false
is_blank (Suffix s p lexical at) = false
is_blank (AfterObject stated) = false
is_blank (Ended stated) = false
is_blank (Comment None) = true
is_blank (Comment (Some t)) = false

-- a label that goes on after two dots or more
abbrev pub is_dotted : LabelAt → Bool
is_dotted labels.Start = false
is_dotted labels.Underscore = false
is_dotted labels.Colon = false
is_dotted (labels.In label) = false
is_dotted (labels.Dotted label dots) = true

abbrev pub object_dots : ObjectAt → Bool
object_dots (objects.Iri q) = false
object_dots (objects.Label q) = is_dotted q
object_dots (objects.Dot label) = false
object_dots (objects.String q) = false

abbrev pub is_dots : LineAt → Bool
is_dots Begin = false
is_dots (Subject at) = false
is_dots (AfterSubject s) = false
is_dots (Predicate s at) = false
is_dots (AfterPredicate s p) = false
is_dots (Object s p at) = object_dots at
is_dots (Suffix s p lexical at) = false
is_dots (AfterObject stated) = false
is_dots (Ended stated) = false
is_dots (Comment fact) = false

-- A step with the character c, within a triple. T is to hold where it leads to dots within a label, and U of the state where the
-- triple is told of.
module _ (c : ℕ) (T : Type 0) (U : LineAt → Type 0) (u : (v : Statement) → c ≡ 46 → U (Ended v)) where
  -- a state that is reached within a triple
  abbrev pub Reached : LineAt → Type 0
  Reached n = Good n × ((is_blank n ≡ false) × (((is_dots n ≡ false) ⊎ T) × ((held n ≡ 0) ⊎ U n)))

  -- a state that is one of some
  at : (x n : LineAt) → ◌≡◌ {A = Option LineAt} (Some x) (Some n) → Reached x → Reached n
  at x n e r = subst Reached (some_same e) r

  if_one : (b : Bool) (x n : LineAt) (other : Option LineAt) → cond b (Some x) other ≡ Some n → Reached x → (other ≡ Some n → Reached n) → Reached n
  if_one b x n other e r f = pick_of {P = Reached n} b x n other e (λ b k. subst Reached (sym k) r) f

  if_told : (b : Bool) (x n : LineAt) (other : Option LineAt) → cond b (Some x) other ≡ Some n → (b ≡ true → Reached x) → (other ≡ Some n → Reached n) → Reached n
  if_told b x n other e r f = pick_of {P = Reached n} b x n other e (λ b k. subst Reached (sym k) (r b)) f

  none_reached : (n : LineAt) → ◌≡◌ {A = Option LineAt} None (Some n) → Reached n
  none_reached n e = none_some e

  after_object : (stated : Statement) (n : LineAt) → line.after_object stated c ≡ Some n → Reached n
  after_object stated n e = if_one (is_space c) (AfterObject stated) n (cond (c == 46) (Some (Ended stated)) None) e (tt, (refl, (inl refl, inl refl))) (λ k. if_told (c == 46) (Ended stated) n None k (λ b. (tt, (refl, (inl refl, inr (u stated (eqb_same c 46 b)))))) (none_reached n))

  -- what may stand after a dot: it is told of there
  ended : (stated : Statement) (n : LineAt) → U (Ended stated) → U (Comment (Some stated)) → line.ended stated c ≡ Some n → Reached n
  ended stated n v w e =
      if_one (is_space c) (Ended stated) n (cond (c == 35) (Some (Comment (Some stated))) None) e (tt, (refl, (inl refl, inr v))) (λ k. if_one (c == 35) (Comment (Some stated)) n None k (tt, (refl, (inl refl, inr w))) (none_reached n))

  in_predicate : (s : Term) (q : IriAt) (n : LineAt) → Viable (iris.Left Triples q) [] → line.in_predicate s q c ≡ Some n → Reached n
  in_predicate s q n a e = iri_leads Reached (λ n. Predicate s n) (λ p. Some (AfterPredicate s p)) q n c a (λ m g. (g, (refl, (inl refl, inl refl)))) (λ p k. at (AfterPredicate s p) n k (tt, (refl, (inl refl, inl refl)))) e

  after_subject : (s : Term) (n : LineAt) → line.after_subject s c ≡ Some n → Reached n
  after_subject s n e = if_one _ (AfterSubject s) n _ e (tt, (refl, (inl refl, inl refl))) (λ k. in_predicate s iri_at.Start n (can_start Triples) k)

  in_subject : (q : IriAt) (n : LineAt) → Viable (iris.Left Triples q) [] → line.in_subject q c ≡ Some n → Reached n
  in_subject q n a e = iri_leads Reached (λ n. Subject (subjects.Iri n)) (λ s. Some (AfterSubject (Iri s))) q n c a (λ m g. (g, (refl, (inl refl, inl refl)))) (λ s k. at (AfterSubject (Iri s)) n k (tt, (refl, (inl refl, inl refl)))) e

  in_label_leads : (within : LabelAt → LineAt) (after : List ℕ → ℕ → Option LineAt) (q : LabelAt) (n : LineAt) → ((k : LabelAt) → label_steps.step q c ≡ Some k → Reached (within k)) → ((v : List ℕ) → after v c ≡ Some n → Reached n) → in_label within after q c ≡ Some n → Reached n
  in_label_leads within after q n into off e =
      ⊎_elim
      (λ (k : (k : LabelAt) × (label_steps.step q c ≡ Some k) × (n ≡ within k)). subst Reached (sym k.2) (into k.0 k.1))
      (λ (k : (label_steps.step q c ≡ None) × ((v : List ℕ) × (label_steps.final q ≡ Some v) × (after v c ≡ Some n))). off k.1.0 k.1.2)
      (label_gives within after q c n e)

  in_subject_label : (q : LabelAt) (n : LineAt) → line.in_subject_label q c ≡ Some n → Reached n
  in_subject_label q n e = in_label_leads (λ n. Subject (subjects.Label n)) (λ s c. line.after_subject (Blank s) c) q n (λ k k-is. (tt, (refl, (inl refl, inl refl)))) (λ s k. after_subject (Blank s) n k) e

  subject : (n : LineAt) → line.subject c ≡ Some n → Reached n
  subject n e =
      ⊎_elim
      (λ (k : ((c == 60) ≡ true) × (line.in_subject iri_at.Start c ≡ Some n)). in_subject iri_at.Start n (can_start Triples) k.1)
      (λ (k : ((c == 60) ≡ false) × (line.in_subject_label labels.Start c ≡ Some n)). in_subject_label labels.Start n k.1)
      (chosen _ _ _ _ e)

  in_object : (s : Term) (p : List ℕ) (q : IriAt) (n : LineAt) → Viable (iris.Left Triples q) [] → line.in_object s p q c ≡ Some n → Reached n
  in_object s p q n a e = iri_leads Reached (λ n. Object s p (objects.Iri n)) (λ o. Some (AfterObject (triple_of s p (Iri o)))) q n c a (λ m g. (g, (refl, (inl refl, inl refl)))) (λ o k. at (AfterObject (triple_of s p (Iri o))) n k (tt, (refl, (inl refl, inl refl)))) e

  -- within the label of an object, but for its first dot
  label_dots : (q k : LabelAt) → ((o : List ℕ) → q ≡ labels.In o → (c == 46) ≡ false) → (is_dotted q ≡ true → c ≡ 46 → T) → label_steps.step q c ≡ Some k → (is_dotted k ≡ false) ⊎ T
  label_dots labels.Start k f t e = one_way (λ k. (is_dotted k ≡ false) ⊎ T) _ labels.Underscore k (inl refl) e
  label_dots labels.Underscore k f t e = one_way (λ k. (is_dotted k ≡ false) ⊎ T) _ labels.Colon k (inl refl) e
  label_dots labels.Colon k f t e = one_way (λ k. (is_dotted k ≡ false) ⊎ T) _ (labels.In (c ∷ [])) k (inl refl) e
  label_dots (labels.In label) k f t e =
      let R : Type 0 = (is_dotted k ≡ false) ⊎ T in
      let r : R =
      pick_of {P = R} (is_label_part c) (labels.In (label ++ c ∷ [])) k (cond (c == 46) (Some (labels.Dotted label (46 ∷ []))) None) e (λ b q. inl (ap is_dotted q)) (λ q. absurd (none_dotted (c == 46) k (f label refl) q)) in r
    where
      none_dotted : (b : Bool) (k : LabelAt) → b ≡ false → cond b (Some (labels.Dotted label (46 ∷ []))) None ≡ Some k → ⊥
      none_dotted true k f q = cc
      none_dotted false k f q = none_some q
  label_dots (labels.Dotted label dots) k f t e =
      let R : Type 0 = (is_dotted k ≡ false) ⊎ T in
      let r : R =
      pick_of {P = R} (is_label_part c) (labels.In ((label ++ dots) ++ c ∷ [])) k (cond (c == 46) (Some (labels.Dotted label (dots ++ 46 ∷ []))) None) e (λ b q. inl (ap is_dotted q))
      (λ q. pick_of {P = R} (c == 46) (labels.Dotted label (dots ++ 46 ∷ [])) k None q (λ b q. inr (t refl (eqb_same c 46 b))) (λ q. none_some q)) in r

  go_on_in_label : (s : Term) (p : List ℕ) (q : LabelAt) (n : LineAt) → ((o : List ℕ) → q ≡ labels.In o → (c == 46) ≡ false) → (is_dotted q ≡ true → c ≡ 46 → T) → line.go_on_in_label s p q c ≡ Some n → Reached n
  go_on_in_label s p q n f t e =
      in_label_leads (λ n. Object s p (objects.Label n)) (λ o c. line.after_object (triple_of s p (Blank o)) c) q n (λ k k-is. (tt, (refl, (label_dots q k f t k-is, inl refl)))) (λ o k. after_object (triple_of s p (Blank o)) n k) e

  in_object_label : (s : Term) (p : List ℕ) (q : LabelAt) (n : LineAt) → (is_dotted q ≡ true → c ≡ 46 → T) → line.in_object_label s p q c ≡ Some n → Reached n
  in_object_label s p labels.Start n t e = go_on_in_label s p labels.Start n (λ o k. cc) t e
  in_object_label s p labels.Underscore n t e = go_on_in_label s p labels.Underscore n (λ o k. cc) t e
  in_object_label s p labels.Colon n t e = go_on_in_label s p labels.Colon n (λ o k. cc) t e
  in_object_label s p (labels.In label) n t e =
      ⊎_elim
      (λ (k : ((c == 46) ≡ true) × (◌≡◌ {A = Option LineAt} (Some (Object s p (objects.Dot label))) (Some n))). at (Object s p (objects.Dot label)) n k.1 (tt, (refl, (inl refl, inl refl))))
      (λ (k : ((c == 46) ≡ false) × (line.go_on_in_label s p (labels.In label) c ≡ Some n)). go_on_in_label s p (labels.In label) n (λ o q. k.0) t k.1)
      (chosen _ _ _ _ e)
  in_object_label s p (labels.Dotted label dots) n t e = go_on_in_label s p (labels.Dotted label dots) n (λ o k. cc) t e

  after_dot : (s : Term) (p label : List ℕ) (n : LineAt) → (c ≡ 46 → T) → (label_steps.goes_on c ≡ false → U (Ended (triple_of s p (Blank label))) × U (Comment (Some (triple_of s p (Blank label))))) → line.after_dot s p label c ≡ Some n → Reached n
  after_dot s p label n t w e =
      let dotted : LabelAt = labels.Dotted label (46 ∷ []) in
      ⊎_elim
      (λ (f : label_steps.step dotted c ≡ None). let z = w (stopped_dots label (46 ∷ []) c f) in ended (triple_of s p (Blank label)) n z.0 z.1 (sym (ap (λ o. line.settle_dot s p label c o) f) ∙ e))
      (λ (f : (k : LabelAt) × (label_steps.step dotted c ≡ Some k)).
      at (Object s p (objects.Label f.0)) n (sym (ap (λ o. line.settle_dot s p label c o) f.1) ∙ e)
      (tt, (refl, (label_dots dotted f.0 (λ o k. cc) (λ d q. t q) f.1, inl refl))))
      (told (label_steps.step dotted c))

  in_object_string : (s : Term) (p : List ℕ) (q : StringAt) (n : LineAt) → GoodString q → line.in_object_string s p q c ≡ Some n → Reached n
  in_object_string s p q n g e =
      string_leads Reached (λ n. Object s p (objects.String n)) (λ lexical. Suffix s p lexical suffixes.Start) q n c g (λ m k. (k, (refl, (inl refl, inl refl)))) (λ v. (tt, (refl, (inl refl, inl refl)))) e

  object : (s : Term) (p : List ℕ) (n : LineAt) → line.object s p c ≡ Some n → Reached n
  object s p n e =
      ⊎_elim
      (λ (k : ((c == 60) ≡ true) × (line.in_object s p iri_at.Start c ≡ Some n)). in_object s p iri_at.Start n (can_start Triples) k.1)
      (λ (k : ((c == 60) ≡ false) × (cond (c == 34) (line.in_object_string s p string_at.Start c) (line.in_object_label s p labels.Start c) ≡ Some n)).
      ⊎_elim
      (λ (k : ((c == 34) ≡ true) × (line.in_object_string s p string_at.Start c ≡ Some n)). in_object_string s p string_at.Start n (record { viable = strings.can_start Triples; going = refl }) k.1)
      (λ (k : ((c == 34) ≡ false) × (line.in_object_label s p labels.Start c ≡ Some n)). in_object_label s p labels.Start n (λ d q. cc) k.1)
      (chosen _ _ _ _ k.1))
      (chosen _ _ _ _ e)

  in_tag : (s : Term) (p lexical : List ℕ) (q : TagAt) (n : LineAt) → line.in_tag s p lexical q c ≡ Some n → Reached n
  in_tag s p lexical q n e =
      ⊎_elim
      (λ (k : (k : TagAt) × (tag_steps.step q c ≡ Some k) × (n ≡ Suffix s p lexical (suffixes.Tag k))). subst Reached (sym k.2) (tt, (refl, (inl refl, inl refl))))
      (λ (k : (tag_steps.step q c ≡ None) × ((v : List ℕ) × (tag_steps.final q ≡ Some v) × (line.after_object (triple_of s p (tagged_of lexical v)) c ≡ Some n))). after_object (triple_of s p (tagged_of lexical k.1.0)) n k.1.2)
      (tag_gives (λ n. Suffix s p lexical (suffixes.Tag n)) (λ tag c. line.after_object (triple_of s p (tagged_of lexical tag)) c) q c n e)

  after_string : (s : Term) (p lexical : List ℕ) (n : LineAt) → line.after_string s p lexical c ≡ Some n → Reached n
  after_string s p lexical n e =
      let rest : Option LineAt = cond (c == 94) (Some (Suffix s p lexical suffixes.Caret)) (line.in_tag s p lexical tags.Start c) in
      if_one (is_space c) (Suffix s p lexical suffixes.Start) n (cond (c == 46) (Some (Ended (triple_of s p (string_of lexical)))) rest) e (tt, (refl, (inl refl, inl refl)))
      (λ k. if_told (c == 46) (Ended (triple_of s p (string_of lexical))) n rest k (λ b. (tt, (refl, (inl refl, inr (u (triple_of s p (string_of lexical)) (eqb_same c 46 b))))))
      (λ k. if_one (c == 94) (Suffix s p lexical suffixes.Caret) n (line.in_tag s p lexical tags.Start c) k (tt, (refl, (inl refl, inl refl))) (λ k. in_tag s p lexical tags.Start n k)))

  typed : (s : Term) (p lexical datatype : List ℕ) (n : LineAt) (b : Bool) → cond b None (Some (AfterObject (triple_of s p (typed_of lexical datatype)))) ≡ Some n → Reached n
  typed s p lexical datatype n true e = none_some e
  typed s p lexical datatype n false e = at (AfterObject (triple_of s p (typed_of lexical datatype))) n e (tt, (refl, (inl refl, inl refl)))

  in_datatype : (s : Term) (p lexical : List ℕ) (q : IriAt) (n : LineAt) → Viable (iris.Left Triples q) [] → line.in_datatype s p lexical q c ≡ Some n → Reached n
  in_datatype s p lexical q n a e =
      iri_leads Reached (λ n. Suffix s p lexical (suffixes.Datatype n)) (line.typed s p lexical) q n c a (λ m g. (g, (refl, (inl refl, inl refl)))) (λ d k. typed s p lexical d n (is_lang_string d) k) e

  -- what is to be said of such steps from a state
  pub record Wanted (s : LineAt) : Type 0 where
    pub dots : is_dots s ≡ true → c ≡ 46 → T
    pub dot : (t : Term) (p label : List ℕ) → s ≡ Object t p (objects.Dot label) → c ≡ 46 → T
    pub settled : (t : Term) (p label : List ℕ) → s ≡ Object t p (objects.Dot label) → label_steps.goes_on c ≡ false → U (Ended (triple_of t p (Blank label))) × U (Comment (Some (triple_of t p (Blank label))))
    pub held : (v : Statement) → held s ≡ 1 → U (Ended v) × U (Comment (Some v))

  -- within a triple a step leads to a state within a triple
  pub reached : (s n : LineAt) → Good s → is_blank s ≡ false → Wanted s → line.step s c ≡ Some n → Reached n
  reached Begin n g b w e = cc
  reached (Subject (subjects.Iri q)) n g b w e = in_subject q n g.viable e
  reached (Subject (subjects.Label q)) n g b w e = in_subject_label q n e
  reached (AfterSubject s) n g b w e = after_subject s n e
  reached (Predicate s q) n g b w e = in_predicate s q n g.viable e
  reached (AfterPredicate s p) n g b w e = if_one _ (AfterPredicate s p) n _ e (tt, (refl, (inl refl, inl refl))) (λ k. object s p n k)
  reached (Object s p (objects.Iri q)) n g b w e = in_object s p q n g.viable e
  reached (Object s p (objects.Label q)) n g b w e = in_object_label s p q n (λ d k. w.dots d k) e
  reached (Object s p (objects.Dot label)) n g b w e = after_dot s p label n (λ q. w.dot s p label refl q) (λ f. w.settled s p label refl f) e
  reached (Object s p (objects.String q)) n g b w e = in_object_string s p q n g e
  reached (Suffix s p lexical suffixes.Start) n g b w e = after_string s p lexical n e
  reached (Suffix s p lexical (suffixes.Tag q)) n g b w e = in_tag s p lexical q n e
  reached (Suffix s p lexical suffixes.Caret) n g b w e = if_one _ (Suffix s p lexical suffixes.Carets) n None e (tt, (refl, (inl refl, inl refl))) (none_reached n)
  reached (Suffix s p lexical suffixes.Carets) n g b w e = if_one _ (Suffix s p lexical suffixes.Carets) n _ e (tt, (refl, (inl refl, inl refl))) (λ k. in_datatype s p lexical iri_at.Start n (can_start Triples) k)
  reached (Suffix s p lexical (suffixes.Datatype q)) n g b w e = in_datatype s p lexical q n g.viable e
  reached (AfterObject stated) n g b w e = after_object stated n e
  reached (Ended stated) n g b w e = ended stated n (w.held stated refl).0 (w.held stated refl).1 e
  reached (Comment None) n g b w e = cc
  reached (Comment (Some t)) n g b w e =
      ⊎_elim
      (λ (k : (is_line_end c ≡ true) × (◌≡◌ {A = Option LineAt} None (Some n))). none_reached n k.1)
      (λ (k : (is_line_end c ≡ false) × (◌≡◌ {A = Option LineAt} (Some (Comment (Some t))) (Some n))). at (Comment (Some t)) n k.1 (tt, (refl, (inl refl, inr (w.held t refl).1))))
      (chosen _ _ _ _ e)

  -- a character that begins a subject leads into a triple
  pub into_subject : (n : LineAt) → line.subject c ≡ Some n → Reached n
  into_subject n e = subject n e

-- where nothing more is to be said
any : (c : ℕ) (s : LineAt) → Wanted c (Unit {0}) (λ n. Unit {0}) (λ v e. tt) s
any c s = record { dots = λ d e. tt; dot = λ t p label e k. tt; settled = λ t p label e k. (tt, tt); held = λ v e. (tt, tt) }

pub leads : (s n : LineAt) (c : ℕ) → Good s → is_blank s ≡ false → line.step s c ≡ Some n → Good n × (is_blank n ≡ false)
leads s n c g b e = let r = reached c (Unit {0}) (λ n. Unit {0}) (λ v e. tt) s n g b (any c s) e in (r.0, r.1.0)

pub subject_leads : (n : LineAt) (c : ℕ) → line.subject c ≡ Some n → Good n × (is_blank n ≡ false)
subject_leads n c e = let r = into_subject c (Unit {0}) (λ n. Unit {0}) (λ v e. tt) n e in (r.0, r.1.0)

-- at a line's beginning it leads there, to a comment or into a triple
pub begun : (n : LineAt) (c : ℕ) → line.begin c ≡ Some n → ((is_space c ≡ true) × (n ≡ Begin)) ⊎ (((c ≡ 35) × (n ≡ Comment None)) ⊎ (line.subject c ≡ Some n))
begun n c e =
    let R : Type 0 = ((is_space c ≡ true) × (n ≡ Begin)) ⊎ (((c ≡ 35) × (n ≡ Comment None)) ⊎ (line.subject c ≡ Some n)) in
    let r : R =
    pick_of {P = R} (is_space c) Begin n _ e (λ b k. inl (b, k))
    (λ k. pick_of {P = R} (c == 35) (Comment None) n _ k (λ b k. inr (inl (eqb_same c 35 b, k))) (λ k. inr (inr k))) in r

pub stays : (s n : LineAt) (c : ℕ) → Good s → line.step s c ≡ Some n → Good n
stays s n c g e = go s (is_blank s) refl g e
  where
    begin_good : (n : LineAt) (c : ℕ) → line.begin c ≡ Some n → Good n
    begin_good n c e =
        ⊎_elim (λ (k : (is_space c ≡ true) × (n ≡ Begin)). subst Good (sym k.1) tt)
        (λ (k : ((c ≡ 35) × (n ≡ Comment None)) ⊎ (line.subject c ≡ Some n)). ⊎_elim (λ (k : (c ≡ 35) × (n ≡ Comment None)). subst Good (sym k.1) tt) (λ (k : line.subject c ≡ Some n). (subject_leads n c k).0) k)
        (begun n c e)

    comment_good : (n : LineAt) (c : ℕ) → cond (is_line_end c) None (Some (Comment None)) ≡ Some n → Good n
    comment_good n c e =
        ⊎_elim
        (λ (k : (is_line_end c ≡ true) × (◌≡◌ {A = Option LineAt} None (Some n))). none_some k.1)
        (λ (k : (is_line_end c ≡ false) × (◌≡◌ {A = Option LineAt} (Some (Comment None)) (Some n))). subst Good (some_same k.1) tt)
        (chosen _ _ _ _ e)

    go : (s : LineAt) (b : Bool) → is_blank s ≡ b → Good s → line.step s c ≡ Some n → Good n
    go Begin b k g e = begin_good n c e
    go (Comment None) b k g e = comment_good n c e
    go (Comment (Some t)) b k g e = (leads (Comment (Some t)) n c g refl e).0
    go (Subject q) b k g e = (leads (Subject q) n c g refl e).0
    go (AfterSubject s) b k g e = (leads (AfterSubject s) n c g refl e).0
    go (Predicate s q) b k g e = (leads (Predicate s q) n c g refl e).0
    go (AfterPredicate s p) b k g e = (leads (AfterPredicate s p) n c g refl e).0
    go (Object s p q) b k g e = (leads (Object s p q) n c g refl e).0
    go (Suffix s p lexical q) b k g e = (leads (Suffix s p lexical q) n c g refl e).0
    go (AfterObject stated) b k g e = (leads (AfterObject stated) n c g refl e).0
    go (Ended stated) b k g e = (leads (Ended stated) n c g refl e).0

-- no step goes over a line's end
abbrev Stops : (ℕ → Option LineAt) → Type 0
Stops f = (f 10 ≡ None) × (f 13 ≡ None)

iri_stops : (q : IriAt) → (iri.step Triples q 10 ≡ None) × (iri.step Triples q 13 ≡ None)
iri_stops iri_at.Start = (refl, refl)
iri_stops iri_at.Opened = (refl, refl)
iri_stops (iri_at.Scheme out) = (refl, refl)
iri_stops (iri_at.Body out) = (refl, refl)
iri_stops (iri_at.Backslash out) = (refl, refl)
iri_stops (iri_at.Escape e out) = (refl, refl)
iri_stops (iri_at.Done out) = (refl, refl)

in_iri_stops : (within : IriAt → LineAt) (after : List ℕ → Option LineAt) (q : IriAt) → Stops (in_iri within after q)
in_iri_stops within after q = let k = iri_stops q in (ap (option_and_then (λ n. settle within after n (iri.final n))) k.0, ap (option_and_then (λ n. settle within after n (iri.final n))) k.1)

label_ends : (q : LabelAt) → (label_steps.step q 10 ≡ None) × (label_steps.step q 13 ≡ None)
label_ends labels.Start = (refl, refl)
label_ends labels.Underscore = (refl, refl)
label_ends labels.Colon = (refl, refl)
label_ends (labels.In label) = (refl, refl)
label_ends (labels.Dotted label dots) = (refl, refl)

tag_ends : (q : TagAt) → (tag_steps.step q 10 ≡ None) × (tag_steps.step q 13 ≡ None)
tag_ends tags.Start = (refl, refl)
tag_ends tags.Sign = (refl, refl)
tag_ends (tags.Letters tag) = (refl, refl)
tag_ends (tags.Hyphen tag) = (refl, refl)
tag_ends (tags.Subtag tag) = (refl, refl)

-- nor over one after the token
off : {S : Type 0} (within : S → LineAt) (after : List ℕ → ℕ → Option LineAt) (c : ℕ) (o : Option (List ℕ)) → ((v : List ℕ) → after v c ≡ None) → enter within after o c None ≡ None
off within after c None k = refl
off within after c (Some v) k = k v

in_label_stops : (within : LabelAt → LineAt) (after : List ℕ → ℕ → Option LineAt) (q : LabelAt) → ((v : List ℕ) → Stops (after v)) → Stops (in_label within after q)
in_label_stops within after q s =
    let k = label_ends q in (
      ap (λ o. enter within after (label_steps.final q) 10 o) k.0 ∙ off within after 10 (label_steps.final q) (λ v. (s v).0),
      ap (λ o. enter within after (label_steps.final q) 13 o) k.1 ∙ off within after 13 (label_steps.final q) (λ v. (s v).1),
    )

in_tag_stops : (within : TagAt → LineAt) (after : List ℕ → ℕ → Option LineAt) (q : TagAt) → ((v : List ℕ) → Stops (after v)) → Stops (within_tag within after q)
in_tag_stops within after q s =
    let k = tag_ends q in (
      ap (λ o. enter within after (tag_steps.final q) 10 o) k.0 ∙ off within after 10 (tag_steps.final q) (λ v. (s v).0),
      ap (λ o. enter within after (tag_steps.final q) 13 o) k.1 ∙ off within after 13 (tag_steps.final q) (λ v. (s v).1),
    )

-- a line's end is no dot
no_dot_there : (s : Term) (p : List ℕ) (c : ℕ) (o : Option (List ℕ)) (other : Option LineAt) → (c == 46) ≡ false → other ≡ None → line.at_dot s p c o other ≡ None
no_dot_there s p c None other f e = e
no_dot_there s p c (Some o) other f e = ap (λ b. cond b (Some (Object s p (objects.Dot o))) other) f ∙ e

string_stops : (q : StringAt) → is_open_string q ≡ true → (string.step Triples q 10 ≡ None) × (string.step Triples q 13 ≡ None)
string_stops string_at.Start g = (refl, refl)
string_stops (string_at.Opened q) g = cc
string_stops (string_at.Empty q) g = cc
string_stops (string_at.In (Short Double) out) g = (refl, refl)
string_stops (string_at.In (Short Single) out) g = cc
string_stops (string_at.In (Long q) out) g = cc
string_stops (string_at.Backslash (Short Double) out) g = (refl, refl)
string_stops (string_at.Backslash (Short Single) out) g = cc
string_stops (string_at.Backslash (Long q) out) g = cc
string_stops (string_at.Escape (Short Double) e out) g = (refl, refl)
string_stops (string_at.Escape (Short Single) e out) g = cc
string_stops (string_at.Escape (Long q) e out) g = cc
string_stops (string_at.OneQuote q out) g = cc
string_stops (string_at.TwoQuotes q out) g = cc
string_stops (string_at.Done out) g = cc

in_string_stops : (within : StringAt → LineAt) (after : List ℕ → LineAt) (q : StringAt) → is_open_string q ≡ true → Stops (in_string within after q)
in_string_stops within after q g =
    let k = string_stops q g in (
      ap (option_and_then (λ n. settle within (λ v. Some (after v)) n (whole_string n))) k.0,
      ap (option_and_then (λ n. settle within (λ v. Some (after v)) n (whole_string n))) k.1,
    )

stops_at : (s : LineAt) → Good s → Stops (line.step s)
stops_at Begin g = (refl, refl)
stops_at (Subject (subjects.Iri q)) g = in_iri_stops (λ n. Subject (subjects.Iri n)) (λ s. Some (AfterSubject (Iri s))) q
stops_at (Subject (subjects.Label q)) g = in_label_stops (λ n. Subject (subjects.Label n)) (λ s c. line.after_subject (Blank s) c) q (λ v. (refl, refl))
stops_at (AfterSubject s) g = (refl, refl)
stops_at (Predicate s q) g = in_iri_stops (λ n. Predicate s n) (λ p. Some (AfterPredicate s p)) q
stops_at (AfterPredicate s p) g = (refl, refl)
stops_at (Object s p (objects.Iri q)) g = in_iri_stops (λ n. Object s p (objects.Iri n)) (λ o. Some (AfterObject (triple_of s p (Iri o)))) q
stops_at (Object s p (objects.Label q)) g =
    let k = in_label_stops (λ n. Object s p (objects.Label n)) (λ o c. line.after_object (triple_of s p (Blank o)) c) q (λ v. (refl, refl)) in
    (no_dot_there s p 10 (label_steps.final q) _ refl k.0, no_dot_there s p 13 (label_steps.final q) _ refl k.1)
stops_at (Object s p (objects.Dot label)) g = (refl, refl)
stops_at (Object s p (objects.String q)) g = in_string_stops (λ n. Object s p (objects.String n)) (λ lexical. Suffix s p lexical suffixes.Start) q g.going
stops_at (Suffix s p lexical suffixes.Start) g = (refl, refl)
stops_at (Suffix s p lexical (suffixes.Tag q)) g = in_tag_stops (λ n. Suffix s p lexical (suffixes.Tag n)) (λ tag c. line.after_object (triple_of s p (tagged_of lexical tag)) c) q (λ v. (refl, refl))
stops_at (Suffix s p lexical suffixes.Caret) g = (refl, refl)
stops_at (Suffix s p lexical suffixes.Carets) g = (refl, refl)
stops_at (Suffix s p lexical (suffixes.Datatype q)) g = in_iri_stops (λ n. Suffix s p lexical (suffixes.Datatype n)) (line.typed s p lexical) q
stops_at (AfterObject stated) g = (refl, refl)
stops_at (Ended stated) g = (refl, refl)
stops_at (Comment fact) g = (refl, refl)

pub end_is : (c : ℕ) → is_line_end c ≡ true → (c ≡ 10) ⊎ (c ≡ 13)
end_is c e = ⊎_elim (λ b. inl (eqb_same c 10 b)) (λ b. inr (eqb_same c 13 (sym (or_first (c == 10) (c == 13) b) ∙ e))) (decided (c == 10))
  where
    or_first : (a b : Bool) → a ≡ false → (a || b) ≡ b
    or_first true b e = cc
    or_first false b e = refl

pub stops : (s : LineAt) (c : ℕ) → Good s → is_line_end c ≡ true → line.step s c ≡ None
stops s c g e = ⊎_elim (λ k. ap (line.step s) k ∙ (stops_at s g).0) (λ k. ap (line.step s) k ∙ (stops_at s g).1) (end_is c e)

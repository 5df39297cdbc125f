-- Where a document has passed its greatest number of triples.
use Rattle.std.proofs.Common.{◌≡◌, refl, ℕ, suc, ◌≤◌, Bool, true, false, cond, ◌==◌, List, [], ◌∷◌, ◌++◌, Option, Some, None, option_map, option_and_then, option_to_list, length, ◌⊎◌, inl, inr, ⊎_elim, sym, ◌∙◌, ap, subst, append_assoc, arith, length-append}
use Rattle.std.specs.Str.{encode_utf8_all, all_scalars}
use Rattle.std.proofs.lemmas.List.{append-nil}
use Rattle.std.proofs.lemmas.Str.{encodes-append}
use Rattle.bye_terms.specs.Terms.{Statement}
use Rattle.bye_terms.specs.declared.term.Term.{Term}
use Rattle.bye_terms.specs.declared.term.Term.TheVariants.{Blank}
use Rattle.bye_lex.specs.LabelSteps as label_steps
use Rattle.bye_lex.specs.declared.label.LabelAt.{LabelAt}
use Rattle.bye_lex.specs.declared.label.LabelAt.TheVariants as labels
use Rattle.bye_lex.proofs.Branches.{unless, eqb_same, some_same, none_some, pick_of, chosen, told}
use Rattle.bye_ntriples.specs.Answers.{UpToDot, GoesOn, AreEnded}
use Rattle.bye_ntriples.specs.Documents.{NtText}
use Rattle.bye_ntriples.specs.DocSteps.{DocAt, start, line_ended, line_moved, step, final, held, pending, count}
use Rattle.bye_ntriples.specs.Lines.{is_space, is_line_end}
use Rattle.bye_ntriples.specs.LineSteps as line
use Rattle.bye_lex.specs.Running.{run}
use Rattle.bye_ntriples.specs.Triples.{triple_of}
use Rattle.bye_ntriples.specs.declared.line.LineAt.{LineAt}
use Rattle.bye_ntriples.specs.declared.line.LineAt.TheVariants.{Begin, Subject, AfterSubject, Predicate, AfterPredicate, Object, Suffix, AfterObject, Ended, Comment}
use Rattle.bye_ntriples.specs.declared.line.ObjectAt.TheVariants as objects
use Rattle.bye_ntriples.proofs.LineMeaning.{LeftTriple, Good}
use Rattle.bye_lex.proofs.Machines.{run_append, run_on, run_step, bind_some, run_gives}
use Rattle.bye_lex.proofs.Embedding.{Onward}
use Rattle.bye_ntriples.proofs.Tokens.{label_gives}
use Rattle.bye_terms.specs.Characters.{is_label_part}
use Rattle.bye_ntriples.proofs.TripleForth.{Endings, is_before_end, triple_forth}
use Rattle.bye_ntriples.proofs.TripleBack.{EndingBack, triple_back}
use Rattle.bye_ntriples.proofs.LineReached.{stays}
use Rattle.bye_ntriples.proofs.LineEnds.{dot_left}
use Rattle.bye_ntriples.proofs.DocExact.{LeftDoc, GoodDoc, doc_machine, of_text, doc_ends, step_is, no_end}
use Rattle.bye_lex.proofs.Fronts.{front_scalars}

-- the machine of triples up to their dots
abbrev pub Nothing : List ℕ → Type 0
Nothing rest = rest ≡ []

up_endings : Endings Nothing
up_endings = record { forth = λ stated c t e. cc; apart = λ c t e. cc }

up_forth : (s : LineAt) (c : ℕ) (t : List ℕ) (v : Statement) → Good s → LeftTriple Nothing s (c ∷ t) v → Onward (LeftTriple Nothing) (line.step s c) t v
up_forth Begin c t v g h = triple_forth Nothing up_endings Begin c t v g refl h
up_forth (Subject q) c t v g h = triple_forth Nothing up_endings (Subject q) c t v g refl h
up_forth (AfterSubject s) c t v g h = triple_forth Nothing up_endings (AfterSubject s) c t v g refl h
up_forth (Predicate s q) c t v g h = triple_forth Nothing up_endings (Predicate s q) c t v g refl h
up_forth (AfterPredicate s p) c t v g h = triple_forth Nothing up_endings (AfterPredicate s p) c t v g refl h
up_forth (Object s p q) c t v g h = triple_forth Nothing up_endings (Object s p q) c t v g refl h
up_forth (Suffix s p lexical q) c t v g h = triple_forth Nothing up_endings (Suffix s p lexical q) c t v g refl h
up_forth (AfterObject stated) c t v g h = triple_forth Nothing up_endings (AfterObject stated) c t v g refl h
up_forth (Ended stated) c t v g h = let e = h.0 in cc
up_forth (Comment fact) c t v g h = (Comment fact, unless _ _ _ _ h.0.0 refl, (h.0.1, h.1))

pub up_gives : (s : LineAt) (a b : List ℕ) (v : Statement) → Good s → LeftTriple Nothing s (a ++ b) v → (n : LineAt) × (run line.step s a ≡ Some n) × (Good n × LeftTriple Nothing n b v)
up_gives s [] b v g h = (s, refl, (g, h))
up_gives s (c ∷ a) b v g h =
    let m = up_forth s c (a ++ b) v g h in
    let n = up_gives m.0 a b v (stays s m.0 c g m.1) m.2 in
    (n.0, ap (option_and_then (λ n. run line.step n a)) m.1 ∙ n.1, n.2)

-- before the end of a triple one never comes from after it
never_back : (s n : LineAt) (c : ℕ) → line.step s c ≡ Some n → is_before_end n ≡ true → is_before_end s ≡ true
never_back Begin n c e b = refl
never_back (Subject q) n c e b = refl
never_back (AfterSubject s) n c e b = refl
never_back (Predicate s q) n c e b = refl
never_back (AfterPredicate s p) n c e b = refl
never_back (Object s p q) n c e b = refl
never_back (Suffix s p lexical q) n c e b = refl
never_back (AfterObject stated) n c e b = refl
never_back (Ended stated) n c e b =
    pick_of {P = is_before_end (Ended stated) ≡ true} (is_space c) (Ended stated) n (cond (c == 35) (Some (Comment (Some stated))) None) e (λ t k. ap is_before_end (sym k) ∙ b)
    (λ k. pick_of {P = is_before_end (Ended stated) ≡ true} (c == 35) (Comment (Some stated)) n None k (λ t k. ap is_before_end (sym k) ∙ b) (λ k. none_some k))
never_back (Comment fact) n c e b =
    ⊎_elim
    (λ (k : (is_line_end c ≡ true) × (◌≡◌ {A = Option LineAt} None (Some n))). none_some k.1)
    (λ (k : (is_line_end c ≡ false) × (◌≡◌ {A = Option LineAt} (Some (Comment fact)) (Some n))). ap is_before_end (some_same k.1) ∙ b)
    (chosen _ _ _ _ e)

-- a step to such a state does not end a triple
no_ending : (n : LineAt) (c : ℕ) (t : List ℕ) (v : Statement) → is_before_end n ≡ true → EndingBack Nothing n c t v
no_ending n c t v b stated e h =
    let R : Type 0 = ◌≡◌ {A = Bool} false true in
    let z : R =
    pick_of {P = R} (is_space c) (Ended stated) n (cond (c == 35) (Some (Comment (Some stated))) None) e (λ t k. ap is_before_end (sym k) ∙ b)
    (λ k. pick_of {P = R} (c == 35) (Comment (Some stated)) n None k (λ t k. ap is_before_end (sym k) ∙ b) (λ k. none_some k)) in
    cc

pub up_takes : (s n : LineAt) (a b : List ℕ) (v : Statement) → Good s → run line.step s a ≡ Some n → is_before_end n ≡ true → LeftTriple Nothing n b v → LeftTriple Nothing s (a ++ b) v × (is_before_end s ≡ true)
up_takes s n [] b v g e k h = (subst (λ s. LeftTriple Nothing s b v) (sym (some_same e)) h, ap is_before_end (some_same e) ∙ k)
up_takes s n (c ∷ a) b v g e k h =
    let m = bind_some (line.step s c) (λ n. run line.step n a) n e in
    let r = up_takes m.0 n a b v (stays s m.0 c g m.1) m.2 k h in
    let q = never_back s m.0 c m.1 r.1 in
    (triple_back Nothing s m.0 c (a ++ b) v (no_ending m.0 c (a ++ b) v r.1) g q m.1 r.0, q)

-- the dot that ends a triple
pub ends_with_dot : (s : LineAt) (v : Statement) → Good s → is_before_end s ≡ true → line.step s 46 ≡ Some (Ended v) → LeftTriple Nothing s (46 ∷ []) v
ends_with_dot s v g b e = triple_back Nothing s (Ended v) 46 [] v (λ stated e h. none_some e) g b e (refl, refl)

-- the machine of documents along a line
pub doc_of_line : (done : List Statement) (s n : LineAt) (own : List ℕ) → Good s → run line.step s own ≡ Some n → run step (line_moved done s) own ≡ Some (line_moved done n)
doc_of_line done s n [] g e = ap Some (ap (line_moved done) (some_same e))
doc_of_line done s n (c ∷ own) g e =
    let m = bind_some (line.step s c) (λ n. run line.step n own) n e in
    let moves : step (line_moved done s) c ≡ Some (line_moved done m.0) = unless _ _ _ _ (no_end s m.0 c g m.1) (ap (option_map (line_moved done)) m.1) in
    ap (option_and_then (λ n. run step n own)) moves ∙ doc_of_line done m.0 n own (stays s m.0 c g m.1) m.2

-- lines that are ended lead to a line's beginning
last_ended : (m d : DocAt) (c : ℕ) → step m c ≡ Some d → is_line_end c ≡ true → d.at ≡ Begin
last_ended m d c e b =
    ⊎_elim
    (λ (k : (is_line_end c ≡ true) × ((fact : Option Statement) × (line.final m.at ≡ Some fact) × (line_ended m.done fact ≡ d))). ap (λ (d : DocAt). d.at) (sym k.1.2))
    (λ (k : (is_line_end c ≡ false) × ((x : LineAt) × (line.step m.at c ≡ Some x) × (line_moved m.done x ≡ d))). let z : ◌≡◌ {A = Bool} true false = sym b ∙ k.0 in cc)
    (step_is m d c e)

begins_there : (lines : List ℕ) (d : DocAt) → run step start lines ≡ Some d → AreEnded lines → d.at ≡ Begin
begins_there lines d e (inl k) = ap (λ (d : DocAt). d.at) (sym (some_same (ap (run step start) (sym k) ∙ e)))
begins_there lines d e (inr k) =
    let whole : run step start (k.0 ++ k.1 ∷ []) ≡ Some d = ap (run step start) (sym k.2) ∙ e in
    let m = bind_some (run step start k.0) (λ n. run step n (k.1 ∷ [])) d (sym (run_append step start k.0 (k.1 ∷ [])) ∙ whole) in
    let q = bind_some (step m.0 k.1) (λ n. Some n) d m.2 in
    last_ended m.0 d k.1 (q.1 ∙ q.2) k.3

at_begin : (d : DocAt) (triples : List Statement) → d.at ≡ Begin → final d ≡ Some triples → d ≡ line_moved triples Begin
at_begin d triples b e =
    let same : d.done ++ [] ≡ triples = some_same (sym (ap (λ s. option_map (λ fact. d.done ++ option_to_list fact) (line.final s)) b) ∙ e) in
    λ i. record { done = (sym (append-nil d.done) ∙ same) i; at = b i }

pub lines_run : (lines : List ℕ) (before : List Statement) → NtText lines before → AreEnded lines → run step start lines ≡ Some (line_moved before Begin)
lines_run lines before h ended =
    let n = run_gives LeftDoc step GoodDoc doc_machine start lines [] before tt (subst (λ t. LeftDoc start t before) (sym (append-nil lines)) (of_text lines before h)) in
    n.1 ∙ ap Some (at_begin n.0 before (begins_there lines n.0 n.1 ended) (doc_ends n.0 before n.2))

-- the count of triples only grows
no_less : (n : ℕ) → 0 ≤ n
no_less n = omega arith

at_one : (s : LineAt) (n : LineAt) → held n ≡ 1 → held s ≤ 1 → held s ≤ held n
at_one s n e h = omega (arith, e, h)

held_grows : (s n : LineAt) (c : ℕ) → line.step s c ≡ Some n → held s ≤ held n
held_grows Begin n c e = no_less (held n)
held_grows (Subject q) n c e = no_less (held n)
held_grows (AfterSubject s) n c e = no_less (held n)
held_grows (Predicate s q) n c e = no_less (held n)
held_grows (AfterPredicate s p) n c e = no_less (held n)
held_grows (Object s p q) n c e = no_less (held n)
held_grows (Suffix s p lexical q) n c e = no_less (held n)
held_grows (AfterObject stated) n c e = no_less (held n)
held_grows (Ended stated) n c e =
    pick_of {P = 1 ≤ held n} (is_space c) (Ended stated) n (cond (c == 35) (Some (Comment (Some stated))) None) e (λ t k. let z = ap held k in omega (arith, z))
    (λ k. pick_of {P = 1 ≤ held n} (c == 35) (Comment (Some stated)) n None k (λ t k. let z = ap held k in omega (arith, z)) (λ k. none_some k))
held_grows (Comment fact) n c e =
    ⊎_elim
    (λ (k : (is_line_end c ≡ true) × (◌≡◌ {A = Option LineAt} None (Some n))). none_some k.1)
    (λ (k : (is_line_end c ≡ false) × (◌≡◌ {A = Option LineAt} (Some (Comment fact)) (Some n))). let z = ap held (some_same k.1) in omega (arith, z))
    (chosen _ _ _ _ e)

last_grows : (s : LineAt) (fact : Option Statement) → line.final s ≡ Some fact → held s ≤ length (option_to_list fact)
last_grows Begin fact e = no_less (length (option_to_list fact))
last_grows (Subject q) fact e = no_less (length (option_to_list fact))
last_grows (AfterSubject s) fact e = no_less (length (option_to_list fact))
last_grows (Predicate s q) fact e = no_less (length (option_to_list fact))
last_grows (AfterPredicate s p) fact e = no_less (length (option_to_list fact))
last_grows (Object s p q) fact e = no_less (length (option_to_list fact))
last_grows (Suffix s p lexical q) fact e = no_less (length (option_to_list fact))
last_grows (AfterObject stated) fact e = no_less (length (option_to_list fact))
last_grows (Ended stated) fact e = let z = ap (λ f. length (option_to_list f)) (some_same e) in omega (arith, z)
last_grows (Comment None) fact e = no_less (length (option_to_list fact))
last_grows (Comment (Some v)) fact e = let z = ap (λ f. length (option_to_list f)) (some_same e) in omega (arith, z)

count_grows : (d n : DocAt) (c : ℕ) → step d c ≡ Some n → count d ≤ count n
count_grows d n c e =
    ⊎_elim
    (λ (k : (is_line_end c ≡ true) × ((fact : Option Statement) × (line.final d.at ≡ Some fact) × (line_ended d.done fact ≡ n))).
    let z = ap count k.1.2 in
    let l = length-append d.done (option_to_list k.1.0) in
    let g = last_grows d.at k.1.0 k.1.1 in
    omega (arith, z, l, g))
    (λ (k : (is_line_end c ≡ false) × ((x : LineAt) × (line.step d.at c ≡ Some x) × (line_moved d.done x ≡ n))).
    let z = ap count k.1.2 in
    let g = held_grows d.at k.1.0 c k.1.1 in
    omega (arith, z, g))
    (step_is d n c e)

pub run_grows : (d n : DocAt) (text : List ℕ) → run step d text ≡ Some n → count d ≤ count n
run_grows d n [] e = let z = ap count (some_same e) in omega (arith, z)
run_grows d n (c ∷ cs) e =
    let m = bind_some (step d c) (λ n. run step n cs) n e in
    let one = count_grows d m.0 c m.1 in
    let more = run_grows m.0 n cs m.2 in
    omega (arith, one, more)

-- dots alone
abbrev pub AreDots : List ℕ → Type 0
AreDots [] = Unit {0}
AreDots (c ∷ cs) = (c ≡ 46) × AreDots cs

-- the label goes on in the text: dots, and then a character of it
pub record Further (s : LineAt) (text : List ℕ) : Type 0 where
  pub more : List ℕ
  pub behind : List ℕ
  pub parts : text ≡ more ++ behind
  pub subject : Term
  pub predicate : List ℕ
  pub label : List ℕ
  pub leads : run line.step s more ≡ Some (Object subject predicate (objects.Label (labels.In label)))

abbrev pub dots_state : Term → List ℕ → List ℕ → List ℕ → LineAt
dots_state s p label dots = Object s p (objects.Label (labels.Dotted label dots))

-- what a step after dots within a label is
after_dots : (s : Term) (p label dots : List ℕ) (c : ℕ) (m : LineAt) → line.step (dots_state s p label dots) c ≡ Some m → (m ≡ Object s p (objects.Label (labels.In ((label ++ dots) ++ c ∷ [])))) ⊎ ((c ≡ 46) × (m ≡ dots_state s p label (dots ++ 46 ∷ [])))
after_dots s p label dots c m e =
    let R : Type 0 = (m ≡ Object s p (objects.Label (labels.In ((label ++ dots) ++ c ∷ [])))) ⊎ ((c ≡ 46) × (m ≡ dots_state s p label (dots ++ 46 ∷ []))) in
    ⊎_elim
    (λ (k : (k : LabelAt) × (label_steps.step (labels.Dotted label dots) c ≡ Some k) × (m ≡ Object s p (objects.Label k))).
    let r : R =
    pick_of {P = R} (is_label_part c) (labels.In ((label ++ dots) ++ c ∷ [])) k.0 (cond (c == 46) (Some (labels.Dotted label (dots ++ 46 ∷ []))) None) k.1 (λ b q. inl (k.2 ∙ ap (λ k. Object s p (objects.Label k)) q))
    (λ q. pick_of {P = R} (c == 46) (labels.Dotted label (dots ++ 46 ∷ [])) k.0 None q (λ b q. inr (eqb_same c 46 b, k.2 ∙ ap (λ k. Object s p (objects.Label k)) q)) (λ q. none_some q)) in r)
    (λ (k : (label_steps.step (labels.Dotted label dots) c ≡ None) × ((v : List ℕ) × (label_steps.final (labels.Dotted label dots) ≡ Some v) × (line.after_object (triple_of s p (Blank v)) c ≡ Some m))). none_some k.1.1)
    (label_gives (λ n. Object s p (objects.Label n)) (λ o c. line.after_object (triple_of s p (Blank o)) c) (labels.Dotted label dots) c m e)

abbrev DotsLead : LineAt → List ℕ → DocAt → Type 0
DotsLead s text d = (AreDots text × (pending d.at ≡ 1)) ⊎ Further s text

dots_lead : (done : List Statement) (s : Term) (p label dots rest : List ℕ) (d : DocAt) → run step (line_moved done (dots_state s p label dots)) rest ≡ Some d → DotsLead (dots_state s p label dots) rest d
dots_lead done s p label dots [] d e = inl (tt, ap (λ (d : DocAt). pending d.at) (sym (some_same e)))
dots_lead done s p label dots (c ∷ cs) d e =
    let q = dots_state s p label dots in
    let m = bind_some (step (line_moved done q) c) (λ n. run step n cs) d e in
    ⊎_elim
    (λ (k : (is_line_end c ≡ true) × ((fact : Option Statement) × (line.final q ≡ Some fact) × (line_ended done fact ≡ m.0))). none_some k.1.1)
    (λ (k : (is_line_end c ≡ false) × ((x : LineAt) × (line.step q c ≡ Some x) × (line_moved done x ≡ m.0))).
    ⊎_elim
    (λ (h : k.1.0 ≡ Object s p (objects.Label (labels.In ((label ++ dots) ++ c ∷ [])))).
    let r : DotsLead q (c ∷ cs) d = inr (record { more = c ∷ []; behind = cs; parts = refl; subject = s; predicate = p; label = (label ++ dots) ++ c ∷ []; leads = ap (option_and_then (λ n. Some n)) k.1.1 ∙ ap Some h }) in r)
    (λ (h : (c ≡ 46) × (k.1.0 ≡ dots_state s p label (dots ++ 46 ∷ []))).
    let on : run step (line_moved done (dots_state s p label (dots ++ 46 ∷ []))) cs ≡ Some d = ap (λ n. run step n cs) (ap (line_moved done) (sym h.1) ∙ k.1.2) ∙ m.2 in
    ⊎_elim
    (λ (w : AreDots cs × (pending d.at ≡ 1)). let r : DotsLead q (c ∷ cs) d = inl ((h.0, w.0), w.1) in r)
    (λ (w : Further (dots_state s p label (dots ++ 46 ∷ [])) cs).
    let r : DotsLead q (c ∷ cs) d =
    inr (record { more = c ∷ w.more; behind = w.behind; parts = ap (λ t. c ∷ t) w.parts; subject = w.subject; predicate = w.predicate; label = w.label; leads = ap (option_and_then (λ n. run line.step n w.more)) (k.1.1 ∙ ap Some h.1) ∙ w.leads }) in r)
    (dots_lead done s p label (dots ++ 46 ∷ []) cs d on))
    (after_dots s p label dots c k.1.0 k.1.1))
    (step_is (line_moved done q) m.0 c m.1)

-- after a label and a dot: the text is dots, the label goes on, or the triple is told of
abbrev pub dot_state : Term → List ℕ → List ℕ → LineAt
dot_state s p label = Object s p (objects.Dot label)

abbrev DotLeads : List Statement → LineAt → List ℕ → DocAt → Type 0
DotLeads done s text d = ((AreDots text × (pending d.at ≡ 1)) ⊎ Further s text) ⊎ (suc (length done) ≤ count d)

ended_held : (stated : Statement) (c : ℕ) (m : LineAt) → line.ended stated c ≡ Some m → held m ≡ 1
ended_held stated c m e =
    pick_of {P = held m ≡ 1} (is_space c) (Ended stated) m (cond (c == 35) (Some (Comment (Some stated))) None) e (λ t k. ap held k)
    (λ k. pick_of {P = held m ≡ 1} (c == 35) (Comment (Some stated)) m None k (λ t k. ap held k) (λ k. none_some k))

-- what a step after that dot is
after_one : (s : Term) (p label : List ℕ) (c : ℕ) (m : LineAt) → line.step (dot_state s p label) c ≡ Some m
    → (held m ≡ 1) ⊎ ((m ≡ Object s p (objects.Label (labels.In ((label ++ 46 ∷ []) ++ c ∷ [])))) ⊎ ((c ≡ 46) × (m ≡ dots_state s p label (46 ∷ 46 ∷ []))))
after_one s p label c m e =
    let dotted : LabelAt = labels.Dotted label (46 ∷ []) in
    let R : Type 0 = (held m ≡ 1) ⊎ ((m ≡ Object s p (objects.Label (labels.In ((label ++ 46 ∷ []) ++ c ∷ [])))) ⊎ ((c ≡ 46) × (m ≡ dots_state s p label (46 ∷ 46 ∷ [])))) in
    ⊎_elim
    (λ (f : label_steps.step dotted c ≡ None). let r : R = inl (ended_held (triple_of s p (Blank label)) c m (sym (ap (λ o. line.settle_dot s p label c o) f) ∙ e)) in r)
    (λ (f : (k : LabelAt) × (label_steps.step dotted c ≡ Some k)).
    let is : Object s p (objects.Label f.0) ≡ m = some_same (sym (ap (λ o. line.settle_dot s p label c o) f.1) ∙ e) in
    let r : R =
    pick_of {P = R} (is_label_part c) (labels.In ((label ++ 46 ∷ []) ++ c ∷ [])) f.0 (cond (c == 46) (Some (labels.Dotted label (46 ∷ 46 ∷ []))) None) f.1 (λ b q. inr (inl (sym is ∙ ap (λ k. Object s p (objects.Label k)) q)))
    (λ q. pick_of {P = R} (c == 46) (labels.Dotted label (46 ∷ 46 ∷ [])) f.0 None q (λ b q. inr (inr (eqb_same c 46 b, sym is ∙ ap (λ k. Object s p (objects.Label k)) q))) (λ q. none_some q)) in r)
    (told (label_steps.step dotted c))

pub dot_leads : (done : List Statement) (s : Term) (p label rest : List ℕ) (d : DocAt) → run step (line_moved done (dot_state s p label)) rest ≡ Some d → DotLeads done (dot_state s p label) rest d
dot_leads done s p label [] d e = inl (inl (tt, ap (λ (d : DocAt). pending d.at) (sym (some_same e))))
dot_leads done s p label (c ∷ cs) d e =
    let q = dot_state s p label in
    let m = bind_some (step (line_moved done q) c) (λ n. run step n cs) d e in
    let grows = run_grows m.0 d cs m.2 in
    ⊎_elim
    (λ (k : (is_line_end c ≡ true) × ((fact : Option Statement) × (line.final q ≡ Some fact) × (line_ended done fact ≡ m.0))).
    let z = ap count k.1.2 in
    let l = length-append done (option_to_list k.1.0) in
    let f = ap (λ f. length (option_to_list f)) (some_same k.1.1) in
    let r : DotLeads done q (c ∷ cs) d = inr (omega (arith, z, l, f, grows)) in r)
    (λ (k : (is_line_end c ≡ false) × ((x : LineAt) × (line.step q c ≡ Some x) × (line_moved done x ≡ m.0))).
    ⊎_elim
    (λ (h : held k.1.0 ≡ 1).
    let z = ap count k.1.2 in
    let one = h in
    let r : DotLeads done q (c ∷ cs) d = inr (omega (arith, z, one, grows)) in r)
    (λ (h : (k.1.0 ≡ Object s p (objects.Label (labels.In ((label ++ 46 ∷ []) ++ c ∷ [])))) ⊎ ((c ≡ 46) × (k.1.0 ≡ dots_state s p label (46 ∷ 46 ∷ [])))).
    let text = (label ++ 46 ∷ []) ++ c ∷ [] in
    ⊎_elim
    (λ (h : k.1.0 ≡ Object s p (objects.Label (labels.In text))).
    let r : DotLeads done q (c ∷ cs) d = inl (inr (record { more = c ∷ []; behind = cs; parts = refl; subject = s; predicate = p; label = text; leads = ap (option_and_then (λ n. Some n)) k.1.1 ∙ ap Some h })) in r)
    (λ (h : (c ≡ 46) × (k.1.0 ≡ dots_state s p label (46 ∷ 46 ∷ []))).
    let on : run step (line_moved done (dots_state s p label (46 ∷ 46 ∷ []))) cs ≡ Some d = ap (λ n. run step n cs) (ap (line_moved done) (sym h.1) ∙ k.1.2) ∙ m.2 in
    ⊎_elim
    (λ (w : AreDots cs × (pending d.at ≡ 1)). let r : DotLeads done q (c ∷ cs) d = inl (inl ((h.0, w.0), w.1)) in r)
    (λ (w : Further (dots_state s p label (46 ∷ 46 ∷ [])) cs).
    let r : DotLeads done q (c ∷ cs) d =
    inl (inr (record { more = c ∷ w.more; behind = w.behind; parts = ap (λ t. c ∷ t) w.parts; subject = w.subject; predicate = w.predicate; label = w.label; leads = ap (option_and_then (λ n. run line.step n w.more)) (k.1.1 ∙ ap Some h.1) ∙ w.leads })) in r)
    (dots_lead done s p label (46 ∷ 46 ∷ []) cs d on))
    h)
    (after_one s p label c k.1.0 k.1.1))
    (step_is (line_moved done q) m.0 c m.1)

-- where the label goes on, the text is a longer triple with these characters and a dot
pub goes_on : (own text left : List ℕ) (s : LineAt) → run line.step Begin own ≡ Some s → all_scalars text ≡ true → Further s text → GoesOn own (encode_utf8_all text ++ left)
goes_on own text left s e scalars f =
    let at : LineAt = Object f.subject f.predicate (objects.Label (labels.In f.label)) in
    let ran : run line.step Begin (own ++ f.more) ≡ Some at = run_on line.step Begin s own f.more e ∙ f.leads in
    let dot : run line.step Begin ((own ++ f.more) ++ 46 ∷ []) ≡ Some (dot_state f.subject f.predicate f.label) = run_step line.step Begin at (own ++ f.more) 46 ran in
    let v = triple_of f.subject f.predicate (Blank f.label) in
    let is = (up_takes Begin (dot_state f.subject f.predicate f.label) ((own ++ f.more) ++ 46 ∷ []) [] v tt dot refl (dot_left Nothing f.subject f.predicate f.label refl)).0 in
    record {
      more = f.more;
      behind = encode_utf8_all f.behind ++ left;
      follow = ap (λ t. encode_utf8_all t ++ left) f.parts ∙ ap (λ t. t ++ left) (encodes-append f.more f.behind) ∙ append_assoc (encode_utf8_all f.more) (encode_utf8_all f.behind) left;
      scalars = front_scalars f.more f.behind (ap all_scalars (sym f.parts) ∙ scalars);
      longer = v;
      stated = subst (λ t. UpToDot t v) (append-nil ((own ++ f.more) ++ 46 ∷ [])) is;
    }

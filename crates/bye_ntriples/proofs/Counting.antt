-- That a reader tells exactly where a document has one triple too many.
use Rattle.std.proofs.Common.{◌≡◌, refl, ℕ, suc, ◌+◌, ◌<◌, ◌≤◌, Bool, true, false, nat_lt, List, [], ◌∷◌, ◌++◌, Some, None, option_and_then, length, ◌⊎◌, inl, inr, ⊎_elim, sym, ◌∙◌, ap, subst, append_assoc, arith}
use Rattle.std.specs.Char.{encode_utf8, IsScalar}
use Rattle.std.specs.Str.{encode_utf8_all, all_scalars}
use Rattle.std.proofs.lemmas.Bool.Decides.{nat_tests}
use Rattle.std.proofs.lemmas.List.{append-nil}
use Rattle.std.proofs.lemmas.Str.{encodes-append}
use Rattle.bye_terms.specs.Characters.{is_label_part}
use Rattle.bye_terms.specs.Terms.{Statement}
use Rattle.bye_terms.specs.declared.term.Term.{Term}
use Rattle.bye_terms.specs.declared.term.Term.TheVariants.{Blank}
use Rattle.bye_lex.specs.Utf8.{BeginsLabelPart}
use Rattle.bye_lex.proofs.Branches.{when, none_some, scalars_join, and_true}
use Rattle.bye_ntriples.specs.Answers.{triple_limit, UpToDot, GoesOn, MayGoOn, AreEnded, PassesWhere, Passes, HasPassed}
use Rattle.bye_ntriples.specs.DocSteps.{DocAt, start, line_moved, step, held, pending, count, is_over, is_over_there}
use Rattle.bye_ntriples.specs.Documents.{NtText}
use Rattle.bye_ntriples.specs.LineSteps as line
use Rattle.bye_lex.specs.Embedding.{enter}
use Rattle.bye_lex.specs.Running.{run}
use Rattle.bye_ntriples.specs.Triples.{triple_of}
use Rattle.bye_ntriples.specs.declared.line.LineAt.{LineAt}
use Rattle.bye_ntriples.specs.declared.line.LineAt.TheVariants.{Begin, Subject, AfterSubject, Predicate, AfterPredicate, Object, Suffix, AfterObject, Ended, Comment}
use Rattle.bye_ntriples.specs.declared.line.ObjectAt.TheVariants as objects
use Rattle.bye_ntriples.proofs.LineMeaning.{LeftTriple}
use Rattle.bye_lex.proofs.Machines.{run_on}
use Rattle.bye_ntriples.proofs.LineEnds.{triple_ends}
use Rattle.bye_ntriples.proofs.Passing.{Nothing, up_gives, doc_of_line, lines_run, run_grows, AreDots, Further, dots_state, dot_state, dot_leads, goes_on}
use Rattle.bye_lex.proofs.Fronts.{Longer, back_scalars, split}

pub below : (a b : ℕ) → nat_lt a b ≡ true → a < b
below a b e = grind (arith, nat_tests)

pub above : (a b : ℕ) → nat_lt a b ≡ false → b ≤ a
above a b e = grind (arith, nat_tests)

clash : ◌≡◌ {A = Bool} true false → ⊥
clash e = cc

-- a line that ends with a triple has told of it, or is at a dot that may belong to a label
pub told_or_dot : (n : LineAt) (v : Statement) → line.final n ≡ Some (Some v) → (held n ≡ 1) ⊎ ((s : Term) × (p : List ℕ) × (label : List ℕ) × (n ≡ dot_state s p label))
told_or_dot Begin v e = cc
told_or_dot (Subject q) v e = none_some e
told_or_dot (AfterSubject s) v e = none_some e
told_or_dot (Predicate s q) v e = none_some e
told_or_dot (AfterPredicate s p) v e = none_some e
told_or_dot (Object s p (objects.Iri q)) v e = none_some e
told_or_dot (Object s p (objects.Label m)) v e = none_some e
told_or_dot (Object s p (objects.Dot label)) v e = inr (s, p, label, refl)
told_or_dot (Object s p (objects.String q)) v e = none_some e
told_or_dot (Suffix s p lexical q) v e = none_some e
told_or_dot (AfterObject stated) v e = none_some e
told_or_dot (Ended stated) v e = inl refl
told_or_dot (Comment None) v e = cc
told_or_dot (Comment (Some w)) v e = inl refl

-- after the dot of a label: the text of dots alone
pub record AtDots (own rest left : List ℕ) : Type 0 where
  pub dots : List ℕ
  pub are : AreDots dots
  pub parts : rest ≡ encode_utf8_all dots ++ left
  pub scalars : all_scalars dots ≡ true
  pub subject : Term
  pub predicate : List ℕ
  pub label : List ℕ
  pub leads : run line.step Begin own ≡ Some (dot_state subject predicate label)

-- what a triple too many says of where a reader stands
abbrev pub Tells : DocAt → List ℕ → List ℕ → List ℕ → Type 0
Tells d own rest left = (triple_limit < count d) ⊎ (((triple_limit < count d + pending d.at) × AtDots own rest left) ⊎ GoesOn own rest)

tells_from : (front lines own z left : List ℕ) (before : List Statement) (t : Statement) (d : DocAt) (rest : List ℕ) → all_scalars z ≡ true → NtText lines before → AreEnded lines → triple_limit ≤ length before → UpToDot own t
    → run step start (lines ++ own ++ z) ≡ Some d → rest ≡ encode_utf8_all z ++ left → Tells d own rest left
tells_from front lines own z left before t d rest scalars whole ended many stated e r =
    let n = up_gives Begin own [] t tt (subst (λ own. LeftTriple Nothing Begin own t) (sym (append-nil own)) stated) in
    let here : run step start (lines ++ own) ≡ Some (line_moved before n.0) =
    run_on step start (line_moved before Begin) lines own (lines_run lines before whole ended) ∙ doc_of_line before Begin n.0 own tt n.1 in
    let on : run step (line_moved before n.0) z ≡ Some d = sym (run_on step start (line_moved before n.0) (lines ++ own) z here) ∙ e in
    let grows = run_grows (line_moved before n.0) d z on in
    ⊎_elim
    (λ (h : held n.0 ≡ 1). let r : Tells d own rest left = inl (omega (arith, many, grows, h)) in r)
    (λ (h : (s : Term) × (p : List ℕ) × (label : List ℕ) × (n.0 ≡ dot_state s p label)).
    let dot : run line.step Begin own ≡ Some (dot_state h.0 h.1 h.2) = n.1 ∙ ap Some h.3 in
    let from : run step (line_moved before (dot_state h.0 h.1 h.2)) z ≡ Some d = ap (λ q. run step (line_moved before q) z) (sym h.3) ∙ on in
    ⊎_elim
    (λ (w : (AreDots z × (pending d.at ≡ 1)) ⊎ Further (dot_state h.0 h.1 h.2) z).
    ⊎_elim
    (λ (w : AreDots z × (pending d.at ≡ 1)).
    let one = w.1 in
    let over : triple_limit < count d + pending d.at = omega (arith, many, grows, one) in
    let q : AtDots own rest left = record { dots = z; are = w.0; parts = r; scalars = scalars; subject = h.0; predicate = h.1; label = h.2; leads = dot } in
    let r : Tells d own rest left = inr (inl (over, q)) in r)
    (λ (w : Further (dot_state h.0 h.1 h.2) z).
    let r : Tells d own rest left = inr (inr (subst (λ rest. GoesOn own rest) (sym r) (goes_on own z left (dot_state h.0 h.1 h.2) dot scalars w))) in r)
    w)
    (λ (w : suc (length before) ≤ count d). let r : Tells d own rest left = inl (omega (arith, many, w)) in r)
    (dot_leads before h.0 h.1 h.2 z d from))
    (told_or_dot n.0 t (triple_ends Nothing n.0 t n.2.1))

-- the reader goes no further with what is left
abbrev pub StopsBefore : DocAt → List ℕ → Type 0
StopsBefore d left = (c : ℕ) (behind : List ℕ) → IsScalar c → left ≡ encode_utf8 c ++ behind → step d c ≡ None

pub passes_tells : (Open : List ℕ → List ℕ → Type 0) (front left : List ℕ) (d : DocAt) → all_scalars front ≡ true → run step start front ≡ Some d → StopsBefore d left → (p : PassesWhere Open (encode_utf8_all front ++ left)) → Tells d p.own p.rest left
passes_tells Open front left d scalars e stops p =
    let text = p.lines ++ p.own in
    ⊎_elim
    (λ (h : (z : List ℕ) × (front ≡ text ++ z) × (p.rest ≡ encode_utf8_all z ++ left)).
    tells_from front p.lines p.own h.0 left p.before p.triple d p.rest (back_scalars text h.0 (ap all_scalars (sym h.1) ∙ scalars)) p.whole p.ended p.many p.stated (ap (run step start) (sym h.1) ∙ e) h.2)
    (λ (h : Longer text front p.rest left).
    let n = up_gives Begin p.own [] p.triple tt (subst (λ own. LeftTriple Nothing Begin own p.triple) (sym (append-nil p.own)) p.stated) in
    let here : run step start text ≡ Some (line_moved p.before n.0) =
    run_on step start (line_moved p.before Begin) p.lines p.own (lines_run p.lines p.before p.whole p.ended) ∙ doc_of_line p.before Begin n.0 p.own tt n.1 in
    let none = stops h.next (encode_utf8_all h.more ++ p.rest) h.scalar (h.rest ∙ append_assoc (encode_utf8 h.next) (encode_utf8_all h.more) p.rest) in
    let dead : run step start text ≡ None = ap (run step start) h.is ∙ run_on step start d front (h.next ∷ h.more) e ∙ ap (option_and_then (λ n. run step n h.more)) none in
    let r : Tells d p.own p.rest left = none_some (sym dead ∙ here) in r)
    (split text front p.rest left p.scalars scalars (sym p.parts))

-- nothing has passed where the reader says so
pub no_passes : (front left : List ℕ) (d : DocAt) → all_scalars front ≡ true → run step start front ≡ Some d → StopsBefore d left → is_over_there d ≡ false → Passes (encode_utf8_all front ++ left) → ⊥
no_passes front left d scalars e stops f p =
    let within = above triple_limit (count d + pending d.at) f in
    ⊎_elim (λ (h : triple_limit < count d). omega (arith, within, h))
    (λ (h : ((triple_limit < count d + pending d.at) × AtDots p.own p.rest left) ⊎ GoesOn p.own p.rest).
    ⊎_elim (λ (h : (triple_limit < count d + pending d.at) × AtDots p.own p.rest left). let k = h.0 in omega (arith, within, k)) (λ (h : GoesOn p.own p.rest). p.settled h) h)
    (passes_tells GoesOn front left d scalars e stops p)

-- a label that goes on after dots
dots_then : (s : Term) (p label had dots : List ℕ) (c : ℕ) → AreDots dots → is_label_part c ≡ true → Further (dots_state s p label had) (dots ++ c ∷ [])
dots_then s p label had [] c are is = record {
  more = c ∷ [];
  behind = [];
  parts = refl;
  subject = s;
  predicate = p;
  label = (label ++ had) ++ c ∷ [];
  leads = ap (option_and_then (λ n. Some n)) (ap (λ o. enter (λ n. Object s p (objects.Label n)) (λ o c. line.after_object (triple_of s p (Blank o)) c) None c o) (when _ _ _ is));
}
dots_then s p label had (d ∷ dots) c (are, all) is =
    let w = dots_then s p label (had ++ 46 ∷ []) dots c all is in
    let first : Further (dots_state s p label had) (46 ∷ dots ++ c ∷ []) =
    record { more = 46 ∷ w.more; behind = w.behind; parts = ap (λ t. 46 ∷ t) w.parts; subject = w.subject; predicate = w.predicate; label = w.label; leads = w.leads } in
    subst (λ d. Further (dots_state s p label had) (d ∷ dots ++ c ∷ [])) (sym are) first

dot_then : (s : Term) (p label dots : List ℕ) (c : ℕ) → AreDots dots → is_label_part c ≡ true → Further (dot_state s p label) (dots ++ c ∷ [])
dot_then s p label [] c are is = record {
  more = c ∷ [];
  behind = [];
  parts = refl;
  subject = s;
  predicate = p;
  label = (label ++ 46 ∷ []) ++ c ∷ [];
  leads = ap (option_and_then (λ n. Some n)) (ap (λ o. line.settle_dot s p label c o) (when _ _ _ is));
}
dot_then s p label (d ∷ dots) c (are, all) is =
    let w = dots_then s p label (46 ∷ 46 ∷ []) dots c all is in
    let first : Further (dot_state s p label) (46 ∷ dots ++ c ∷ []) =
    record { more = 46 ∷ w.more; behind = w.behind; parts = ap (λ t. 46 ∷ t) w.parts; subject = w.subject; predicate = w.predicate; label = w.label; leads = w.leads } in
    subst (λ d. Further (dot_state s p label) (d ∷ dots ++ c ∷ [])) (sym are) first

-- what is left may still go on in a label
may_go : (own rest left : List ℕ) → AtDots own rest left → BeginsLabelPart left → MayGoOn own rest
may_go own rest left q b =
    let c = b.begins.char in
    let further = b.begins.next ∷ b.begins.more in
    let scalars : all_scalars (q.dots ++ c ∷ []) ≡ true = scalars_join q.dots (c ∷ []) q.scalars (one c b.begins.scalar) in
    let whole : encode_utf8_all (q.dots ++ c ∷ []) ++ [] ≡ rest ++ further =
    append-nil (encode_utf8_all (q.dots ++ c ∷ [])) ∙ encodes-append q.dots (c ∷ []) ∙ ap (λ t. encode_utf8_all q.dots ++ t) (append-nil (encode_utf8 c) ∙ b.begins.is)
    ∙ sym (append_assoc (encode_utf8_all q.dots) left further) ∙ ap (λ t. t ++ further) (sym q.parts) in
    let goes = goes_on own (q.dots ++ c ∷ []) [] (dot_state q.subject q.predicate q.label) q.leads scalars (dot_then q.subject q.predicate q.label q.dots c q.are b.part) in
    record { further = further; goes = subst (λ rest. GoesOn own rest) whole goes }
  where
    one : (c : ℕ) → IsScalar c → all_scalars (c ∷ []) ≡ true
    one c is = and_true _ _ is refl

always : (own rest : List ℕ) → GoesOn own rest → MayGoOn own rest
always own rest g = record { further = []; goes = subst (λ r. GoesOn own r) (sym (append-nil rest)) g }

pub not_passed : (front left : List ℕ) (d : DocAt) → all_scalars front ≡ true → run step start front ≡ Some d → StopsBefore d left → is_over d ≡ false → (is_over_there d ≡ false) ⊎ BeginsLabelPart left → HasPassed (encode_utf8_all front ++ left) → ⊥
not_passed front left d scalars e stops f either p =
    let within = above triple_limit (count d) f in
    ⊎_elim (λ (h : triple_limit < count d). omega (arith, within, h))
    (λ (h : ((triple_limit < count d + pending d.at) × AtDots p.own p.rest left) ⊎ GoesOn p.own p.rest).
    ⊎_elim
    (λ (h : (triple_limit < count d + pending d.at) × AtDots p.own p.rest left).
    ⊎_elim (λ (k : is_over_there d ≡ false). let a = above triple_limit (count d + pending d.at) k in let b = h.0 in omega (arith, a, b)) (λ (k : BeginsLabelPart left). p.settled (may_go p.own p.rest left h.1 k)) either)
    (λ (h : GoesOn p.own p.rest). p.settled (always p.own p.rest h)) h)
    (passes_tells MayGoOn front left d scalars e stops p)

-- What reading a text comes to says of the document.
use Rattle.std.proofs.Common.{◌≡◌, refl, ℕ, ◌+◌, ◌<◌, ◌≤◌, true, false, ◌==◌, List, [], ◌∷◌, ◌++◌, Option, Some, None, option_map, option_and_then, option_to_list, length, ◌⊎◌, inl, inr, ⊎_elim, sym, ◌∙◌, ap, subst, append_assoc, arith, length-append}
use Rattle.std.specs.Char.{encode_utf8, IsScalar}
use Rattle.std.specs.Str.{encode_utf8_all, all_scalars}
use Rattle.std.proofs.lemmas.List.{append-nil}
use Rattle.bye_terms.specs.Characters.{is_label_part}
use Rattle.bye_terms.specs.Terms.{Statement}
use Rattle.bye_terms.specs.declared.term.Term.{Term}
use Rattle.bye_terms.specs.declared.term.Term.TheVariants.{Blank}
use Rattle.bye_terms.proofs.Tests.{both_parts}
use Rattle.bye_lex.specs.Languages.{Viable}
use Rattle.bye_lex.specs.LabelSteps as label_steps
use Rattle.bye_lex.specs.Embedding.{enter}
use Rattle.bye_lex.specs.Stopping.{StopsAt, StopsAtEnd, LeavesOver}
use Rattle.bye_lex.specs.Utf8.{BeginsCharacter, NoCharacter, BeginsLabelPart}
use Rattle.bye_lex.specs.declared.label.LabelAt.{LabelAt}
use Rattle.bye_lex.specs.declared.label.LabelAt.TheVariants as labels
use Rattle.bye_lex.proofs.Branches.{heads, some_same, none_some, scalars_join, and_true, chosen, eqb_same, told, either_of}
use Rattle.bye_lex.proofs.Utf8Laws.{prefix_free, begins_none, none_after}
use Rattle.bye_ntriples.specs.Answers.{triple_limit, Passes, HasPassed, GoesOn, MayGoOn, MayBeFront, IsFault, IsGraph}
use Rattle.bye_ntriples.specs.DocSteps.{DocAt, start, line_ended, line_moved, step, final, held, pending, count, is_over, is_over_there}
use Rattle.bye_ntriples.specs.Documents.{NtText, NtDoc}
use Rattle.bye_ntriples.specs.Feeding.{Refuses}
use Rattle.bye_ntriples.specs.Lines.{is_line_end}
use Rattle.bye_ntriples.specs.LineSteps as line
use Rattle.bye_lex.specs.Running.{run}
use Rattle.bye_ntriples.specs.Triples.{triple_of}
use Rattle.bye_ntriples.specs.declared.fault.NtErr.TheVariants as faults
use Rattle.bye_ntriples.specs.declared.line.LineAt.{LineAt}
use Rattle.bye_ntriples.specs.declared.line.LineAt.TheVariants.{Begin, Subject, AfterSubject, Predicate, AfterPredicate, Object, Suffix, AfterObject, Ended, Comment}
use Rattle.bye_ntriples.specs.declared.line.ObjectAt.TheVariants as objects
use Rattle.bye_lex.proofs.Machines.{run_on, viable, not_viable, run_gives, run_takes}
use Rattle.bye_lex.proofs.LabelExact.{stopped_dots}
use Rattle.bye_ntriples.proofs.Tokens.{decided}
use Rattle.bye_ntriples.proofs.DocExact.{LeftDoc, GoodDoc, doc_machine, of_text, as_text, doc_may_end, doc_ends}
use Rattle.bye_ntriples.proofs.Passing.{dots_state, dot_state}
use Rattle.bye_ntriples.proofs.Counting.{StopsBefore, no_passes, not_passed, below, above}
use Rattle.bye_ntriples.proofs.Overflow.{whole_opens, front_opens, over_passes, waiting}
use Rattle.bye_ntriples.proofs.Completing.{end_shuts, step_passes}
use Rattle.bye_lex.proofs.Fronts.{Longer, at_char, back_scalars, none_empty, split}

-- fronts of documents by the machine
text_viable : (front : List ℕ) (d : DocAt) → run step start front ≡ Some d → Viable NtText front
text_viable front d e =
    let w = viable LeftDoc step GoodDoc doc_machine start d front tt e in
    record { more = w.more; scalars = w.scalars; value = w.value; whole = as_text (front ++ w.more) w.value w.whole }

text_stops : (front : List ℕ) → run step start front ≡ None → Viable NtText front → ⊥
text_stops front e w = not_viable LeftDoc step GoodDoc doc_machine start front tt e (record { more = w.more; scalars = w.scalars; value = w.value; whole = of_text (front ++ w.more) w.value w.whole })

-- a viable text is one on which the machine runs
text_runs : (front : List ℕ) → Viable NtText front → (d : DocAt) × (run step start front ≡ Some d)
text_runs front w = let n = run_gives LeftDoc step GoodDoc doc_machine start front w.more w.value tt (of_text (front ++ w.more) w.value w.whole) in (n.0, n.1)

-- what has passed whatever comes has passed
has_to_passes : (bytes : List ℕ) → HasPassed bytes → Passes bytes
has_to_passes bytes p = record {
  lines = p.lines;
  own = p.own;
  rest = p.rest;
  parts = p.parts;
  scalars = p.scalars;
  before = p.before;
  whole = p.whole;
  ended = p.ended;
  many = p.many;
  triple = p.triple;
  stated = p.stated;
  settled = λ g. p.settled (record { further = []; goes = subst (λ r. GoesOn p.own r) (sym (append-nil p.rest)) g });
}

many_refuses : (bytes : List ℕ) → ((more : List ℕ) → HasPassed (bytes ++ more)) → Refuses bytes faults.TooMany
many_refuses bytes h more = (has_to_passes (bytes ++ more) (h more), λ (m : MayBeFront (bytes ++ more)). m.counted (h more))

stops_before : (d : DocAt) (c : ℕ) (rest : List ℕ) → IsScalar c → step d c ≡ None → StopsBefore d (encode_utf8 c ++ rest)
stops_before d c rest is e b behind scalar k = let same = prefix_free c b rest behind is scalar k in ap (step d) (sym same.0) ∙ e

pub none_before : (d : DocAt) (left : List ℕ) → NoCharacter left → StopsBefore d left
none_before d left none c behind scalar e = absurd (none c behind scalar e)

-- a text may be the front of a document as far as the machine runs on it, and what is left begins a character
no_front : (front : List ℕ) (d : DocAt) (left : List ℕ) → all_scalars front ≡ true → run step start front ≡ Some d → StopsBefore d left → (BeginsCharacter left → ⊥) → ((c : ℕ) (rest : List ℕ) → IsScalar c → left ≡ encode_utf8 c ++ rest → step d c ≡ None) → MayBeFront (encode_utf8_all front ++ left) → ⊥
no_front front d left scalars e stops none dead m =
    ⊎_elim
    (λ (z : (z : List ℕ) × (m.front ≡ front ++ z) × (left ≡ encode_utf8_all z ++ m.left)). further z.0 z.1 z.2)
    (λ (z : Longer front m.front left m.left). begins_none m.left m.begins z.next (encode_utf8_all z.more ++ left) z.scalar (z.rest ∙ append_assoc (encode_utf8 z.next) (encode_utf8_all z.more) left))
    (split front m.front left m.left scalars m.scalars m.parts)
  where
    further : (z : List ℕ) → m.front ≡ front ++ z → left ≡ encode_utf8_all z ++ m.left → ⊥
    further [] a b = none (subst BeginsCharacter (sym b) m.begins)
    further (c ∷ z) a b =
        let is = both_parts _ _ (back_scalars front (c ∷ z) (ap all_scalars (sym a) ∙ m.scalars)) in
        let stop = dead c (encode_utf8_all z ++ m.left) is.0 (b ∙ append_assoc (encode_utf8 c) (encode_utf8_all z) m.left) in
        let gone : run step start m.front ≡ None = ap (run step start) a ∙ run_on step start d front (c ∷ z) e ∙ ap (option_and_then (λ n. run step n z)) stop in
        none_some (sym gone ∙ (text_runs m.front m.viable).1)

-- the machine stops at a character
pub stop_refuses : (front : List ℕ) (c : ℕ) (rest : List ℕ) (d : DocAt) → all_scalars front ≡ true → IsScalar c → run step start front ≡ Some d → step d c ≡ None → is_over_there d ≡ false → Refuses (encode_utf8_all (front ++ c ∷ []) ++ rest) (faults.Syntax (length (encode_utf8_all front)))
stop_refuses front c rest d scalars is e stop f more =
    let left = encode_utf8 c ++ (rest ++ more) in
    let bytes : (encode_utf8_all (front ++ c ∷ []) ++ rest) ++ more ≡ encode_utf8_all front ++ left = append_assoc (encode_utf8_all (front ++ c ∷ [])) rest more ∙ at_char front c (rest ++ more) in
    let dead : run step start (front ++ c ∷ []) ≡ None = run_on step start d front (c ∷ []) e ∙ ap (option_and_then (λ n. Some n)) stop in
    let at : StopsAt NtText ((encode_utf8_all (front ++ c ∷ []) ++ rest) ++ more) (length (encode_utf8_all front)) =
    record { front = front; next = c; rest = rest ++ more; parts = append_assoc (encode_utf8_all (front ++ c ∷ [])) rest more; scalars = scalars_join front (c ∷ []) scalars (and_true _ _ is refl); before = text_viable front d e; after = text_stops (front ++ c ∷ []) dead; at = refl } in
    let stops = stops_before d c (rest ++ more) is stop in (
      (inl at, λ p. no_passes front left d scalars e stops f (subst Passes bytes p)),
      λ (m : MayBeFront ((encode_utf8_all (front ++ c ∷ []) ++ rest) ++ more)). no_front front d left scalars e stops (λ b. begins_none left b c (rest ++ more) is refl) stops (subst MayBeFront bytes m),
    )

-- the machine stops where a triple waits
shut_of_stop : (d : DocAt) (c : ℕ) → step d c ≡ None → 0 < pending d.at → label_steps.goes_on c ≡ false
shut_of_stop d c e some =
    ⊎_elim
    (λ (k : (is_line_end c ≡ true) × (option_map (line_ended d.done) (line.final d.at) ≡ None)). end_shuts c k.0)
    (λ (k : (is_line_end c ≡ false) × (option_map (line_moved d.done) (line.step d.at c) ≡ None)). go k.1)
    (chosen _ _ _ _ e)
  where
    line_none : (o : Option LineAt) → option_map (line_moved d.done) o ≡ None → o ≡ None
    line_none None e = refl
    line_none (Some n) e = none_some (sym e)

    at_dot : (s : Term) (p label : List ℕ) → line.step (dot_state s p label) c ≡ None → label_steps.goes_on c ≡ false
    at_dot s p label e =
        ⊎_elim (λ (f : label_steps.step (labels.Dotted label (46 ∷ [])) c ≡ None). stopped_dots label (46 ∷ []) c f)
        (λ (f : (k : LabelAt) × (label_steps.step (labels.Dotted label (46 ∷ [])) c ≡ Some k)). none_some (sym e ∙ ap (λ o. line.settle_dot s p label c o) f.1))
        (told (label_steps.step (labels.Dotted label (46 ∷ [])) c))

    at_dots : (s : Term) (p label dots : List ℕ) → line.step (dots_state s p label dots) c ≡ None → label_steps.goes_on c ≡ false
    at_dots s p label dots e =
        ⊎_elim (λ (f : label_steps.step (labels.Dotted label dots) c ≡ None). stopped_dots label dots c f)
        (λ (f : (k : LabelAt) × (label_steps.step (labels.Dotted label dots) c ≡ Some k)). none_some (sym e ∙ ap (λ o. enter (λ n. Object s p (objects.Label n)) (λ o c. line.after_object (triple_of s p (Blank o)) c) None c o) f.1))
        (told (label_steps.step (labels.Dotted label dots) c))

    go : option_map (line_moved d.done) (line.step d.at c) ≡ None → label_steps.goes_on c ≡ false
    go k =
        let stop = line_none (line.step d.at c) k in
        ⊎_elim
        (λ (h : (s : Term) × (p : List ℕ) × (text : List ℕ) × (d.at ≡ dot_state s p text)). at_dot h.0 h.1 h.2 (ap (λ n. line.step n c) (sym h.3) ∙ stop))
        (λ (h : (s : Term) × (p : List ℕ) × (label : List ℕ) × (dots : List ℕ) × (d.at ≡ dots_state s p label dots)). at_dots h.0 h.1 h.2 h.3 (ap (λ n. line.step n c) (sym h.4) ∙ stop))
        (waiting d.at some)

pub over_refuses : (front : List ℕ) (c : ℕ) (rest : List ℕ) (d : DocAt) → all_scalars front ≡ true → IsScalar c → run step start front ≡ Some d → step d c ≡ None → is_over d ≡ false → is_over_there d ≡ true → Refuses (encode_utf8_all (front ++ c ∷ []) ++ rest) faults.TooMany
over_refuses front c rest d scalars is e stop within over =
    let w = above triple_limit (count d) within in
    let o = below triple_limit (count d + pending d.at) over in
    let some : 0 < pending d.at = omega (arith, w, o) in
    let shut = shut_of_stop d c stop some in
    many_refuses (encode_utf8_all (front ++ c ∷ []) ++ rest) (λ more.
    let left = encode_utf8 c ++ (rest ++ more) in
    let bytes : encode_utf8_all front ++ left ≡ (encode_utf8_all (front ++ c ∷ []) ++ rest) ++ more = sym (append_assoc (encode_utf8_all (front ++ c ∷ [])) rest more ∙ at_char front c (rest ++ more)) in
    subst HasPassed bytes
    (over_passes MayGoOn (λ further. Unit {0}) front left d front_opens scalars e w o
    (λ further any b behind scalar k. let same = prefix_free c b ((rest ++ more) ++ further) behind is scalar (sym (append_assoc (encode_utf8 c) (rest ++ more) further) ∙ k) in ap label_steps.goes_on (sym same.0) ∙ shut)))

-- a step completes a triple too many
pub step_refuses : (front : List ℕ) (c : ℕ) (rest : List ℕ) (d n : DocAt) → all_scalars front ≡ true → IsScalar c → run step start front ≡ Some d → step d c ≡ Some n → is_over d ≡ false → is_over n ≡ true → Refuses (encode_utf8_all (front ++ c ∷ []) ++ rest) faults.TooMany
step_refuses front c rest d n scalars is e s within over =
    many_refuses (encode_utf8_all (front ++ c ∷ []) ++ rest) (λ more.
    subst HasPassed (sym (append_assoc (encode_utf8_all (front ++ c ∷ [])) rest more))
    (step_passes front (rest ++ more) d n c scalars is e s (above triple_limit (count d) within) (below triple_limit (count n) over)))

-- what is left is no character
pub left_refuses : (front left : List ℕ) (d : DocAt) → all_scalars front ≡ true → run step start front ≡ Some d → NoCharacter left → (BeginsCharacter left → ⊥) → 0 < length left → is_over_there d ≡ false → Refuses (encode_utf8_all front ++ left) (faults.NotUtf8 (length (encode_utf8_all front)))
left_refuses front left d scalars e none not some f more =
    let all = left ++ more in
    let bytes = append_assoc (encode_utf8_all front) left more in
    let none_all = none_after left more none not in
    let stops = none_before d all none_all in
    let n = length-append left more in
    let over : LeavesOver NtText ((encode_utf8_all front ++ left) ++ more) (length (encode_utf8_all front)) =
    record { front = front; left = all; parts = bytes; scalars = scalars; viable = text_viable front d e; some = omega (arith, n, some); none = none_all; at = refl } in (
      (over, λ p. no_passes front all d scalars e stops f (subst Passes bytes p)),
      λ (m : MayBeFront ((encode_utf8_all front ++ left) ++ more)). no_front front d all scalars e stops (λ b. not (begins_front left more b)) stops (subst MayBeFront bytes m),
    )
  where
    begins_front : (left more : List ℕ) → BeginsCharacter (left ++ more) → BeginsCharacter left
    begins_front left [] b = record { char = b.char; scalar = b.scalar; next = b.next; more = b.more; is = b.is ∙ ap (λ t. t ++ b.next ∷ b.more) (append-nil left) }
    begins_front left (x ∷ more) b = record { char = b.char; scalar = b.scalar; next = x; more = more ++ b.next ∷ b.more; is = b.is ∙ append_assoc left (x ∷ more) (b.next ∷ b.more) }

pub left_over_refuses : (front left : List ℕ) (d : DocAt) → all_scalars front ≡ true → run step start front ≡ Some d → NoCharacter left → (BeginsCharacter left → ⊥) → is_over d ≡ false → is_over_there d ≡ true → Refuses (encode_utf8_all front ++ left) faults.TooMany
left_over_refuses front left d scalars e none not within over =
    many_refuses (encode_utf8_all front ++ left) (λ more.
    subst HasPassed (sym (append_assoc (encode_utf8_all front) left more))
    (over_passes MayGoOn (λ further. Unit {0}) front (left ++ more) d front_opens scalars e (above triple_limit (count d) within) (below triple_limit (count d + pending d.at) over)
    (λ further any c behind scalar k. absurd (none_after left (more ++ further) none not c behind scalar (sym (append_assoc left more further) ∙ k)))))

-- what is left begins a character, but none that goes on in a label
fronts : (a b x y : List ℕ) → a ++ x ≡ b ++ y → ((z : List ℕ) × (b ≡ a ++ z)) ⊎ ((z : List ℕ) × (a ≡ b ++ z))
fronts [] b x y e = inl (b, refl)
fronts (c ∷ a) [] x y e = inr (c ∷ a, refl)
fronts (c ∷ a) (d ∷ b) x y e =
    let k = heads c d (a ++ x) (b ++ y) e in
    ⊎_elim (λ (h : (z : List ℕ) × (b ≡ a ++ z)). inl (h.0, λ i. sym k.0 i ∷ h.1 i)) (λ (h : (z : List ℕ) × (a ≡ b ++ z)). inr (h.0, λ i. k.0 i ∷ h.1 i)) (fronts a b x y k.1)

label_part : (left further behind : List ℕ) (c : ℕ) → NoCharacter left → IsScalar c → left ++ further ≡ encode_utf8 c ++ behind → is_label_part c ≡ true → BeginsLabelPart left
label_part left further behind c none scalar e is =
    ⊎_elim
    (λ (h : (z : List ℕ) × (encode_utf8 c ≡ left ++ z)). whole h.0 h.1)
    (λ (h : (z : List ℕ) × (left ≡ encode_utf8 c ++ z)). absurd (none c h.0 scalar h.1))
    (fronts left (encode_utf8 c) further behind e)
  where
    whole : (z : List ℕ) → encode_utf8 c ≡ left ++ z → BeginsLabelPart left
    whole [] k = absurd (none c [] scalar (sym (k ∙ append-nil left) ∙ sym (append-nil (encode_utf8 c))))
    whole (x ∷ z) k = record { begins = record { char = c; scalar = scalar; next = x; more = z; is = k }; part = is }

a_part : BeginsLabelPart []
unfolding encode_utf8
a_part = record { begins = record { char = 97; scalar = refl; next = 97; more = []; is = refl }; part = refl }

dot_left_over : (left further behind : List ℕ) → NoCharacter left → left ++ further ≡ encode_utf8 46 ++ behind → BeginsLabelPart left
unfolding encode_utf8
dot_left_over [] further behind none e = a_part
dot_left_over (x ∷ left) further behind none e = absurd (none 46 left refl (ap (λ x. x ∷ left) (heads x 46 (left ++ further) behind e).0))

pub label_refuses : (front left : List ℕ) (d : DocAt) → all_scalars front ≡ true → run step start front ≡ Some d → NoCharacter left → (BeginsLabelPart left → ⊥) → is_over d ≡ false → is_over_there d ≡ true → Refuses (encode_utf8_all front ++ left) faults.TooMany
label_refuses front left d scalars e none not within over =
    many_refuses (encode_utf8_all front ++ left) (λ more.
    subst HasPassed (sym (append_assoc (encode_utf8_all front) left more))
    (over_passes MayGoOn (λ further. Unit {0}) front (left ++ more) d front_opens scalars e (above triple_limit (count d) within) (below triple_limit (count d + pending d.at) over)
    (λ further any c behind scalar k. shut (more ++ further) c behind scalar (sym (append_assoc left more further) ∙ k))))
  where
    shut : (further : List ℕ) (c : ℕ) (behind : List ℕ) → IsScalar c → left ++ further ≡ encode_utf8 c ++ behind → label_steps.goes_on c ≡ false
    shut further c behind scalar k =
        ⊎_elim
        (λ (f : label_steps.goes_on c ≡ true).
        ⊎_elim
        (λ (b : is_label_part c ≡ true). absurd (not (label_part left further behind c none scalar k b)))
        (λ (b : (c == 46) ≡ true). absurd (not (dot_left_over left further behind none (k ∙ ap (λ c. encode_utf8 c ++ behind) (eqb_same c 46 b)))))
        (either_of (is_label_part c) (c == 46) f))
        (λ (f : label_steps.goes_on c ≡ false). f)
        (decided (label_steps.goes_on c))

-- the bytes may be the front of a document
pub goes_further : (front left : List ℕ) (d : DocAt) → all_scalars front ≡ true → run step start front ≡ Some d → BeginsCharacter left → is_over d ≡ false → (is_over_there d ≡ false) ⊎ BeginsLabelPart left → MayBeFront (encode_utf8_all front ++ left)
goes_further front left d scalars e begins within either = record {
  front = front;
  left = left;
  parts = refl;
  scalars = scalars;
  viable = text_viable front d e;
  begins = begins;
  counted = not_passed front left d scalars e (none_before d left (begins_none left begins)) within either;
}

-- the end of the document
last_count : (s : LineAt) (fact : Option Statement) → line.final s ≡ Some fact → length (option_to_list fact) ≤ held s + pending s
last_count Begin fact e = let z = ap (λ f. length (option_to_list f)) (some_same e) in omega (arith, z)
last_count (Subject q) fact e = none_some e
last_count (AfterSubject s) fact e = none_some e
last_count (Predicate s q) fact e = none_some e
last_count (AfterPredicate s p) fact e = none_some e
last_count (Object s p (objects.Iri q)) fact e = none_some e
last_count (Object s p (objects.Label m)) fact e = none_some e
last_count (Object s p (objects.Dot label)) fact e = let z = ap (λ f. length (option_to_list f)) (some_same e) in omega (arith, z)
last_count (Object s p (objects.String q)) fact e = none_some e
last_count (Suffix s p lexical q) fact e = none_some e
last_count (AfterObject stated) fact e = none_some e
last_count (Ended stated) fact e = let z = ap (λ f. length (option_to_list f)) (some_same e) in omega (arith, z)
last_count (Comment None) fact e = let z = ap (λ f. length (option_to_list f)) (some_same e) in omega (arith, z)
last_count (Comment (Some v)) fact e = let z = ap (λ f. length (option_to_list f)) (some_same e) in omega (arith, z)

whole_is : (front : List ℕ) → encode_utf8_all front ++ [] ≡ encode_utf8_all front
whole_is front = append-nil (encode_utf8_all front)

pub end_reads : (front : List ℕ) (d : DocAt) (triples : List Statement) → all_scalars front ≡ true → run step start front ≡ Some d → is_over_there d ≡ false → final d ≡ Some triples → IsGraph (encode_utf8_all front ++ []) triples
end_reads front d triples scalars e f last =
    let doc : NtDoc (encode_utf8_all front ++ []) triples =
    record { text = front; scalars = scalars; encoded = whole_is front; lines = subst (λ t. NtText t triples) (append-nil front) (as_text (front ++ []) triples (run_takes LeftDoc step GoodDoc doc_machine start d front [] triples tt e (doc_may_end d triples last))) } in
    record { doc = doc; within = within }
  where
    within : length triples ≤ triple_limit
    within =
        let k = final_is (line.final d.at) last in
        let w = above triple_limit (count d + pending d.at) f in
        let c = last_count d.at k.0 k.1 in
        let l = length-append d.done (option_to_list k.0) in
        let z = ap length k.2 in
        omega (arith, w, c, l, z)
      where
        final_is : (o : Option (Option Statement)) → option_map (λ fact. d.done ++ option_to_list fact) o ≡ Some triples → (fact : Option Statement) × (o ≡ Some fact) × (d.done ++ option_to_list fact ≡ triples)
        final_is None e = none_some e
        final_is (Some fact) e = (fact, refl, some_same e)

pub end_stops : (front : List ℕ) (d : DocAt) (place : ℕ) → all_scalars front ≡ true → run step start front ≡ Some d → is_over_there d ≡ false → final d ≡ None → place ≡ length (encode_utf8_all front) → IsFault (encode_utf8_all front ++ []) (faults.Syntax place)
end_stops front d place scalars e f last at =
    let none : (triples : List Statement) → NtText front triples → ⊥ =
    λ triples h. let n = run_gives LeftDoc step GoodDoc doc_machine start front [] triples tt (subst (λ t. LeftDoc start t triples) (sym (append-nil front)) (of_text front triples h)) in
    none_some (sym last ∙ ap final (some_same (sym e ∙ n.1)) ∙ doc_ends n.0 triples n.2) in
    let end : StopsAtEnd NtText (encode_utf8_all front ++ []) place =
    record { text = front; scalars = scalars; encoded = whole_is front; viable = text_viable front d e; none = none; at = at ∙ ap length (sym (whole_is front)) } in
    (inr end, no_passes front [] d scalars e (none_before d [] none_empty) f)

pub end_leaves : (front left : List ℕ) (d : DocAt) (place : ℕ) → all_scalars front ≡ true → run step start front ≡ Some d → is_over_there d ≡ false → NoCharacter left → 0 < length left → place ≡ length (encode_utf8_all front) → IsFault (encode_utf8_all front ++ left) (faults.NotUtf8 place)
end_leaves front left d place scalars e f none some at =
    (record { front = front; left = left; parts = refl; scalars = scalars; viable = text_viable front d e; some = some; none = none; at = at }, no_passes front left d scalars e (none_before d left none) f)

pub end_passes : (front left : List ℕ) (d : DocAt) → all_scalars front ≡ true → run step start front ≡ Some d → is_over d ≡ false → is_over_there d ≡ true → NoCharacter left → Passes (encode_utf8_all front ++ left)
end_passes front left d scalars e within over none =
    over_passes GoesOn (λ further. further ≡ []) front left d whole_opens scalars e (above triple_limit (count d) within) (below triple_limit (count d + pending d.at) over)
    (λ further nil c behind scalar k. absurd (none c behind scalar (sym (append-nil left) ∙ ap (λ f. left ++ f) (sym nil) ∙ k)))

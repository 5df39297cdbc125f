-- Where a reader says that a document has a triple too many, it has.
use Rattle.std.proofs.Common.{◌≡◌, refl, ℕ, ◌+◌, ◌<◌, ◌≤◌, Bool, true, false, cond, List, [], ◌∷◌, ◌++◌, Option, Some, None, option_and_then, length, ◌⊎◌, inl, inr, ⊎_elim, sym, ◌∙◌, ap, subst, append_assoc, arith}
use Rattle.std.specs.Char.{encode_utf8, IsScalar}
use Rattle.std.specs.Str.{encode_utf8_all, all_scalars}
use Rattle.std.proofs.lemmas.List.{append-nil}
use Rattle.std.proofs.lemmas.Str.{encodes-append}
use Rattle.bye_terms.specs.Terms.{Statement}
use Rattle.bye_terms.specs.declared.term.Term.{Term}
use Rattle.bye_terms.specs.declared.term.Term.TheVariants.{Blank}
use Rattle.bye_lex.specs.LabelSteps as label_steps
use Rattle.bye_lex.specs.declared.label.LabelAt.{LabelAt}
use Rattle.bye_lex.specs.declared.label.LabelAt.TheVariants as labels
use Rattle.bye_lex.proofs.Branches.{heads, some_same, none_some}
use Rattle.bye_lex.proofs.LabelExact.{Left, label_exact, gone_on}
use Rattle.bye_terms.specs.Names.{is_label_rest}
use Rattle.bye_ntriples.specs.Answers.{triple_limit, UpToDot, GoesOn, MayGoOn, AreEnded, PassesWhere}
use Rattle.bye_ntriples.specs.DocSteps.{DocAt, start, line_ended, line_moved, step, held, pending, label_pending, count}
use Rattle.bye_ntriples.specs.Documents.{NtText}
use Rattle.bye_ntriples.specs.Lines.{is_space, is_line_end}
use Rattle.bye_ntriples.specs.LineSteps as line
use Rattle.bye_lex.specs.Running.{run}
use Rattle.bye_ntriples.specs.Triples.{triple_of}
use Rattle.bye_ntriples.specs.declared.line.LineAt.{LineAt}
use Rattle.bye_ntriples.specs.declared.line.LineAt.TheVariants.{Begin, Subject, AfterSubject, Predicate, AfterPredicate, Object, Suffix, AfterObject, Ended, Comment}
use Rattle.bye_ntriples.specs.declared.line.ObjectAt.TheVariants as objects
use Rattle.bye_ntriples.proofs.LineMeaning.{AfterObjectLabel, LeftTriple, Good}
use Rattle.bye_lex.proofs.Machines.{run_on, run_step, bind_some, run_good, run_takes}
use Rattle.bye_ntriples.proofs.LineReached.{is_blank, is_dots, is_dotted, Wanted, reached, into_subject, begun}
use Rattle.bye_ntriples.proofs.LineEnds.{triple_ends, dot_left}
use Rattle.bye_ntriples.proofs.DocExact.{LeftDoc, GoodDoc, doc_machine, as_text, doc_may_end, step_is}
use Rattle.bye_ntriples.proofs.Passing.{Nothing, up_gives, up_takes, AreDots, dots_state, dot_state}
use Rattle.bye_lex.proofs.Fronts.{Longer, back_scalars, front_scalars, split}

-- dots after the one that may end a triple
pub record Dots (own : List ℕ) : Type 0 where
  pub before : List ℕ
  pub dots : List ℕ
  pub parts : own ≡ before ++ dots
  pub are : AreDots dots
  pub subject : Term
  pub predicate : List ℕ
  pub label : List ℕ
  pub leads : run line.step Begin before ≡ Some (dot_state subject predicate label)

-- the lines that a reader has read, and where they led
pub record Trace (front : List ℕ) (d : DocAt) : Type 0 where
  pub lines : List ℕ
  pub own : List ℕ
  pub parts : front ≡ lines ++ own
  pub ended : AreEnded lines
  pub whole : run step start front ≡ Some d
  pub to_line : run step start lines ≡ Some (line_moved d.done Begin)
  pub in_line : run line.step Begin own ≡ Some d.at
  pub dotted : is_dots d.at ≡ true → Dots own

more_dots : (dots : List ℕ) (c : ℕ) → AreDots dots → c ≡ 46 → AreDots (dots ++ c ∷ [])
more_dots [] c are e = (e, tt)
more_dots (d ∷ dots) c (h, are) e = (h, more_dots dots c are e)

clash : ◌≡◌ {A = Bool} true false → ⊥
clash e = cc

never : (P : Type 0) (n : LineAt) → is_dots n ≡ false → is_dots n ≡ true → P
never P n f e = absurd (clash (sym e ∙ f))

-- a step within a line, and the dots that it leads to
blank_dots : (s n : LineAt) (c : ℕ) → is_blank s ≡ true → line.step s c ≡ Some n → is_dots n ≡ false
blank_dots Begin n c b e =
    ⊎_elim (λ (k : (is_space c ≡ true) × (n ≡ Begin)). ap is_dots k.1)
    (λ (k : ((c ≡ 35) × (n ≡ Comment None)) ⊎ (line.subject c ≡ Some n)).
    ⊎_elim (λ (k : (c ≡ 35) × (n ≡ Comment None)). ap is_dots k.1)
    (λ (k : line.subject c ≡ Some n).
    ⊎_elim (λ (f : is_dots n ≡ false). f) (λ (f : ⊥). absurd f) (into_subject c ⊥ (λ n. Unit {0}) (λ v e. tt) n k).1.1.0) k)
    (begun n c e)
blank_dots (Subject q) n c b e = cc
blank_dots (AfterSubject s) n c b e = cc
blank_dots (Predicate s q) n c b e = cc
blank_dots (AfterPredicate s p) n c b e = cc
blank_dots (Object s p q) n c b e = cc
blank_dots (Suffix s p lexical q) n c b e = cc
blank_dots (AfterObject stated) n c b e = cc
blank_dots (Ended stated) n c b e = cc
blank_dots (Comment None) n c b e = go (is_line_end c) e
  where
    go : (b : Bool) → cond b None (Some (Comment None)) ≡ Some n → is_dots n ≡ false
    go true e = none_some e
    go false e = ap is_dots (sym (some_same e))
blank_dots (Comment (Some v)) n c b e = cc

dots_of : (own : List ℕ) (s n : LineAt) (c : ℕ) → Good s → run line.step Begin own ≡ Some s → (is_dots s ≡ true → Dots own) → line.step s c ≡ Some n → is_dots n ≡ true → Dots (own ++ c ∷ [])
dots_of own s n c g r before e d = go (is_blank s) refl
  where
    wanted : Wanted c (Dots (own ++ c ∷ [])) (λ n. Unit {0}) (λ v e. tt) s
    wanted = record {
      dots = λ d k. let q = before d in
          let r : Dots (own ++ c ∷ []) = record { before = q.before; dots = q.dots ++ c ∷ []; parts = ap (λ t. t ++ c ∷ []) q.parts ∙ append_assoc q.before q.dots (c ∷ []); are = more_dots q.dots c q.are k; subject = q.subject; predicate = q.predicate; label = q.label; leads = q.leads } in r;
      dot = λ t p label is k. let z : Dots (own ++ c ∷ []) = record { before = own; dots = c ∷ []; parts = refl; are = (k, tt); subject = t; predicate = p; label = label; leads = r ∙ ap Some is } in z;
      settled = λ t p label is k. (tt, tt);
      held = λ v h. (tt, tt);
    }

    go : (b : Bool) → is_blank s ≡ b → Dots (own ++ c ∷ [])
    go true b = never (Dots (own ++ c ∷ [])) n (blank_dots s n c b e) d
    go false b =
        ⊎_elim (λ (f : is_dots n ≡ false). never (Dots (own ++ c ∷ [])) n f d) (λ (q : Dots (own ++ c ∷ [])). q)
        (reached c (Dots (own ++ c ∷ [])) (λ n. Unit {0}) (λ v e. tt) s n g b wanted e).1.1.0

trace_step : (front : List ℕ) (d n : DocAt) (c : ℕ) → Trace front d → step d c ≡ Some n → Trace (front ++ c ∷ []) n
trace_step front d n c t e =
    let whole : run step start (front ++ c ∷ []) ≡ Some n = run_step step start d front c t.whole ∙ e in
    ⊎_elim
    (λ (k : (is_line_end c ≡ true) × ((fact : Option Statement) × (line.final d.at ≡ Some fact) × (line_ended d.done fact ≡ n))).
    let done : line_moved n.done Begin ≡ n = ap (λ (n : DocAt). line_moved n.done Begin) (sym k.1.2) ∙ k.1.2 in
    let r : Trace (front ++ c ∷ []) n =
    record {
      lines = front ++ c ∷ [];
      own = [];
      parts = sym (append-nil (front ++ c ∷ []));
      ended = inr (front, c, refl, k.0);
      whole = whole;
      to_line = whole ∙ ap Some (sym done);
      in_line = ap (λ (n : DocAt). Some n.at) k.1.2;
      dotted = λ d. absurd (clash (sym d ∙ ap (λ (n : DocAt). is_dots n.at) (sym k.1.2)));
    } in r)
    (λ (k : (is_line_end c ≡ false) × ((m : LineAt) × (line.step d.at c ≡ Some m) × (line_moved d.done m ≡ n))).
    let at : k.1.0 ≡ n.at = ap (λ (n : DocAt). n.at) k.1.2 in
    let done : d.done ≡ n.done = ap (λ (n : DocAt). n.done) k.1.2 in
    let good = run_good LeftDoc step GoodDoc doc_machine start d front tt t.whole in
    let r : Trace (front ++ c ∷ []) n =
    record {
      lines = t.lines;
      own = t.own ++ c ∷ [];
      parts = ap (λ t. t ++ c ∷ []) t.parts ∙ append_assoc t.lines t.own (c ∷ []);
      ended = t.ended;
      whole = whole;
      to_line = t.to_line ∙ ap (λ done. Some (line_moved done Begin)) done;
      in_line = run_step line.step Begin d.at t.own c t.in_line ∙ k.1.1 ∙ ap Some at;
      dotted = λ q. dots_of t.own d.at k.1.0 c good t.in_line t.dotted k.1.1 (ap is_dots at ∙ q);
    } in r)
    (step_is d n c e)

trace_on : (front text : List ℕ) (d n : DocAt) → Trace front d → run step d text ≡ Some n → Trace (front ++ text) n
trace_on front [] d n t e = subst (λ f. Trace f n) (sym (append-nil front)) (subst (λ (n : DocAt). Trace front n) (some_same e) t)
trace_on front (c ∷ cs) d n t e =
    let m = bind_some (step d c) (λ n. run step n cs) n e in
    subst (λ f. Trace f n) (append_assoc front (c ∷ []) cs) (trace_on (front ++ c ∷ []) cs m.0 n (trace_step front d m.0 c t m.1) m.2)

pub traced : (front : List ℕ) (d : DocAt) → run step start front ≡ Some d → Trace front d
traced front d e = trace_on [] front start d (record { lines = []; own = []; parts = refl; ended = inl refl; whole = refl; to_line = refl; in_line = refl; dotted = λ d. absurd (clash (sym d)) }) e

-- the lines before are a document
pub lines_are : (front : List ℕ) (d : DocAt) (t : Trace front d) → NtText t.lines d.done
lines_are front d t =
    let end = doc_may_end (line_moved d.done Begin) d.done (ap Some (append-nil d.done)) in
    subst (λ l. NtText l d.done) (append-nil t.lines) (as_text (t.lines ++ []) d.done (run_takes LeftDoc step GoodDoc doc_machine start (line_moved d.done Begin) t.lines [] d.done tt t.to_line end))

-- what follows goes on in the label
dot_goes : (s : Term) (p label : List ℕ) (c : ℕ) (t own value rest : List ℕ) (v : Statement) → Left (labels.In label) own value → AfterObjectLabel Nothing s p value rest v → 46 ∷ c ∷ t ≡ own ++ rest → label_steps.goes_on c ≡ true
dot_goes s p label c t [] value rest v w k e = absurd (none (subst (λ r. AfterObjectLabel Nothing s p value r v) (sym e) k))
  where
    none : AfterObjectLabel Nothing s p value (46 ∷ c ∷ t) v → ⊥
    none (inl k) = let z = k.0 in cc
    none (inr k) = let z : c ∷ t ≡ [] = (heads 46 46 (c ∷ t) k.rest k.spelled).1 ∙ k.end in cc
dot_goes s p label c t (d ∷ []) value rest v w k e = let z : is_label_rest false (46 ∷ []) ≡ true = subst (λ d. is_label_rest false (d ∷ []) ≡ true) (sym (heads 46 d (c ∷ t) rest e).0) w.1 in cc
dot_goes s p label c t (d ∷ b ∷ own) value rest v w k e =
    let h = heads 46 d (c ∷ t) (b ∷ own ++ rest) e in
    let g = heads c b t (own ++ rest) h.1 in
    let w1 : Left (labels.In label) (46 ∷ c ∷ own) value = subst (λ b. Left (labels.In label) (46 ∷ b ∷ own) value) (sym g.0) (subst (λ d. Left (labels.In label) (d ∷ b ∷ own) value) (sym h.0) w) in
    let one = label_exact.forth (labels.In label) 46 (c ∷ own) value w1 in
    let n = label_exact.forth (labels.Dotted label (46 ∷ [])) c own value (subst (λ n. Left n (c ∷ own) value) (sym (some_same one.1)) one.2) in
    gone_on label (46 ∷ []) c n.0 n.1

dots_go : (label dots : List ℕ) (c : ℕ) (t own value rest : List ℕ) → Left (labels.Dotted label dots) own value → c ∷ t ≡ own ++ rest → label_steps.goes_on c ≡ true
dots_go label dots c t [] value rest w e = let z = w.1 in cc
dots_go label dots c t (d ∷ own) value rest w e =
    let g = heads c d t (own ++ rest) e in
    let n = label_exact.forth (labels.Dotted label dots) d own value w in
    ap label_steps.goes_on g.0 ∙ gone_on label dots d n.0 n.1

-- the states at dots
abbrev AtDot : LineAt → Type 0
AtDot n = (s : Term) × (p : List ℕ) × (label : List ℕ) × ((n ≡ dot_state s p label) ⊎ ((dots : List ℕ) × (n ≡ dots_state s p label dots)))

at_goes : (n : LineAt) (c : ℕ) (t : List ℕ) (v : Statement) → AtDot n → LeftTriple Nothing n (c ∷ t) v → label_steps.goes_on c ≡ true
at_goes n c t v (s, p, label, inl e) h =
    let k : LeftTriple Nothing (dot_state s p label) (c ∷ t) v = subst (λ n. LeftTriple Nothing n (c ∷ t) v) e h in dot_goes s p label c t k.own k.value k.rest v k.is k.after k.spelled
at_goes n c t v (s, p, label, inr e) h =
    let k : LeftTriple Nothing (dots_state s p label e.0) (c ∷ t) v = subst (λ n. LeftTriple Nothing n (c ∷ t) v) e.1 h in dots_go label e.0 c t k.own k.value k.rest k.is k.spelled

-- after dots one is at dots
dot_step : (n : LineAt) → AtDot n → (m : LineAt) × (line.step n 46 ≡ Some m) × ((s : Term) × (p : List ℕ) × (label : List ℕ) × (dots : List ℕ) × (m ≡ dots_state s p label dots))
dot_step n (s, p, label, inl e) = (dots_state s p label (46 ∷ 46 ∷ []), ap (λ n. line.step n 46) e, (s, p, label, 46 ∷ 46 ∷ [], refl))
dot_step n (s, p, label, inr e) = (dots_state s p label (e.0 ++ 46 ∷ []), ap (λ n. line.step n 46) e.1, (s, p, label, e.0 ++ 46 ∷ [], refl))

dots_run : (n : LineAt) (dots : List ℕ) → AtDot n → AreDots dots → (m : LineAt) × (run line.step n dots ≡ Some m) × AtDot m
dots_run n [] at are = (n, refl, at)
dots_run n (c ∷ dots) at (h, are) =
    let m = dot_step n at in
    let k = dots_run m.0 dots (m.2.0, m.2.1, m.2.2, inr (m.2.3, m.2.4)) are in
    (k.0, ap (λ c. option_and_then (λ n. run line.step n dots) (line.step n c)) h ∙ ap (option_and_then (λ n. run line.step n dots)) m.1 ∙ k.1, k.2)

at_good : (n : LineAt) → AtDot n → Good n
at_good n (s, p, label, inl e) = subst Good (sym e) tt
at_good n (s, p, label, inr e) = subst Good (sym e.1) tt

-- no triple ends at two dots
no_two : (n : LineAt) (v : Statement) → AtDot n → LeftTriple Nothing n (46 ∷ []) v → ⊥
no_two n v at h =
    let m = dot_step n at in
    let k = up_gives n (46 ∷ []) [] v (at_good n at) h in
    let same : k.0 ≡ m.0 = some_same (sym k.1 ∙ ap (option_and_then (λ n. Some n)) m.1) in
    let last : line.final (dots_state m.2.0 m.2.1 m.2.2 m.2.3) ≡ Some (Some v) = ap line.final (sym (same ∙ m.2.4)) ∙ triple_ends Nothing k.0 v k.2.1 in
    none_some last

dots_front : (a b : List ℕ) → AreDots (a ++ b) → AreDots a
dots_front [] b h = tt
dots_front (c ∷ a) b (h, all) = (h, dots_front a b all)

-- where a triple ends at a dot within a text, and the label goes on, it goes on in what is left after the dots
pub record Pending (front : List ℕ) (d : DocAt) : Type 0 where
  pub lines : List ℕ
  pub own : List ℕ
  pub dots : List ℕ
  pub parts : front ≡ lines ++ own ++ dots
  pub ended : AreEnded lines
  pub before : NtText lines d.done
  pub are : AreDots dots
  pub subject : Term
  pub predicate : List ℕ
  pub label : List ℕ
  pub leads : run line.step Begin own ≡ Some (dot_state subject predicate label)
  pub here : run line.step (dot_state subject predicate label) dots ≡ Some d.at

pub goes_where : (front left : List ℕ) (d : DocAt) (q : Pending front d) → all_scalars front ≡ true → GoesOn q.own (encode_utf8_all q.dots ++ left) → (c : ℕ) × (behind : List ℕ) × IsScalar c × (left ≡ encode_utf8 c ++ behind) × (label_steps.goes_on c ≡ true)
goes_where front left d q scalars g =
    let at : LineAt = dot_state q.subject q.predicate q.label in
    let text = g.more ++ 46 ∷ [] in
    let n = up_gives Begin q.own text g.longer tt (subst (λ t. LeftTriple Nothing Begin t g.longer) (append_assoc q.own g.more (46 ∷ [])) g.stated) in
    let same : n.0 ≡ at = some_same (sym n.1 ∙ q.leads) in
    let h : LeftTriple Nothing at text g.longer = subst (λ n. LeftTriple Nothing n text g.longer) same n.2.1 in
    let dots_scalars = back_scalars (q.lines ++ q.own) q.dots (ap all_scalars (sym q.parts) ∙ scalars) in
    let start_at : AtDot at = (q.subject, q.predicate, q.label, inl refl) in
    let R : Type 0 = (c : ℕ) × (behind : List ℕ) × IsScalar c × (left ≡ encode_utf8 c ++ behind) × (label_steps.goes_on c ≡ true) in
    ⊎_elim
    (λ (z : (z : List ℕ) × (q.dots ≡ g.more ++ z) × (g.behind ≡ encode_utf8_all z ++ left)).
    let are = dots_front g.more z.0 (subst AreDots z.1 q.are) in
    let m = dots_run at g.more start_at are in
    let k = up_gives at g.more (46 ∷ []) g.longer (at_good at start_at) h in
    let there : k.0 ≡ m.0 = some_same (sym k.1 ∙ m.1) in
    let r : R = absurd (no_two m.0 g.longer m.2 (subst (λ n. LeftTriple Nothing n (46 ∷ []) g.longer) there k.2.1)) in r)
    (λ (z : Longer g.more q.dots g.behind left).
    let m = dots_run at q.dots start_at q.are in
    let k = up_gives at q.dots (z.next ∷ z.more ++ 46 ∷ []) g.longer (at_good at start_at) (subst (λ t. LeftTriple Nothing at t g.longer) (ap (λ t. t ++ 46 ∷ []) z.is ∙ append_assoc q.dots (z.next ∷ z.more) (46 ∷ [])) h) in
    let there : k.0 ≡ m.0 = some_same (sym k.1 ∙ m.1) in
    let w = at_goes m.0 z.next (z.more ++ 46 ∷ []) g.longer m.2 (subst (λ n. LeftTriple Nothing n (z.next ∷ z.more ++ 46 ∷ []) g.longer) there k.2.1) in
    let r : R = (z.next, encode_utf8_all z.more ++ g.behind, z.scalar, z.rest ∙ append_assoc (encode_utf8 z.next) (encode_utf8_all z.more) g.behind, w) in r)
    (split g.more q.dots g.behind left g.scalars dots_scalars (sym g.follow))

-- where a triple is pending, one waits at a dot
pending_at : (n : LineAt) → 0 < pending n → ((s : Term) × (p : List ℕ) × (label : List ℕ) × (n ≡ dot_state s p label)) ⊎ (is_dots n ≡ true)
pending_at Begin h = absurd (omega (arith, h))
pending_at (Subject q) h = absurd (omega (arith, h))
pending_at (AfterSubject s) h = absurd (omega (arith, h))
pending_at (Predicate s q) h = absurd (omega (arith, h))
pending_at (AfterPredicate s p) h = absurd (omega (arith, h))
pending_at (Object s p (objects.Iri q)) h = absurd (omega (arith, h))
pending_at (Object s p (objects.Label q)) h = inr (label_waits q h)
  where
    label_waits : (q : LabelAt) → 0 < label_pending q → is_dotted q ≡ true
    label_waits labels.Start h = absurd (omega (arith, h))
    label_waits labels.Underscore h = absurd (omega (arith, h))
    label_waits labels.Colon h = absurd (omega (arith, h))
    label_waits (labels.In label) h = absurd (omega (arith, h))
    label_waits (labels.Dotted label dots) h = refl
pending_at (Object s p (objects.Dot label)) h = inl (s, p, label, refl)
pending_at (Object s p (objects.String q)) h = absurd (omega (arith, h))
pending_at (Suffix s p lexical q) h = absurd (omega (arith, h))
pending_at (AfterObject stated) h = absurd (omega (arith, h))
pending_at (Ended stated) h = absurd (omega (arith, h))
pending_at (Comment fact) h = absurd (omega (arith, h))

-- and the two are these
pub waiting : (n : LineAt) → 0 < pending n → ((s : Term) × (p : List ℕ) × (label : List ℕ) × (n ≡ dot_state s p label)) ⊎ ((s : Term) × (p : List ℕ) × (label : List ℕ) × (dots : List ℕ) × (n ≡ dots_state s p label dots))
waiting n h = ⊎_elim (λ (k : (s : Term) × (p : List ℕ) × (label : List ℕ) × (n ≡ dot_state s p label)). inl k) (λ (k : is_dots n ≡ true). inr (dots_is n k)) (pending_at n h)
  where
    dots_is : (n : LineAt) → is_dots n ≡ true → (s : Term) × (p : List ℕ) × (label : List ℕ) × (dots : List ℕ) × (n ≡ dots_state s p label dots)
    dots_is Begin e = cc
    dots_is (Subject q) e = cc
    dots_is (AfterSubject s) e = cc
    dots_is (Predicate s q) e = cc
    dots_is (AfterPredicate s p) e = cc
    dots_is (Object s p (objects.Iri q)) e = cc
    dots_is (Object s p (objects.Label labels.Start)) e = cc
    dots_is (Object s p (objects.Label labels.Underscore)) e = cc
    dots_is (Object s p (objects.Label labels.Colon)) e = cc
    dots_is (Object s p (objects.Label (labels.In label))) e = cc
    dots_is (Object s p (objects.Label (labels.Dotted label dots))) e = (s, p, label, dots, refl)
    dots_is (Object s p (objects.Dot label)) e = cc
    dots_is (Object s p (objects.String q)) e = cc
    dots_is (Suffix s p lexical q) e = cc
    dots_is (AfterObject stated) e = cc
    dots_is (Ended stated) e = cc
    dots_is (Comment fact) e = cc

waits : (front : List ℕ) (d : DocAt) → run step start front ≡ Some d → 0 < pending d.at → Pending front d
waits front d e h =
    let t = traced front d e in
    ⊎_elim
    (λ (k : (s : Term) × (p : List ℕ) × (label : List ℕ) × (d.at ≡ dot_state s p label)).
    let r : Pending front d =
    record {
      lines = t.lines;
      own = t.own;
      dots = [];
      parts = t.parts ∙ sym (append-nil (t.lines ++ t.own));
      ended = t.ended;
      before = lines_are front d t;
      are = tt;
      subject = k.0;
      predicate = k.1;
      label = k.2;
      leads = t.in_line ∙ ap Some k.3;
      here = ap Some (sym k.3);
    } in r)
    (λ (k : is_dots d.at ≡ true).
    let q = t.dotted k in
    let r : Pending front d =
    record {
      lines = t.lines;
      own = q.before;
      dots = q.dots;
      parts = t.parts ∙ ap (λ own. t.lines ++ own) q.parts ∙ sym (append_assoc t.lines q.before q.dots);
      ended = t.ended;
      before = lines_are front d t;
      are = q.are;
      subject = q.subject;
      predicate = q.predicate;
      label = q.label;
      leads = q.leads;
      here = sym (run_on line.step Begin (dot_state q.subject q.predicate q.label) q.before q.dots q.leads) ∙ ap (run line.step Begin) (sym q.parts) ∙ t.in_line;
    } in r)
    (pending_at d.at h)

no_held : (n : LineAt) → 0 < pending n → held n ≡ 0
no_held n h =
    ⊎_elim
    (λ (k : (s : Term) × (p : List ℕ) × (label : List ℕ) × (n ≡ dot_state s p label)). ap held k.3)
    (λ (k : is_dots n ≡ true). dots_held n k)
    (pending_at n h)
  where
    dots_held : (n : LineAt) → is_dots n ≡ true → held n ≡ 0
    dots_held Begin e = refl
    dots_held (Subject q) e = refl
    dots_held (AfterSubject s) e = refl
    dots_held (Predicate s q) e = refl
    dots_held (AfterPredicate s p) e = refl
    dots_held (Object s p q) e = refl
    dots_held (Suffix s p lexical q) e = refl
    dots_held (AfterObject stated) e = refl
    dots_held (Ended stated) e = cc
    dots_held (Comment fact) e = cc

-- how a label may go on in the bytes that come: those that are there, or with further ones
pub record Opens (Open : List ℕ → List ℕ → Type 0) (Allowed : List ℕ → Type 0) : Type 0 where
  pub goes : (own rest : List ℕ) → Open own rest → (further : List ℕ) × Allowed further × GoesOn own (rest ++ further)

pub whole_opens : Opens GoesOn (λ further. further ≡ [])
whole_opens = record { goes = λ own rest g. ([], refl, subst (λ r. GoesOn own r) (sym (append-nil rest)) g) }

pub front_opens : Opens MayGoOn (λ further. Unit {0})
front_opens = record { goes = λ own rest g. (g.further, tt, g.goes) }

-- nothing that comes goes on in a label after dots
abbrev pub Shut : (List ℕ → Type 0) → List ℕ → Type 0
Shut Allowed left = (further : List ℕ) → Allowed further → (c : ℕ) (behind : List ℕ) → IsScalar c → left ++ further ≡ encode_utf8 c ++ behind → label_steps.goes_on c ≡ false

-- one triple waits at most, and where one does, none was told of
one_waits : (n : LineAt) → pending n ≤ 1
one_waits Begin = omega arith
one_waits (Subject q) = omega arith
one_waits (AfterSubject s) = omega arith
one_waits (Predicate s q) = omega arith
one_waits (AfterPredicate s p) = omega arith
one_waits (Object s p (objects.Iri q)) = omega arith
one_waits (Object s p (objects.Label q)) = label_one q
  where
    label_one : (q : LabelAt) → label_pending q ≤ 1
    label_one labels.Start = omega arith
    label_one labels.Underscore = omega arith
    label_one labels.Colon = omega arith
    label_one (labels.In label) = omega arith
    label_one (labels.Dotted label dots) = omega arith
one_waits (Object s p (objects.Dot label)) = omega arith
one_waits (Object s p (objects.String q)) = omega arith
one_waits (Suffix s p lexical q) = omega arith
one_waits (AfterObject stated) = omega arith
one_waits (Ended stated) = omega arith
one_waits (Comment fact) = omega arith

many : (done : List Statement) (n : LineAt) → held n ≡ 0 → 0 < pending n → triple_limit < (length done + held n) + pending n → triple_limit ≤ length done
many done n z some over = let k = one_waits n in omega (arith, z, over, k)

-- a triple too many waits at a dot, and nothing goes on there
passes_at : (Open : List ℕ → List ℕ → Type 0) (Allowed : List ℕ → Type 0) (front left : List ℕ) (d : DocAt) → Opens Open Allowed → all_scalars front ≡ true → Shut Allowed left → triple_limit ≤ length d.done → Pending front d
    → PassesWhere Open (encode_utf8_all front ++ left)
passes_at Open Allowed front left d opens scalars shut many q =
    let text = q.lines ++ q.own in
    let stated = triple_of q.subject q.predicate (Blank q.label) in
    let cut : encode_utf8_all front ++ left ≡ (encode_utf8_all text ++ encode_utf8_all q.dots) ++ left = ap (λ t. encode_utf8_all t ++ left) q.parts ∙ ap (λ t. t ++ left) (encodes-append text q.dots) in
    let at : UpToDot (q.own ++ []) stated = (up_takes Begin (dot_state q.subject q.predicate q.label) q.own [] stated tt q.leads refl (dot_left Nothing q.subject q.predicate q.label refl)).0 in
    record {
      lines = q.lines;
      own = q.own;
      rest = encode_utf8_all q.dots ++ left;
      parts = cut ∙ append_assoc (encode_utf8_all text) (encode_utf8_all q.dots) left;
      scalars = front_scalars text q.dots (ap all_scalars (sym q.parts) ∙ scalars);
      before = d.done;
      whole = q.before;
      ended = q.ended;
      many = many;
      triple = stated;
      stated = subst (λ t. UpToDot t stated) (append-nil q.own) at;
      settled = λ g.
          let k = opens.goes q.own (encode_utf8_all q.dots ++ left) g in
          let goes : GoesOn q.own (encode_utf8_all q.dots ++ (left ++ k.0)) = subst (λ r. GoesOn q.own r) (append_assoc (encode_utf8_all q.dots) left k.0) k.2 in
          let w = goes_where front (left ++ k.0) d q scalars goes in
          let z : ◌≡◌ {A = Bool} false true = sym (shut k.0 k.1 w.0 w.1 w.2 w.3) ∙ w.4 in cc;
    }

pub over_passes : (Open : List ℕ → List ℕ → Type 0) (Allowed : List ℕ → Type 0) (front left : List ℕ) (d : DocAt) → Opens Open Allowed → all_scalars front ≡ true → run step start front ≡ Some d → count d ≤ triple_limit → triple_limit < count d + pending d.at → Shut Allowed left
    → PassesWhere Open (encode_utf8_all front ++ left)
over_passes Open Allowed front left d opens scalars e within over shut =
    let some : 0 < pending d.at = omega (arith, within, over) in
    passes_at Open Allowed front left d opens scalars shut (many d.done d.at (no_held d.at some) some over) (waits front d e some)

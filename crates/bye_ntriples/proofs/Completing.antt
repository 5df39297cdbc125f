-- A step that completes a triple too many.
use Rattle.std.proofs.Common.{◌≡◌, refl, ℕ, suc, ◌+◌, ◌<◌, ◌≤◌, Bool, true, false, cond, List, [], ◌∷◌, ◌++◌, Option, Some, None, option_to_list, length, ◌⊎◌, inl, inr, ⊎_elim, sym, ◌∙◌, ap, subst, append_assoc, arith, length-append, codes}
use Rattle.std.specs.Char.{encode_utf8, IsScalar}
use Rattle.std.specs.Str.{encode_utf8_all, all_scalars}
use Rattle.std.proofs.lemmas.List.{append-nil}
use Rattle.std.proofs.lemmas.Str.{encodes-append}
use Rattle.bye_terms.specs.Terms.{Statement}
use Rattle.bye_terms.specs.declared.term.Term.{Term}
use Rattle.bye_lex.specs.LabelSteps as label_steps
use Rattle.bye_lex.proofs.Branches.{some_same, none_some, scalars_join}
use Rattle.bye_lex.proofs.Utf8Laws.{prefix_free}
use Rattle.bye_ntriples.specs.Answers.{triple_limit, UpToDot, MayGoOn, HasPassed}
use Rattle.bye_ntriples.specs.DocSteps.{DocAt, start, line_ended, line_moved, step, held, pending, count}
use Rattle.bye_ntriples.specs.Lines.{is_space, is_line_end}
use Rattle.bye_ntriples.specs.LineSteps as line
use Rattle.bye_lex.specs.Running.{run}
use Rattle.bye_ntriples.specs.declared.line.LineAt.{LineAt}
use Rattle.bye_ntriples.specs.declared.line.LineAt.TheVariants.{Begin, Subject, AfterSubject, Predicate, AfterPredicate, Object, Suffix, AfterObject, Ended, Comment}
use Rattle.bye_ntriples.proofs.LineMeaning.{LeftTriple, Good}
use Rattle.bye_lex.proofs.Machines.{run_step, run_good}
use Rattle.bye_ntriples.proofs.TripleForth.{is_before_end}
use Rattle.bye_ntriples.proofs.LineReached.{is_blank, end_is, Wanted, reached, into_subject, begun}
use Rattle.bye_ntriples.proofs.DocExact.{LeftDoc, GoodDoc, doc_machine, step_is}
use Rattle.bye_ntriples.proofs.Passing.{Nothing, up_gives, up_takes, ends_with_dot, dot_state}
use Rattle.bye_ntriples.proofs.Counting.{told_or_dot}
use Rattle.bye_ntriples.proofs.Overflow.{traced, lines_are, over_passes, front_opens}

-- how a triple comes to be told of by a step: by its dot, or by the character after a label and a dot
abbrev TellsBy : LineAt → ℕ → LineAt → Type 0
TellsBy s c n = ((v : Statement) × (n ≡ Ended v) × (c ≡ 46)) ⊎ (((t : Term) × (p : List ℕ) × (label : List ℕ) × (s ≡ dot_state t p label) × (label_steps.goes_on c ≡ false)) ⊎ (held s ≡ 1))

wanted : (s : LineAt) (c : ℕ) → Wanted c (Unit {0}) (TellsBy s c) (λ v e. inl (v, refl, e)) s
wanted s c = record {
  dots = λ d e. tt;
  dot = λ t p label e k. tt;
  settled = λ t p label e k. (inr (inl (t, p, label, e, k)), inr (inl (t, p, label, e, k)));
  held = λ v h. (inr (inr h), inr (inr h));
}

no_subject : (n : LineAt) (c : ℕ) → c ≡ 46 → line.subject c ≡ Some n → ⊥
no_subject n c e k = none_some (sym (ap line.subject e) ∙ k)

abbrev Tells : LineAt → ℕ → LineAt → Type 0
Tells s c n = (held n ≡ 0) ⊎ ((TellsBy s c n) × (is_blank s ≡ false))

blank_tells : (s n : LineAt) (c : ℕ) → is_blank s ≡ true → line.step s c ≡ Some n → held n ≡ 0
blank_tells Begin n c b e =
    ⊎_elim (λ (k : (is_space c ≡ true) × (n ≡ Begin)). ap held k.1)
    (λ (k : ((c ≡ 35) × (n ≡ Comment None)) ⊎ (line.subject c ≡ Some n)).
    ⊎_elim (λ (k : (c ≡ 35) × (n ≡ Comment None)). ap held k.1)
    (λ (k : line.subject c ≡ Some n).
    ⊎_elim (λ (h : held n ≡ 0). h) (λ (h : c ≡ 46). absurd (no_subject n c h k)) (into_subject c (Unit {0}) (λ n. c ≡ 46) (λ v e. e) n k).1.1.1) k)
    (begun n c e)
blank_tells (Subject q) n c b e = cc
blank_tells (AfterSubject s) n c b e = cc
blank_tells (Predicate s q) n c b e = cc
blank_tells (AfterPredicate s p) n c b e = cc
blank_tells (Object s p q) n c b e = cc
blank_tells (Suffix s p lexical q) n c b e = cc
blank_tells (AfterObject stated) n c b e = cc
blank_tells (Ended stated) n c b e = cc
blank_tells (Comment None) n c b e = go (is_line_end c) e
  where
    go : (b : Bool) → cond b None (Some (Comment None)) ≡ Some n → held n ≡ 0
    go true e = none_some e
    go false e = ap held (sym (some_same e))
blank_tells (Comment (Some v)) n c b e = cc

tells : (s n : LineAt) (c : ℕ) → Good s → line.step s c ≡ Some n → Tells s c n
tells s n c g e = go (is_blank s) refl
  where
    go : (b : Bool) → is_blank s ≡ b → Tells s c n
    go true b = inl (blank_tells s n c b e)
    go false b = ⊎_elim (λ (h : held n ≡ 0). inl h) (λ (h : TellsBy s c n). inr (h, b)) (reached c (Unit {0}) (TellsBy s c) (λ v e. inl (v, refl, e)) s n g b (wanted s c) e).1.1.1

before_end : (s : LineAt) → held s ≡ 0 → is_blank s ≡ false → is_before_end s ≡ true
before_end Begin h b = refl
before_end (Subject q) h b = refl
before_end (AfterSubject s) h b = refl
before_end (Predicate s q) h b = refl
before_end (AfterPredicate s p) h b = refl
before_end (Object s p q) h b = refl
before_end (Suffix s p lexical q) h b = refl
before_end (AfterObject stated) h b = refl
before_end (Ended stated) h b = cc
before_end (Comment None) h b = cc
before_end (Comment (Some v)) h b = cc

-- a line's end goes on in no label
pub end_shuts : (c : ℕ) → is_line_end c ≡ true → label_steps.goes_on c ≡ false
end_shuts c b = ⊎_elim (λ e. ap label_steps.goes_on e) (λ e. ap label_steps.goes_on e) (end_is c b)

-- told of by the character after the dot
by_next : (front left : List ℕ) (d : DocAt) (c : ℕ) (t : Term) (p label : List ℕ) → all_scalars front ≡ true → IsScalar c → run step start front ≡ Some d → count d ≤ triple_limit → triple_limit < suc (length d.done) → d.at ≡ dot_state t p label → label_steps.goes_on c ≡ false
    → HasPassed (encode_utf8_all (front ++ c ∷ []) ++ left)
by_next front left d c t p label scalars is e within over at shut =
    let one = ap pending at in
    let more : triple_limit < count d + pending d.at = omega (arith, over, one) in
    let bytes : encode_utf8_all front ++ (encode_utf8 c ++ left) ≡ encode_utf8_all (front ++ c ∷ []) ++ left =
    sym (append_assoc (encode_utf8_all front) (encode_utf8 c) left) ∙ ap (λ t. (encode_utf8_all front ++ t) ++ left) (sym (append-nil (encode_utf8 c))) ∙ ap (λ t. t ++ left) (sym (encodes-append front (c ∷ []))) in
    subst (λ b. HasPassed b) bytes
    (over_passes MayGoOn (λ further. Unit {0}) front (encode_utf8 c ++ left) d front_opens scalars e within more
    (λ further any b behind scalar k. let same = prefix_free c b (left ++ further) behind is scalar (sym (append_assoc (encode_utf8 c) left further) ∙ k) in ap label_steps.goes_on (sym same.0) ∙ shut))

no_rest : (more : List ℕ) → more ++ codes "." ≡ [] → ⊥
no_rest [] e = cc
no_rest (x ∷ more) e = cc

-- told of by its dot
by_dot : (front left : List ℕ) (d : DocAt) (v : Statement) (m : LineAt) → all_scalars front ≡ true → run step start front ≡ Some d → triple_limit < suc (length d.done) → is_before_end d.at ≡ true → line.step d.at 46 ≡ Some (Ended v)
    → HasPassed (encode_utf8_all (front ++ 46 ∷ []) ++ left)
by_dot front left d v m scalars e over b dot =
    let t = traced front d e in
    let own = t.own ++ 46 ∷ [] in
    let good = run_good LeftDoc step GoodDoc doc_machine start d front tt e in
    let stated : UpToDot own v = (up_takes Begin d.at t.own (46 ∷ []) v tt t.in_line b (ends_with_dot d.at v good b dot)).0 in
    let there : run line.step Begin own ≡ Some (Ended v) = run_step line.step Begin d.at t.own 46 t.in_line ∙ dot in
    let text : front ++ 46 ∷ [] ≡ t.lines ++ own = ap (λ f. f ++ 46 ∷ []) t.parts ∙ append_assoc t.lines t.own (46 ∷ []) in
    record {
      lines = t.lines;
      own = own;
      rest = left;
      parts = ap (λ t. encode_utf8_all t ++ left) text;
      scalars = ap all_scalars (sym text) ∙ scalars_join front (46 ∷ []) scalars refl;
      before = d.done;
      whole = lines_are front d t;
      ended = t.ended;
      many = omega (arith, over);
      triple = v;
      stated = stated;
      settled = λ g.
          let k = g.goes in
          let n = up_gives Begin own (k.more ++ codes ".") k.longer tt (subst (λ t. LeftTriple Nothing Begin t k.longer) (append_assoc own k.more (codes ".")) k.stated) in
          let h : LeftTriple Nothing (Ended v) (k.more ++ codes ".") k.longer = subst (λ n. LeftTriple Nothing n (k.more ++ codes ".") k.longer) (some_same (sym n.1 ∙ there)) n.2.1 in
          no_rest k.more h.0;
    }

-- a line tells of one triple at most
pub held_one : (m : LineAt) → held m ≤ 1
held_one Begin = omega arith
held_one (Subject q) = omega arith
held_one (AfterSubject s) = omega arith
held_one (Predicate s q) = omega arith
held_one (AfterPredicate s p) = omega arith
held_one (Object s p q) = omega arith
held_one (Suffix s p lexical q) = omega arith
held_one (AfterObject stated) = omega arith
held_one (Ended stated) = omega arith
held_one (Comment None) = omega arith
held_one (Comment (Some v)) = omega arith

pub step_passes : (front left : List ℕ) (d n : DocAt) (c : ℕ) → all_scalars front ≡ true → IsScalar c → run step start front ≡ Some d → step d c ≡ Some n → count d ≤ triple_limit → triple_limit < count n → HasPassed (encode_utf8_all (front ++ c ∷ []) ++ left)
step_passes front left d n c scalars is e s within over =
    let R : Type 0 = HasPassed (encode_utf8_all (front ++ c ∷ []) ++ left) in
    ⊎_elim
    (λ (k : (is_line_end c ≡ true) × ((fact : Option Statement) × (line.final d.at ≡ Some fact) × (line_ended d.done fact ≡ n))).
    let z = ap count k.1.2 in
    let l = length-append d.done (option_to_list k.1.0) in
    let r : R = at_end k.1.0 k.0 k.1.1 z l in r)
    (λ (k : (is_line_end c ≡ false) × ((m : LineAt) × (line.step d.at c ≡ Some m) × (line_moved d.done m ≡ n))).
    let m = k.1.0 in
    let z = ap count k.1.2 in
    let good = run_good LeftDoc step GoodDoc doc_machine start d front tt e in
    ⊎_elim
    (λ (h : held m ≡ 0). let r : R = absurd (omega (arith, z, h, within, over)) in r)
    (λ (h : TellsBy d.at c m × (is_blank d.at ≡ false)). let r : R = by_step m z k.1.1 h.0 h.1 in r)
    (tells d.at m c good k.1.1))
    (step_is d n c s)
  where
    at_end : (fact : Option Statement) → is_line_end c ≡ true → line.final d.at ≡ Some fact → count (line_ended d.done fact) ≡ count n → length (d.done ++ option_to_list fact) ≡ length d.done + length (option_to_list fact) → HasPassed (encode_utf8_all (front ++ c ∷ []) ++ left)
    at_end None b f z l = absurd (omega (arith, z, l, within, over))
    at_end (Some v) b f z l =
        ⊎_elim
        (λ (h : held d.at ≡ 1). absurd (omega (arith, z, l, h, within, over)))
        (λ (h : (t : Term) × (p : List ℕ) × (label : List ℕ) × (d.at ≡ dot_state t p label)). by_next front left d c h.0 h.1 h.2 scalars is e within (omega (arith, z, l, over)) h.3 (end_shuts c b))
        (told_or_dot d.at v f)

    by_step : (m : LineAt) → count (line_moved d.done m) ≡ count n → line.step d.at c ≡ Some m → TellsBy d.at c m → is_blank d.at ≡ false → HasPassed (encode_utf8_all (front ++ c ∷ []) ++ left)
    by_step m z f (inl (v, at, dot)) b =
        let u = held_one m in
        let none : held d.at ≡ 0 = omega (arith, z, u, within, over) in
        subst (λ c. HasPassed (encode_utf8_all (front ++ c ∷ []) ++ left)) (sym dot) (by_dot front left d v m scalars e (omega (arith, z, u, over)) (before_end d.at none b) (ap (line.step d.at) (sym dot) ∙ f ∙ ap Some at))
    by_step m z f (inr (inl (t, p, label, at, shut))) b = let u = held_one m in by_next front left d c t p label scalars is e within (omega (arith, z, u, over)) at shut
    by_step m z f (inr (inr h)) b = let u = held_one m in absurd (omega (arith, z, u, h, within, over))

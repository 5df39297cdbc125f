-- The machine of lines reads lines.
use Rattle.std.proofs.Common.{◌≡◌, refl, ℕ, Bool, true, false, cond, ◌==◌, List, ◌∷◌, Option, Some, None, ◌⊎◌, inl, inr, ⊎_elim, sym, ◌∙◌, ap, subst}
use Rattle.bye_terms.specs.Terms.{Statement}
use Rattle.bye_lex.specs.LabelSteps as label_steps
use Rattle.bye_lex.proofs.Branches.{when, unless, eqb_same, some_same, none_some, pick_of}
use Rattle.bye_ntriples.specs.Lines.{is_space, is_line_end, LineEnd}
use Rattle.bye_ntriples.specs.LineSteps as line
use Rattle.bye_ntriples.specs.declared.line.LineAt.{LineAt}
use Rattle.bye_ntriples.specs.declared.line.LineAt.TheVariants.{Begin, Subject, AfterSubject, Predicate, AfterPredicate, Object, Suffix, AfterObject, Ended, Comment}
use Rattle.bye_ntriples.proofs.LineMeaning.{LeftTriple, LeftBlank, LeftLine, Good}
use Rattle.bye_lex.proofs.Machines.{Machine}
use Rattle.bye_lex.proofs.Embedding.{Onward}
use Rattle.bye_ntriples.proofs.TripleForth.{Endings, space_is, triple_forth}
use Rattle.bye_ntriples.proofs.TripleBack.{EndingBack, triple_back}
use Rattle.bye_ntriples.proofs.LineReached.{is_blank, leads, subject_leads, begun, stays}
use Rattle.bye_ntriples.proofs.LineViable.{can}

-- what may stand after the dot on a line
ended_forth : (stated : Statement) (c : ℕ) (t : List ℕ) → LineEnd (c ∷ t) → Onward (LeftTriple LineEnd) (line.ended stated c) t stated
ended_forth stated c t (inl k) = (Ended stated, when _ _ _ k.0, (k.1, refl))
ended_forth stated c t (inr k) = subst (λ c. Onward (LeftTriple LineEnd) (line.ended stated c) t stated) (sym k.0) (Comment (Some stated), refl, (k.1, refl))

end_apart : (c : ℕ) (t : List ℕ) → LineEnd (c ∷ t) → label_steps.goes_on c ≡ false
end_apart c t (inl k) = ⊎_elim (λ e. ap label_steps.goes_on e) (λ e. ap label_steps.goes_on e) (space_is c k.0)
end_apart c t (inr k) = ap label_steps.goes_on k.0

pub line_endings : Endings LineEnd
line_endings = record { forth = ended_forth; apart = end_apart }

ended_back : (n : LineAt) (c : ℕ) (t : List ℕ) (v : Statement) → EndingBack LineEnd n c t v
ended_back n c t v stated e h =
    let R : Type 0 = LineEnd (c ∷ t) × (v ≡ stated) in
    let r : R =
    pick_of {P = R} (is_space c) (Ended stated) n _ e
    (λ b k. let z : LeftTriple LineEnd (Ended stated) t v = subst (λ n. LeftTriple LineEnd n t v) k h in (inl (b, z.0), z.1))
    (λ k. pick_of {P = R} (c == 35) (Comment (Some stated)) n None k
    (λ b k. let z : LeftTriple LineEnd (Comment (Some stated)) t v = subst (λ n. LeftTriple LineEnd n t v) k h in (inr (eqb_same c 35 b, z.0), sym (some_same z.1)))
    (λ k. none_some k)) in r

-- forward
abbrev Next : LineAt → ℕ → List ℕ → Option Statement → Type 0
Next s c t fact = Onward LeftLine (line.step s c) t fact

told_next : (s : LineAt) (c : ℕ) (t : List ℕ) (v : Statement) (fact : Option Statement) → fact ≡ Some v → Onward (LeftTriple LineEnd) (line.step s c) t v → Next s c t fact
told_next s c t v fact e n = (n.0, n.1, inr (record { triple = v; stated = n.2; is = e }))

blank_forth : (s : LineAt) (c : ℕ) (t : List ℕ) (fact : Option Statement) → LeftBlank s (c ∷ t) → fact ≡ None → Next s c t fact
blank_forth Begin c t fact (inl k) e = (Begin, when _ _ _ k.0, inl (k.1, e))
blank_forth Begin c t fact (inr k) e = subst (λ c. Next Begin c t fact) (sym k.0) (Comment None, refl, inl (k.1, e))
blank_forth (Subject q) c t fact h e = absurd h
blank_forth (AfterSubject s) c t fact h e = absurd h
blank_forth (Predicate s q) c t fact h e = absurd h
blank_forth (AfterPredicate s p) c t fact h e = absurd h
blank_forth (Object s p q) c t fact h e = absurd h
blank_forth (Suffix s p lexical q) c t fact h e = absurd h
blank_forth (AfterObject stated) c t fact h e = absurd h
blank_forth (Ended stated) c t fact h e = absurd h
blank_forth (Comment None) c t fact h e = (Comment None, unless _ _ _ _ h.0 refl, inl (h.1, e))
blank_forth (Comment (Some v)) c t fact h e = absurd h

told_forth : (s : LineAt) (c : ℕ) (t : List ℕ) (v : Statement) → Good s → LeftTriple LineEnd s (c ∷ t) v → Onward (LeftTriple LineEnd) (line.step s c) t v
told_forth Begin c t v g h = triple_forth LineEnd line_endings Begin c t v g refl h
told_forth (Subject q) c t v g h = triple_forth LineEnd line_endings (Subject q) c t v g refl h
told_forth (AfterSubject s) c t v g h = triple_forth LineEnd line_endings (AfterSubject s) c t v g refl h
told_forth (Predicate s q) c t v g h = triple_forth LineEnd line_endings (Predicate s q) c t v g refl h
told_forth (AfterPredicate s p) c t v g h = triple_forth LineEnd line_endings (AfterPredicate s p) c t v g refl h
told_forth (Object s p q) c t v g h = triple_forth LineEnd line_endings (Object s p q) c t v g refl h
told_forth (Suffix s p lexical q) c t v g h = triple_forth LineEnd line_endings (Suffix s p lexical q) c t v g refl h
told_forth (AfterObject stated) c t v g h = triple_forth LineEnd line_endings (AfterObject stated) c t v g refl h
told_forth (Ended stated) c t v g h = let n = ended_forth stated c t h.0 in (n.0, n.1, subst (λ v. LeftTriple LineEnd n.0 t v) (sym h.1) n.2)
told_forth (Comment fact) c t v g h = (Comment fact, unless _ _ _ _ h.0.0 refl, (h.0.1, h.1))

line_forth : (s : LineAt) (c : ℕ) (t : List ℕ) (fact : Option Statement) → Good s → LeftLine s (c ∷ t) fact → Next s c t fact
line_forth s c t fact g (inl k) = blank_forth s c t fact k.0 k.1
line_forth s c t fact g (inr k) = told_next s c t k.triple fact k.is (told_forth s c t k.triple g k.stated)

-- backward
blank_is : (n : LineAt) (t : List ℕ) → LeftBlank n t → is_blank n ≡ true
blank_is Begin t h = refl
blank_is (Subject q) t h = absurd h
blank_is (AfterSubject s) t h = absurd h
blank_is (Predicate s q) t h = absurd h
blank_is (AfterPredicate s p) t h = absurd h
blank_is (Object s p q) t h = absurd h
blank_is (Suffix s p lexical q) t h = absurd h
blank_is (AfterObject stated) t h = absurd h
blank_is (Ended stated) t h = absurd h
blank_is (Comment None) t h = refl
blank_is (Comment (Some v)) t h = absurd h

never_blank : (n : LineAt) (t : List ℕ) → is_blank n ≡ false → LeftBlank n t → ⊥
never_blank n t f h = let e : ◌≡◌ {A = Bool} true false = sym (blank_is n t h) ∙ f in cc

in_comment : (fact : Option Statement) (n : LineAt) (c : ℕ) → line.comment fact c ≡ Some n → (is_line_end c ≡ false) × (n ≡ Comment fact)
in_comment fact n c e = go (is_line_end c) e
  where
    go : (b : Bool) → cond b None (Some (Comment fact)) ≡ Some n → (b ≡ false) × (n ≡ Comment fact)
    go true e = none_some e
    go false e = (refl, sym (some_same e))

blank_back : (s n : LineAt) (c : ℕ) (t : List ℕ) → Good s → line.step s c ≡ Some n → LeftBlank n t → LeftBlank s (c ∷ t)
blank_back Begin n c t g e h =
    ⊎_elim
    (λ (k : (is_space c ≡ true) × (n ≡ Begin)). let r : LineEnd (c ∷ t) = inl (k.0, subst (λ n. LeftBlank n t) k.1 h) in r)
    (λ (k : ((c ≡ 35) × (n ≡ Comment None)) ⊎ (line.subject c ≡ Some n)).
    ⊎_elim
    (λ (k : (c ≡ 35) × (n ≡ Comment None)). let r : LineEnd (c ∷ t) = inr (k.0, subst (λ n. LeftBlank n t) k.1 h) in r)
    (λ (k : line.subject c ≡ Some n). absurd (never_blank n t (subject_leads n c k).1 h))
    k)
    (begun n c e)
blank_back (Subject q) n c t g e h = never_blank n t (leads (Subject q) n c g refl e).1 h
blank_back (AfterSubject s) n c t g e h = never_blank n t (leads (AfterSubject s) n c g refl e).1 h
blank_back (Predicate s q) n c t g e h = never_blank n t (leads (Predicate s q) n c g refl e).1 h
blank_back (AfterPredicate s p) n c t g e h = never_blank n t (leads (AfterPredicate s p) n c g refl e).1 h
blank_back (Object s p q) n c t g e h = never_blank n t (leads (Object s p q) n c g refl e).1 h
blank_back (Suffix s p lexical q) n c t g e h = never_blank n t (leads (Suffix s p lexical q) n c g refl e).1 h
blank_back (AfterObject stated) n c t g e h = never_blank n t (leads (AfterObject stated) n c g refl e).1 h
blank_back (Ended stated) n c t g e h = never_blank n t (leads (Ended stated) n c g refl e).1 h
blank_back (Comment None) n c t g e h = let k = in_comment None n c e in (k.0, subst (λ n. LeftBlank n t) k.1 h)
blank_back (Comment (Some v)) n c t g e h = never_blank n t (leads (Comment (Some v)) n c g refl e).1 h

told_back : (s n : LineAt) (c : ℕ) (t : List ℕ) (v : Statement) → Good s → line.step s c ≡ Some n → LeftTriple LineEnd n t v → LeftTriple LineEnd s (c ∷ t) v
told_back Begin n c t v g e h = triple_back LineEnd Begin n c t v (ended_back n c t v) g refl e h
told_back (Subject q) n c t v g e h = triple_back LineEnd (Subject q) n c t v (ended_back n c t v) g refl e h
told_back (AfterSubject s) n c t v g e h = triple_back LineEnd (AfterSubject s) n c t v (ended_back n c t v) g refl e h
told_back (Predicate s q) n c t v g e h = triple_back LineEnd (Predicate s q) n c t v (ended_back n c t v) g refl e h
told_back (AfterPredicate s p) n c t v g e h = triple_back LineEnd (AfterPredicate s p) n c t v (ended_back n c t v) g refl e h
told_back (Object s p q) n c t v g e h = triple_back LineEnd (Object s p q) n c t v (ended_back n c t v) g refl e h
told_back (Suffix s p lexical q) n c t v g e h = triple_back LineEnd (Suffix s p lexical q) n c t v (ended_back n c t v) g refl e h
told_back (AfterObject stated) n c t v g e h = triple_back LineEnd (AfterObject stated) n c t v (ended_back n c t v) g refl e h
told_back (Ended stated) n c t v g e h = ended_back n c t v stated e h
told_back (Comment fact) n c t v g e h =
    let k = in_comment fact n c e in
    let z : LeftTriple LineEnd (Comment fact) t v = subst (λ n. LeftTriple LineEnd n t v) k.1 h in
    ((k.0, z.0), z.1)

line_back : (s n : LineAt) (c : ℕ) (t : List ℕ) (fact : Option Statement) → Good s → line.step s c ≡ Some n → LeftLine n t fact → LeftLine s (c ∷ t) fact
line_back s n c t fact g e (inl k) = inl (blank_back s n c t g e k.0, k.1)
line_back s n c t fact g e (inr k) = inr (record { triple = k.triple; stated = told_back s n c t k.triple g e k.stated; is = k.is })

pub line_machine : Machine LeftLine line.step Good
line_machine = record { forth = line_forth; back = line_back; stays = stays; can = can }

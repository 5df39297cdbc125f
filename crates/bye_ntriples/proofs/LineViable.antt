-- Each state of the machine of lines that is reached can go on.
use Rattle.std.proofs.Common.{◌≡◌, refl, ℕ, Bool, true, false, ◌==◌, ◌&&◌, List, [], ◌∷◌, ◌++◌, Some, None, option_and_then, ◌⊎◌, inl, inr, ⊎_elim, length, sym, ◌∙◌, ap, subst, codes, arith, length-append}
use Rattle.std.specs.Str.{all_scalars}
use Rattle.std.proofs.lemmas.List.{append-nil}
use Rattle.std.proofs.lemmas.Slice.Eq.{bytes_eq-Decides}
use Rattle.bye_terms.specs.Literals.{is_lang_string, lang_string}
use Rattle.bye_terms.specs.Terms.{Statement}
use Rattle.bye_terms.specs.declared.term.Term.{Term}
use Rattle.bye_terms.specs.declared.term.Term.TheVariants.{Iri, Blank}
use Rattle.bye_terms.proofs.Tests.{both_parts}
use Rattle.bye_lex.specs.Iris.{IriToken}
use Rattle.bye_lex.specs.EscapeSteps as escape
use Rattle.bye_lex.specs.IriSteps as iri
use Rattle.bye_lex.specs.declared.escape.Home.TheVariants as homes
use Rattle.bye_lex.specs.declared.escape.EscapeStep.{EscapeStep}
use Rattle.bye_lex.specs.declared.escape.EscapeStep.TheVariants.{Within, Whole}
use Rattle.bye_lex.specs.Languages.{Viable}
use Rattle.bye_lex.specs.declared.iri.IriAt.{IriAt}
use Rattle.bye_lex.specs.declared.iri.IriAt.TheVariants as iri_at
use Rattle.bye_lex.specs.declared.string.StringAt.{StringAt}
use Rattle.bye_lex.specs.declared.style.Style.TheVariants.{Triples}
use Rattle.bye_lex.specs.StringSteps as string
use Rattle.bye_lex.proofs.Branches.{eqb_same, mapped, some_same, none_some, pick_of, and_true, scalars_join}
use Rattle.bye_lex.proofs.IriMeaning as iris
use Rattle.bye_lex.proofs.IriExact.{iri_exact}
use Rattle.bye_lex.proofs.StringMeaning as meant
use Rattle.bye_lex.proofs.StringExact.{string_exact}
use Rattle.bye_lex.proofs.Embedding.{Upto}
use Rattle.bye_lex.proofs.LabelExact as label_exactly
use Rattle.bye_lex.proofs.TagExact as tag_exactly
use Rattle.bye_ntriples.specs.Lines.{Spaced, Then, Dotted, DatatypeToken, Datatype, Carets, LineEnd}
use Rattle.bye_ntriples.specs.Lines as lines
use Rattle.bye_lex.specs.Running.{run}
use Rattle.bye_ntriples.specs.Triples.{triple_of, string_of, tagged_of, typed_of}
use Rattle.bye_ntriples.specs.declared.line.LineAt.{LineAt}
use Rattle.bye_ntriples.specs.declared.line.LineAt.TheVariants.{Begin, Subject, AfterSubject, Predicate, AfterPredicate, Object, Suffix, AfterObject, Ended, Comment}
use Rattle.bye_ntriples.specs.declared.line.SubjectAt.TheVariants as subjects
use Rattle.bye_ntriples.specs.declared.line.ObjectAt.TheVariants as objects
use Rattle.bye_ntriples.specs.declared.line.SuffixAt.TheVariants as suffixes
use Rattle.bye_ntriples.proofs.LineMeaning.{WithinIri, WithinString, AfterSubjectIri, AfterSubjectLabel, AfterPredicateIri, AfterObjectIri, AfterObjectLabel, AfterTag, AfterDatatype, LeftTriple, LeftLine, GoodIri, GoodString, Good}
use Rattle.bye_lex.proofs.Machines.{Machine, of_token, run_gives, run_takes, bind_some}
use Rattle.bye_ntriples.proofs.StringTokens.{no_final}

-- the shortest IRI
a_colon : IriToken Triples (codes "<a:>") (codes "a:")
a_colon = record {
  rest = codes "a:>";
  after = record {
    first = 97;
    letter = refl;
    rest = codes ":>";
    rest_value = codes ":";
    after = record { scheme = []; each = tt; tail = codes ">"; tail_value = []; after = record { pieces = []; each = tt; spelled = refl; stands = refl }; spelled = refl; stands = refl };
    spelled = refl;
    stands = refl;
  };
  spelled = refl;
}

-- an IRI that can be read to its end can be read to a longer one
last_step : (q : IriAt) (c : ℕ) (v : List ℕ) → iri.step Triples q c ≡ Some (iri_at.Done v) → (q ≡ iri_at.Body v) × (c ≡ 62)
last_step iri_at.Start c v e = pick_of (c == 60) iri_at.Opened (iri_at.Done v) None e (λ b k. cc) (λ k. none_some k)
last_step iri_at.Opened c v e = pick_of _ (iri_at.Scheme (c ∷ [])) (iri_at.Done v) None e (λ b k. cc) (λ k. none_some k)
last_step (iri_at.Scheme out) c v e = pick_of (c == 58) (iri_at.Body (out ++ c ∷ [])) (iri_at.Done v) _ e (λ b k. cc) (λ k. pick_of _ (iri_at.Scheme (out ++ c ∷ [])) (iri_at.Done v) None k (λ b k. cc) (λ k. none_some k))
last_step (iri_at.Body out) c v e =
    pick_of (c == 62) (iri_at.Done out) (iri_at.Done v) _ e
    (λ b k. let same : v ≡ out = cc in (ap iri_at.Body (sym same), eqb_same c 62 b))
    (λ k. pick_of (c == 92 && true) (iri_at.Backslash out) (iri_at.Done v) _ k (λ b k. cc) (λ k. pick_of _ (iri_at.Body (out ++ c ∷ [])) (iri_at.Done v) None k (λ b k. cc) (λ k. none_some k)))
last_step (iri_at.Backslash out) c v e = let m = (mapped (λ at. iri_at.Escape at out) (escape.begin c) (iri_at.Done v) e).2 in cc
last_step (iri_at.Escape at out) c v e = let m = mapped (iri.after_escape out) (escape.step homes.Iri at c) (iri_at.Done v) e in not_done m.0 m.2
  where
    not_done : (x : EscapeStep) → iri.after_escape out x ≡ iri_at.Done v → (iri_at.Escape at out ≡ iri_at.Body v) × (c ≡ 62)
    not_done (Within at) k = cc
    not_done (Whole c) k = cc
last_step (iri_at.Done out) c v e = none_some e

-- what stands before the last bracket
before_last : (q : IriAt) (own v : List ℕ) → iri.final q ≡ None → run (iri.step Triples) q own ≡ Some (iri_at.Done v) → (front : List ℕ) × (own ≡ front ++ 62 ∷ []) × (run (iri.step Triples) q front ≡ Some (iri_at.Body v))
before_last q [] v f e = none_some (sym f ∙ ap iri.final (some_same e))
before_last q (c ∷ []) v f e =
    let m = bind_some (iri.step Triples q c) (λ n. Some n) (iri_at.Done v) e in
    let k = last_step q c v (m.1 ∙ m.2) in
    ([], ap (λ c. c ∷ []) k.1, ap Some k.0)
before_last q (c ∷ d ∷ own) v f e =
    let m = bind_some (iri.step Triples q c) (λ n. run (iri.step Triples) n (d ∷ own)) (iri_at.Done v) e in
    let k = before_last m.0 (d ∷ own) v (goes_on m.0 m.2) m.2 in
    (c ∷ k.0, ap (λ t. c ∷ t) k.1, ap (λ o. option_and_then (λ n. run (iri.step Triples) n k.0) o) m.1 ∙ k.2)
  where
    goes_on : (n : IriAt) → run (iri.step Triples) n (d ∷ own) ≡ Some (iri_at.Done v) → iri.final n ≡ None
    goes_on iri_at.Start e = refl
    goes_on iri_at.Opened e = refl
    goes_on (iri_at.Scheme out) e = refl
    goes_on (iri_at.Body out) e = refl
    goes_on (iri_at.Backslash out) e = refl
    goes_on (iri_at.Escape at out) e = refl
    goes_on (iri_at.Done out) e = none_some e

done_of : (n : IriAt) (v : List ℕ) → iri.final n ≡ Some v → n ≡ iri_at.Done v
done_of iri_at.Start v e = none_some e
done_of iri_at.Opened v e = none_some e
done_of (iri_at.Scheme out) v e = none_some e
done_of (iri_at.Body out) v e = none_some e
done_of (iri_at.Backslash out) v e = none_some e
done_of (iri_at.Escape at out) v e = none_some e
done_of (iri_at.Done out) v e = ap iri_at.Done (some_same e)

abbrev IriGood : IriAt → Type 0
IriGood q = Viable (iris.Left Triples q) []

iri_machine : Machine (iris.Left Triples) (iri.step Triples) IriGood
iri_machine = of_token (iris.Left Triples) (iri.step Triples) iri.final (iri_exact Triples)

scalars_front : (a b : List ℕ) → all_scalars (a ++ b) ≡ true → all_scalars a ≡ true
scalars_front [] b e = refl
scalars_front (c ∷ a) b e = let k = both_parts _ _ e in and_true _ _ k.0 (scalars_front a b k.1)

longer : (q : IriAt) (own v : List ℕ) → GoodIri q → iris.Left Triples q own v → all_scalars own ≡ true → (more : List ℕ) × (all_scalars more ≡ true) × iris.Left Triples q more (v ++ 97 ∷ [])
longer q own v g h s =
    let m = run_gives (iris.Left Triples) (iri.step Triples) IriGood iri_machine q own [] v g.viable (subst (λ t. iris.Left Triples q t v) (sym (append-nil own)) h) in
    let done = done_of m.0 v ((iri_exact Triples).ends m.0 v m.2) in
    let k = before_last q own v g.going (m.1 ∙ ap Some done) in
    let left : iris.Left Triples (iri_at.Body v) (97 ∷ 62 ∷ []) (v ++ 97 ∷ []) =
    (iri_exact Triples).back (iri_at.Body v) (iri_at.Body (v ++ 97 ∷ [])) 97 (62 ∷ []) (v ++ 97 ∷ []) (can v) refl
    ((iri_exact Triples).back (iri_at.Body (v ++ 97 ∷ [])) (iri_at.Done (v ++ 97 ∷ [])) 62 [] (v ++ 97 ∷ []) (can (v ++ 97 ∷ [])) refl (refl, refl)) in (
      k.0 ++ 97 ∷ 62 ∷ [],
      scalars_join k.0 (97 ∷ 62 ∷ []) (scalars_front k.0 (62 ∷ []) (subst (λ t. all_scalars t ≡ true) k.1 s)) refl,
      run_takes (iris.Left Triples) (iri.step Triples) IriGood iri_machine q (iri_at.Body v) k.0 (97 ∷ 62 ∷ []) (v ++ 97 ∷ []) g.viable k.2 left,
    )
  where
    can : (out : List ℕ) → Viable (iris.Left Triples (iri_at.Body out)) []
    can out = record { more = 62 ∷ []; scalars = refl; value = out; whole = record { own = []; is = record { pieces = []; each = tt; spelled = refl; stands = refl }; stands = sym (append-nil out) } }

-- only one of an IRI and a longer one is rdf:langString
not_both : (v : List ℕ) → is_lang_string v ≡ true → is_lang_string (v ++ 97 ∷ []) ≡ true → ⊥
not_both v e f =
    let a = (bytes_eq-Decides v lang_string).0 e in
    let b = (bytes_eq-Decides (v ++ 97 ∷ []) lang_string).0 f in
    let n = ap length (b ∙ sym a) ∙ refl in
    let l = length-append v (97 ∷ []) in
    omega (arith, n, l)

spaced : {W : Type 0} (L : List ℕ → W → Type 0) (text : List ℕ) (w : W) → L text w → Spaced L text w
spaced L [] w h = h
spaced L (c ∷ cs) w h = inr h

can_spaced : {W : Type 0} (L : List ℕ → W → Type 0) → Viable L [] → Viable (Spaced L) []
can_spaced L v = record { more = v.more; scalars = v.scalars; value = v.value; whole = spaced L v.more v.value v.whole }

can_then : {W : Type 0} (Rest : List ℕ → List ℕ → W → Type 0) → Viable (Rest (codes "a:")) [] → Viable (Then (IriToken Triples) Rest) []
can_then Rest v = record {
  more = codes "<a:>" ++ v.more;
  scalars = scalars_join (codes "<a:>") v.more refl v.scalars;
  value = v.value;
  whole = record { own = codes "<a:>"; value = codes "a:"; rest = v.more; token = a_colon; after = v.whole; spelled = refl };
}

within_iri : {W : Type 0} (Rest : List ℕ → List ℕ → W → Type 0) (q : IriAt) (own value : List ℕ) → iri.final q ≡ None → all_scalars own ≡ true → iris.Left Triples q own value → Viable (Rest value) [] → Viable (WithinIri Rest q) []
within_iri Rest q [] value f s h v = none_some (sym f ∙ (iri_exact Triples).ends q value h)
within_iri Rest q (x ∷ xs) value f s h v = record {
  more = x ∷ xs ++ v.more;
  scalars = scalars_join (x ∷ xs) v.more s v.scalars;
  value = v.value;
  whole = record { first = x; own = xs; value = value; rest = v.more; is = h; after = v.whole; spelled = refl };
}

can_iri : {W : Type 0} (Rest : List ℕ → List ℕ → W → Type 0) (q : IriAt) → GoodIri q → ((v : List ℕ) → Viable (Rest v) []) → Viable (WithinIri Rest q) []
can_iri Rest q g on = within_iri Rest q g.viable.more g.viable.value g.going g.viable.scalars g.viable.whole (on g.viable.value)

within_string : {W : Type 0} (Rest : List ℕ → List ℕ → W → Type 0) (q : StringAt) (own value : List ℕ) → string.final q ≡ None → all_scalars own ≡ true → meant.Left Triples q own value → Viable (Rest value) [] → Viable (WithinString Rest q) []
within_string Rest q [] value f s h v = none_some (sym f ∙ (string_exact Triples).ends q value h)
within_string Rest q (x ∷ xs) value f s h v = record {
  more = x ∷ xs ++ v.more;
  scalars = scalars_join (x ∷ xs) v.more s v.scalars;
  value = v.value;
  whole = record { first = x; own = xs; value = value; rest = v.more; is = h; after = v.whole; spelled = refl };
}

can_string : {W : Type 0} (Rest : List ℕ → List ℕ → W → Type 0) (q : StringAt) → GoodString q → ((v : List ℕ) → Viable (Rest v) []) → Viable (WithinString Rest q) []
can_string Rest q g on = within_string Rest q g.viable.more g.viable.value (no_final q g.going) g.viable.scalars g.viable.whole (on g.viable.value)

can_upto : {S W : Type 0} (Left : S → List ℕ → List ℕ → Type 0) (Rest : List ℕ → List ℕ → W → Type 0) (q : S) → Viable (Left q) [] → ((v : List ℕ) → Viable (Rest v) []) → Viable (Upto Left Rest q) []
can_upto Left Rest q k on =
    let v = on k.value in
    record { more = k.more ++ v.more; scalars = scalars_join k.more v.more k.scalars v.scalars; value = v.value; whole = record { own = k.more; value = k.value; rest = v.more; is = k.whole; after = v.whole; spelled = refl } }

can_dot : (stated : Statement) → Viable (Dotted LineEnd stated) []
can_dot stated = record { more = 46 ∷ []; scalars = refl; value = stated; whole = inr (record { rest = []; end = tt; spelled = refl; is = refl }) }

can_object : (s : Term) (p : List ℕ) → Viable (lines.Object LineEnd s p) []
can_object s p = let v = can_then (AfterObjectIri LineEnd s p) (can_dot _) in record { more = v.more; scalars = v.scalars; value = v.value; whole = inl v.whole }

after_p : (s : Term) (p : List ℕ) → Viable (Spaced (lines.Object LineEnd s p)) []
after_p s p = can_spaced (lines.Object LineEnd s p) (can_object s p)

after_s : (s : Term) → Viable (Spaced (lines.Predicate LineEnd s)) []
after_s s = can_spaced (lines.Predicate LineEnd s) (can_then (AfterPredicateIri LineEnd s) (after_p s (codes "a:")))

after_lexical : (s : Term) (p lexical : List ℕ) → Viable (lines.Suffix LineEnd s p lexical) []
after_lexical s p lexical = record { more = 46 ∷ []; scalars = refl; value = triple_of s p (string_of lexical); whole = inr (inl (record { rest = []; end = tt; spelled = refl; is = refl })) }

after_datatype : (s : Term) (p lexical datatype : List ℕ) → is_lang_string datatype ≡ false → Viable (AfterDatatype LineEnd s p lexical datatype) []
after_datatype s p lexical datatype f = let v = can_dot (triple_of s p (typed_of lexical datatype)) in record { more = v.more; scalars = v.scalars; value = v.value; whole = (f, v.whole) }

not_lang : (v : List ℕ) (b : Bool) → is_lang_string v ≡ b → (is_lang_string v ≡ true) ⊎ (is_lang_string v ≡ false)
not_lang v true e = inl e
not_lang v false e = inr e

can_datatype : (s : Term) (p lexical : List ℕ) (q : IriAt) → GoodIri q → Viable (WithinIri (AfterDatatype LineEnd s p lexical) q) []
can_datatype s p lexical q g =
    let v = g.viable.value in
    ⊎_elim
    (λ (e : is_lang_string v ≡ true).
    let k = longer q g.viable.more v g g.viable.whole g.viable.scalars in
    let f : is_lang_string (v ++ 97 ∷ []) ≡ false = ⊎_elim (λ (f : is_lang_string (v ++ 97 ∷ []) ≡ true). absurd (not_both v e f)) (λ (f : is_lang_string (v ++ 97 ∷ []) ≡ false). f) (not_lang (v ++ 97 ∷ []) _ refl) in
    within_iri (AfterDatatype LineEnd s p lexical) q k.0 (v ++ 97 ∷ []) g.going k.1 k.2 (after_datatype s p lexical (v ++ 97 ∷ []) f))
    (λ (f : is_lang_string v ≡ false). within_iri (AfterDatatype LineEnd s p lexical) q g.viable.more v g.going g.viable.scalars g.viable.whole (after_datatype s p lexical v f))
    (not_lang v _ refl)

typed_after : (s : Term) (p lexical : List ℕ) → Viable (Datatype LineEnd s p lexical) []
typed_after s p lexical =
    can_spaced (Then DatatypeToken (λ datatype. Dotted LineEnd (triple_of s p (typed_of lexical datatype))))
    (record { more = codes "<a:>."; scalars = refl; value = triple_of s p (typed_of lexical (codes "a:")); whole = record { own = codes "<a:>"; value = codes "a:"; rest = 46 ∷ []; token = (a_colon, refl); after = inr (record { rest = []; end = tt; spelled = refl; is = refl }); spelled = refl } })

-- from a state of a triple to one of a line
told : (s : LineAt) → Viable (LeftTriple LineEnd s) [] → Viable (LeftLine s) []
told s v = record { more = v.more; scalars = v.scalars; value = Some v.value; whole = inr (record { triple = v.value; stated = v.whole; is = refl }) }

pub can : (s : LineAt) → Good s → Viable (LeftLine s) []
can Begin g = record { more = []; scalars = refl; value = None; whole = inl (tt, refl) }
can (Subject (subjects.Iri q)) g = told (Subject (subjects.Iri q)) (can_iri (AfterSubjectIri LineEnd) q g (λ s. after_s (Iri s)))
can (Subject (subjects.Label q)) g = told (Subject (subjects.Label q)) (can_upto label_exactly.Left (AfterSubjectLabel LineEnd) q (label_exactly.can q) (λ s. after_s (Blank s)))
can (AfterSubject s) g = told (AfterSubject s) (after_s s)
can (Predicate s q) g = told (Predicate s q) (can_iri (AfterPredicateIri LineEnd s) q g (λ p. after_p s p))
can (AfterPredicate s p) g = told (AfterPredicate s p) (after_p s p)
can (Object s p (objects.Iri q)) g = told (Object s p (objects.Iri q)) (can_iri (AfterObjectIri LineEnd s p) q g (λ o. can_dot (triple_of s p (Iri o))))
can (Object s p (objects.Label q)) g = told (Object s p (objects.Label q)) (can_upto label_exactly.Left (AfterObjectLabel LineEnd s p) q (label_exactly.can q) (λ o. can_dot (triple_of s p (Blank o))))
can (Object s p (objects.Dot label)) g =
    told (Object s p (objects.Dot label))
    (record { more = []; scalars = refl; value = triple_of s p (Blank label); whole = record { own = []; value = label; rest = 46 ∷ []; is = (sym (append-nil label), refl); after = inr (record { rest = []; end = tt; spelled = refl; is = refl }); spelled = refl } })
can (Object s p (objects.String q)) g = told (Object s p (objects.String q)) (can_string (λ lexical. lines.Suffix LineEnd s p lexical) q g (λ lexical. after_lexical s p lexical))
can (Suffix s p lexical suffixes.Start) g = told (Suffix s p lexical suffixes.Start) (after_lexical s p lexical)
can (Suffix s p lexical (suffixes.Tag q)) g = told (Suffix s p lexical (suffixes.Tag q)) (can_upto tag_exactly.Left (AfterTag LineEnd s p lexical) q (tag_exactly.can q) (λ tag. can_dot (triple_of s p (tagged_of lexical tag))))
can (Suffix s p lexical suffixes.Caret) g =
    let v = typed_after s p lexical in
    told (Suffix s p lexical suffixes.Caret)
    (record { more = 94 ∷ v.more; scalars = scalars_join (94 ∷ []) v.more refl v.scalars; value = v.value; whole = record { rest = v.more; after = v.whole; spelled = refl } })
can (Suffix s p lexical suffixes.Carets) g = told (Suffix s p lexical suffixes.Carets) (typed_after s p lexical)
can (Suffix s p lexical (suffixes.Datatype q)) g = told (Suffix s p lexical (suffixes.Datatype q)) (can_datatype s p lexical q g)
can (AfterObject stated) g = told (AfterObject stated) (can_dot stated)
can (Ended stated) g = record { more = []; scalars = refl; value = Some stated; whole = inr (record { triple = stated; stated = (tt, refl); is = refl }) }
can (Comment None) g = record { more = []; scalars = refl; value = None; whole = inl (tt, refl) }
can (Comment (Some t)) g = record { more = []; scalars = refl; value = Some t; whole = inr (record { triple = t; stated = (tt, refl); is = refl }) }

-- That a graph document has one answer.
use Rattle.std.proofs.Common.{◌≡◌, refl, ℕ, ◌+◌, ◌<◌, ◌≤◌, false, nat_lt, List, [], ◌∷◌, ◌++◌, Option, Some, None, Ok, Err, option_to_list, length, ◌⊎◌, inl, inr, ⊎_elim, sym, ◌∙◌, ap, subst, arith, length-append}
use Rattle.std.specs.Char.{encode_utf8, IsScalar}
use Rattle.std.specs.Str.{encode_utf8_all}
use Rattle.std.proofs.lemmas.Bool.Decides.{nat_tests}
use Rattle.std.proofs.lemmas.List.{append-nil}
use Rattle.bye_terms.specs.Terms.{Statement}
use Rattle.bye_terms.proofs.Tests.{both_parts}
use Rattle.bye_lex.proofs.Branches.{some_same, none_some}
use Rattle.bye_ntriples.specs.Answers.{triple_limit, Passes, IsGraph}
use Rattle.bye_lex.specs.Stopping.{StopsAt, StopsAtEnd, LeavesOver}
use Rattle.bye_ntriples.specs.DocSteps.{DocAt, start, step, final, held, pending, count}
use Rattle.bye_ntriples.specs.Documents.{NtText}
use Rattle.bye_ntriples.specs.Laws.{NtAnswersOnce}
use Rattle.bye_ntriples.specs.LineSteps as line
use Rattle.bye_lex.specs.Running.{run}
use Rattle.bye_ntriples.specs.declared.fault.NtErr.TheVariants as faults
use Rattle.bye_ntriples.specs.declared.line.LineAt.{LineAt}
use Rattle.bye_ntriples.specs.declared.line.LineAt.TheVariants.{Begin, Subject, AfterSubject, Predicate, AfterPredicate, Object, Suffix, AfterObject, Ended, Comment}
use Rattle.bye_ntriples.specs.declared.line.ObjectAt.TheVariants as objects
use Rattle.bye_lex.proofs.Machines.{run_gives}
use Rattle.bye_ntriples.proofs.DocExact.{LeftDoc, GoodDoc, doc_machine, of_text, doc_ends, map_some}
use Rattle.bye_ntriples.proofs.Counting.{no_passes}
use Rattle.bye_ntriples.proofs.Reading.{none_before}
use Rattle.bye_lex.proofs.Fronts.{back_scalars, none_empty}
use Rattle.bye_lex.proofs.Stopped.{Halts, end_halts, halts_same, leaves_halts, leaves_same, next_halts}

-- a document halts at its end
graph_halts : (bytes : List ℕ) (triples : List Statement) (g : IsGraph bytes triples) → Halts NtText bytes g.doc.text []
graph_halts bytes triples g = end_halts NtText bytes g.doc.text g.doc.encoded g.doc.scalars (record { more = []; scalars = refl; value = triples; whole = subst (λ t. NtText t triples) (sym (append-nil g.doc.text)) g.doc.lines })

-- a character stands at the front
record Stands (left : List ℕ) : Type 0 where
  pub char : ℕ
  pub rest : List ℕ
  pub scalar : IsScalar char
  pub is : left ≡ encode_utf8 char ++ rest

-- where the bytes are refused for what their characters say
record Refused (bytes : List ℕ) (place : ℕ) : Type 0 where
  pub front : List ℕ
  pub left : List ℕ
  pub halts : Halts NtText bytes front left
  pub at : place ≡ length (encode_utf8_all front)
  pub why : Stands left ⊎ ((left ≡ []) × ((triples : List Statement) → NtText front triples → ⊥))

refused : (bytes : List ℕ) (place : ℕ) → StopsAt NtText bytes place ⊎ StopsAtEnd NtText bytes place → Refused bytes place
refused bytes place (inl s) = record {
  front = s.front;
  left = encode_utf8 s.next ++ s.rest;
  halts = next_halts NtText bytes s.front s.next s.rest s.parts s.scalars s.before s.after;
  at = s.at;
  why = inl (record { char = s.next; rest = s.rest; scalar = (both_parts _ _ (back_scalars s.front (s.next ∷ []) s.scalars)).0; is = refl });
}
refused bytes place (inr s) = record { front = s.text; left = []; halts = end_halts NtText bytes s.text s.encoded s.scalars s.viable; at = s.at ∙ ap length s.encoded; why = inr (refl, s.none) }

not_empty : (left : List ℕ) → left ≡ [] → 0 < length left → ⊥
not_empty left e some = let n = ap length e in omega (arith, n, some)

-- the machine ends a document with its triples
ends : (text : List ℕ) (triples : List Statement) → NtText text triples → (d : DocAt) × (run step start text ≡ Some d) × (final d ≡ Some triples)
ends text triples h =
    let n = run_gives LeftDoc step GoodDoc doc_machine start text [] triples tt (subst (λ t. LeftDoc start t triples) (sym (append-nil text)) (of_text text triples h)) in
    (n.0, n.1, doc_ends n.0 triples n.2)

-- two answers of one kind
graphs_same : (bytes : List ℕ) (a b : List Statement) → IsGraph bytes a → IsGraph bytes b → a ≡ b
graphs_same bytes a b g h =
    let same = halts_same NtText bytes g.doc.text h.doc.text [] [] (graph_halts bytes a g) (graph_halts bytes b h) in
    let x = ends g.doc.text a g.doc.lines in
    let y = ends h.doc.text b h.doc.lines in
    let state : x.0 ≡ y.0 = some_same (sym x.1 ∙ ap (run step start) same.0 ∙ y.1) in
    some_same (sym x.2 ∙ ap final state ∙ y.2)

refused_same : (bytes : List ℕ) (a b : ℕ) → Refused bytes a → Refused bytes b → a ≡ b
refused_same bytes a b x y = x.at ∙ ap (λ t. length (encode_utf8_all t)) (halts_same NtText bytes x.front y.front x.left y.left x.halts y.halts).0 ∙ sym y.at

-- and of two kinds
graph_refused : (bytes : List ℕ) (triples : List Statement) (place : ℕ) → IsGraph bytes triples → Refused bytes place → ⊥
graph_refused bytes triples place g r =
    let same = halts_same NtText bytes g.doc.text r.front [] r.left (graph_halts bytes triples g) r.halts in
    ⊎_elim (λ (k : Stands r.left). none_empty k.char k.rest k.scalar (same.1 ∙ k.is))
    (λ (k : (r.left ≡ []) × ((triples : List Statement) → NtText r.front triples → ⊥)). k.1 triples (subst (λ t. NtText t triples) same.0 g.doc.lines)) r.why

graph_leaves : (bytes : List ℕ) (triples : List Statement) (place : ℕ) → IsGraph bytes triples → LeavesOver NtText bytes place → ⊥
graph_leaves bytes triples place g l = not_empty l.left (sym (halts_same NtText bytes g.doc.text l.front [] l.left (graph_halts bytes triples g) (leaves_halts NtText bytes place l)).1) l.some

refused_leaves : (bytes : List ℕ) (a b : ℕ) → Refused bytes a → LeavesOver NtText bytes b → ⊥
refused_leaves bytes a b r l =
    let same = halts_same NtText bytes r.front l.front r.left l.left r.halts (leaves_halts NtText bytes b l) in
    ⊎_elim (λ (k : Stands r.left). l.none k.char k.rest k.scalar (sym same.1 ∙ k.is))
    (λ (k : (r.left ≡ []) × ((triples : List Statement) → NtText r.front triples → ⊥)). not_empty l.left (sym same.1 ∙ k.0) l.some) r.why

-- a line that ends has no more triples under way than it has
last_least : (s : LineAt) (fact : Option Statement) → line.final s ≡ Some fact → held s + pending s ≤ length (option_to_list fact)
last_least Begin fact e = omega arith
last_least (Subject q) fact e = none_some e
last_least (AfterSubject s) fact e = none_some e
last_least (Predicate s q) fact e = none_some e
last_least (AfterPredicate s p) fact e = none_some e
last_least (Object s p (objects.Iri q)) fact e = none_some e
last_least (Object s p (objects.Label m)) fact e = none_some e
last_least (Object s p (objects.Dot label)) fact e = let z = ap (λ f. length (option_to_list f)) (some_same e) in omega (arith, z)
last_least (Object s p (objects.String q)) fact e = none_some e
last_least (Suffix s p lexical q) fact e = none_some e
last_least (AfterObject stated) fact e = none_some e
last_least (Ended stated) fact e = let z = ap (λ f. length (option_to_list f)) (some_same e) in omega (arith, z)
last_least (Comment None) fact e = omega arith
last_least (Comment (Some v)) fact e = let z = ap (λ f. length (option_to_list f)) (some_same e) in omega (arith, z)

not_below : (a b : ℕ) → b ≤ a → nat_lt a b ≡ false
not_below a b e = grind (arith, nat_tests)

graph_passes : (bytes : List ℕ) (triples : List Statement) → IsGraph bytes triples → Passes bytes → ⊥
graph_passes bytes triples g p =
    let text = g.doc.text in
    let x = ends text triples g.doc.lines in
    let d = x.0 in
    let k = map_some (λ fact. d.done ++ option_to_list fact) (line.final d.at) triples x.2 in
    let c = last_least d.at k.0 k.1 in
    let l = length-append d.done (option_to_list k.0) in
    let z = ap length k.2 in
    let w = g.within in
    let small : count d + pending d.at ≤ triple_limit = omega (arith, c, l, z, w) in
    no_passes text [] d g.doc.scalars x.1 (none_before d [] none_empty) (not_below triple_limit (count d + pending d.at) small) (subst Passes (graph_halts bytes triples g).parts p)

pub one_answer : NtAnswersOnce
one_answer bytes (Ok a) (Ok b) x y = inr (inr (ap Ok (graphs_same bytes a b x y)))
one_answer bytes (Ok a) (Err (faults.Syntax q)) x y = absurd (graph_refused bytes a q x (refused bytes q y.0))
one_answer bytes (Ok a) (Err (faults.NotUtf8 q)) x y = absurd (graph_leaves bytes a q x y.0)
one_answer bytes (Ok a) (Err faults.TooMany) x y = absurd (graph_passes bytes a x y)
one_answer bytes (Ok a) (Err faults.Memory) x y = inr (inl refl)
one_answer bytes (Err (faults.Syntax p)) (Ok b) x y = absurd (graph_refused bytes b p y (refused bytes p x.0))
one_answer bytes (Err (faults.Syntax p)) (Err (faults.Syntax q)) x y = inr (inr (ap (λ n. Err (faults.Syntax n)) (refused_same bytes p q (refused bytes p x.0) (refused bytes q y.0))))
one_answer bytes (Err (faults.Syntax p)) (Err (faults.NotUtf8 q)) x y = absurd (refused_leaves bytes p q (refused bytes p x.0) y.0)
one_answer bytes (Err (faults.Syntax p)) (Err faults.TooMany) x y = absurd (x.1 y)
one_answer bytes (Err (faults.Syntax p)) (Err faults.Memory) x y = inr (inl refl)
one_answer bytes (Err (faults.NotUtf8 p)) (Ok b) x y = absurd (graph_leaves bytes b p y x.0)
one_answer bytes (Err (faults.NotUtf8 p)) (Err (faults.Syntax q)) x y = absurd (refused_leaves bytes q p (refused bytes q y.0) x.0)
one_answer bytes (Err (faults.NotUtf8 p)) (Err (faults.NotUtf8 q)) x y = inr (inr (ap (λ n. Err (faults.NotUtf8 n)) (leaves_same NtText bytes p q x.0 y.0)))
one_answer bytes (Err (faults.NotUtf8 p)) (Err faults.TooMany) x y = absurd (x.1 y)
one_answer bytes (Err (faults.NotUtf8 p)) (Err faults.Memory) x y = inr (inl refl)
one_answer bytes (Err faults.TooMany) (Ok b) x y = absurd (graph_passes bytes b y x)
one_answer bytes (Err faults.TooMany) (Err (faults.Syntax q)) x y = absurd (y.1 x)
one_answer bytes (Err faults.TooMany) (Err (faults.NotUtf8 q)) x y = absurd (y.1 x)
one_answer bytes (Err faults.TooMany) (Err faults.TooMany) x y = inr (inr refl)
one_answer bytes (Err faults.TooMany) (Err faults.Memory) x y = inr (inl refl)
one_answer bytes (Err faults.Memory) other x y = inl refl

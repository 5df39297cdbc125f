-- What the answers of a query document are, and why there may be none.
use Rattle.std.proofs.Common.{◌≡◌, refl, ℕ, suc, ◌<◌, ◌≤◌, List, [], ◌∷◌, map, length, Result, Ok, Err, Some, inl, inr, ◌⊎◌, ⊎_elim, ◌↔◌, sym, ◌∙◌, ap, subst, arith}
use Rattle.std.specs.List.Sorted.{IsStrictlySortedBy}
use Rattle.std.specs.Str.{chars, encode_utf8_all}
use Rattle.bye_terms.specs.Members.{In, EachOnce}
use Rattle.bye_terms.specs.Terms.{Statement}
use Rattle.bye_terms.proofs.Readings.{some_same}
use Rattle.bye_table.specs.Mappings.{Mapping, row_mapping}
use Rattle.bye_table.specs.Sorted.{IsSortedSet, mapping_cmp, mappings}
use Rattle.bye_table.specs.Tables.{TableValue}
use Rattle.bye_ntriples.specs.Answers.{NtAnswer, triple_limit}
use Rattle.bye_ntriples.specs.declared.fault.NtErr.{NtErr}
use Rattle.bye_ntriples.specs.declared.fault.NtErr.TheVariants as errors
use Rattle.bye_pattern.specs.Algebra.{IsAnswer}
use Rattle.bye_pattern.specs.Gathered.{IsDesignedEarly, IsWrittenAnswer, gather}
use Rattle.bye_pattern.specs.Trees.{Select, alg}
use Rattle.bye_pattern.specs.Written.{Written}
use Rattle.bye_laws.proofs.WrittenRows.{written_answers}
use Rattle.bye_grammar.specs.Documents.{QueryText}
use Rattle.bye_grammar.proofs.ValidRules.{documents_valid}
use Rattle.bye_graph.specs.Graphs.{most_triples}
use Rattle.bye_query.specs.Answers.{IsRead, QueryAnswer}
use Rattle.bye_query.specs.declared.query_err.QueryErr.{QueryErr}
use Rattle.bye_query.specs.declared.query_err.QueryErr.TheVariants as query_errors
use Rattle.bye_query.proofs.OneAnswer.{one_query}
use Rattle.bye_query.proofs.Tokens.{all_valid}
use Rattle.bye_member.specs.Answers.{AreAnswers, HasMore, most_rows}
use Rattle.bye_words.specs.Pairs.{Word}
use Rattle.bye_words.specs.declared.refusal.Refusal.{Refusal}
use Rattle.bye_words.specs.declared.refusal.Refusal.TheVariants as refusals
use Rattle.bye_cli.specs.Answering.{IsAnswerTable, IsNoTable}
use Rattle.bye_cli.specs.Causes.{IsCause}
use Rattle.bye_cli.specs.Documents.{Files, Document, OfGraph, OfQuery, Triples, Asks, Good, Verdict, IsVerdict, HasVerdict, graph_verdict, query_verdict}
use Rattle.bye_cli.specs.Running.{AreAsWritten}
use Rattle.bye_cli.specs.Words.{IsRun, Run}
use Rattle.bye_cli.specs.declared.table_form.WrittenForm.{WrittenForm}
use Rattle.bye_cli.proofs.Members.{same_answers}

-- the triples and the query that a verdict says, where it says any
triples_of : Verdict → List Statement → List Statement
triples_of (Good (Triples triples)) other = triples
triples_of verdict other = other

query_of : Verdict → Select → Select
query_of (Good (Asks query)) other = query
query_of verdict other = other

same_triples : {ts us : List Statement} → ◌≡◌ {A = Verdict} (Good (Triples ts)) (Good (Triples us)) → ts ≡ us
unfolding triples_of
same_triples {ts} e = ap (λ v. triples_of v ts) e

same_query : {q r : Select} → ◌≡◌ {A = Verdict} (Good (Asks q)) (Good (Asks r)) → q ≡ r
unfolding query_of
same_query {q} e = ap (λ v. query_of v q) e

past : (most many rows size : ℕ) → most < many → many ≤ rows → rows ≡ size → size ≤ most → ⊥
past most many rows size a b c d = omega arith

-- a list without one of its elements
without : {X : Type 0} (ys : List X) (x : X) → In ys x → (zs : List X) × (length ys ≡ suc (length zs)) × ((y : X) → In ys y → (y ≡ x) ⊎ In zs y)
without [] x h = absurd h
without (y ∷ ys) x (inl e) = (ys, refl, λ z h. ⊎_elim (λ k. inl (sym k ∙ e)) (λ k. inr k) h)
without (y ∷ ys) x (inr h) =
    let w = without ys x h in
    (y ∷ w.0, ap suc w.1, λ z k. ⊎_elim (λ e. inr (inl e)) (λ m. ⊎_elim (λ e. inl e) (λ n. inr (inr n)) (w.2 z m)) k)

-- different elements of a list are no more than it has
no_more : {X : Type 0} (xs ys : List X) → EachOnce xs → ((x : X) → In xs x → In ys x) → length xs ≤ length ys
no_more [] ys once h = omega arith
no_more (x ∷ xs) ys once h =
    let w = without ys x (h x (inl refl)) in
    let rest = no_more xs w.0 once.1 (λ z k. ⊎_elim (λ e. absurd (once.0 (subst (λ z. In xs z) e k))) (λ m. m) (w.2 z (h z (inr k)))) in
    omega (arith, rest, w.1)

mapped : {X Y : Type 0} (f : X → Y) (xs : List X) → length (map f xs) ≡ length xs
mapped f [] = refl
mapped f (x ∷ xs) = ap suc (mapped f xs)

-- the answers over the triples that a graph was built of, sorted
module _ (g triples : List Statement) (same : (f : Statement) → In g f ↔ In triples f) (q : Select) where
  pub sorted_answers : (t s : TableValue) → AreAnswers g q t → IsSortedSet t s → IsAnswerTable triples q s
  sorted_answers t s answers sorted = record {
    vars = sorted.vars ∙ answers.vars;
    exactly = λ m. (
      (λ h. (same_answers g triples same q.vars (alg q) m).0 (answers.only m (sorted.among m h))),
      (λ h. sorted.whole m (answers.whole m ((same_answers g triples same q.vars (alg q) m).1 h))),
    );
    rises = subst (λ vars. IsStrictlySortedBy (mapping_cmp vars) (mappings s)) (sym sorted.vars) sorted.rises;
    few = λ more. too_many more.0 more.1 more.2 more.3;
  }
    where
      too_many : (ms : List Mapping) → EachOnce ms → most_rows < length ms → ((m : Mapping) → In ms m → IsAnswer triples q.vars (alg q) m) → ⊥
      too_many ms once many are =
          let fit = no_more ms (mappings t) once (λ m h. answers.whole m ((same_answers g triples same q.vars (alg q) m).1 (are m h))) in
          let size : length (mappings t) ≡ length t.rows = mapped row_mapping t.rows in
          let few : length t.rows ≤ most_rows = answers.few in
          past most_rows (length ms) (length (mappings t)) (length t.rows) many fit size few

  pub more_answers : HasMore g q → HasMore triples q
  more_answers more = (more.0, more.1, more.2, λ m h. (same_answers g triples same q.vars (alg q) m).0 (more.3 m h))

-- a graph document has no more triples than a graph is built of
few_read : (bytes : List ℕ) (triples : List Statement) (answer : Result (List Statement) NtErr) → NtAnswer bytes answer → graph_verdict answer ≡ Some (Good (Triples triples)) → length triples ≤ most_triples
unfolding triple_limit
few_read bytes triples (Ok read) is e = subst (λ (ts : List Statement). length ts ≤ most_triples) (same_triples (some_same e)) is.within
few_read bytes triples (Err (errors.Syntax place)) is e = cc
few_read bytes triples (Err (errors.NotUtf8 place)) is e = cc
few_read bytes triples (Err errors.TooMany) is e = cc
few_read bytes triples (Err errors.Memory) is e = cc

few_judged : (bytes : List ℕ) (triples : List Statement) → IsVerdict OfGraph bytes (Good (Triples triples)) → length triples ≤ most_triples
few_judged bytes triples (inl h) = let c = h.1 in cc
few_judged bytes triples (inr h) = few_read bytes triples h.1.0 h.1.1 h.1.2

pub few_triples : (files : Files) (name : Word) (triples : List Statement) → HasVerdict files (OfGraph, name) (Good (Triples triples)) → length triples ≤ most_triples
few_triples files name triples held = few_judged held.bytes triples held.judged

-- the answers of the select as which a document is read are those of what is written there
written_same : (graph : List Statement) (query : Select) (bytes : List ℕ) (table : TableValue) → IsRead bytes query → IsAnswerTable graph query table → AreAsWritten graph bytes table
written_same graph query bytes table read answers w text m =
    let one : read.document.written ≡ w = one_query bytes read.document.written w read.document.text text in
    let early : IsDesignedEarly w = subst IsDesignedEarly one read.document.early in
    let same : query ≡ gather w = read.document.read_as ∙ ap gather one in
    let plain = (documents_valid text.tokens w (all_valid (length (encode_utf8_all (chars bytes))) (chars bytes) text.tokens text.split) text.derives).optionals in
    let law = written_answers graph w m early plain in
    let of_tree = subst (λ (q : Select). In (mappings table) m ↔ IsAnswer graph q.vars (alg q) m) same (answers.exactly m) in
    ((λ h. law.1 (of_tree.0 h)), (λ h. of_tree.1 (law.0 h)))

read_select : (bytes : List ℕ) (query : Select) (answer : Result Select QueryErr) → QueryAnswer bytes answer → query_verdict answer ≡ Some (Good (Asks query)) → IsRead bytes query
read_select bytes query (Ok q) is e = subst (IsRead bytes) (same_query (some_same e)) is
read_select bytes query (Err query_errors.TooLong) is e = cc
read_select bytes query (Err (query_errors.NotUtf8 place)) is e = cc
read_select bytes query (Err (query_errors.Syntax place)) is e = cc
read_select bytes query (Err (query_errors.LeftOut place feature)) is e = cc
read_select bytes query (Err (query_errors.UnknownPrefix place)) is e = cc
read_select bytes query (Err (query_errors.TooDeep place)) is e = cc
read_select bytes query (Err (query_errors.Broken shape)) is e = cc
read_select bytes query (Err query_errors.Projected) is e = cc
read_select bytes query (Err query_errors.Memory) is e = cc

pub as_written : (graph : List Statement) (query : Select) (bytes : List ℕ) (table : TableValue) → IsVerdict OfQuery bytes (Good (Asks query)) → IsAnswerTable graph query table → AreAsWritten graph bytes table
as_written graph query bytes table (inl h) answers = let c = h.1 in cc
as_written graph query bytes table (inr h) answers = written_same graph query bytes table (read_select bytes query h.1.0 h.1.1 h.1.2) answers

-- where there is no table, there is no answer
pub no_table : (files : Files) (words : List Word) (before now : ℕ) (refusal : Refusal) (graph_name query_name : Word) (form : WrittenForm) (graph : List Statement) (query : Select)
    → IsRun words graph_name query_name form → HasVerdict files (OfGraph, graph_name) (Good (Triples graph)) → HasVerdict files (OfQuery, query_name) (Good (Asks query))
    → IsNoTable graph query refusal → IsCause files words before now refusal
no_table files words before now refusals.Answers graph_name query_name form graph query run held asked h =
    (graph, query, form, record { graph_name = graph_name; query_name = query_name; run = run; graph_held = held; query_held = asked }, h)
no_table files words before now refusals.Memory graph_name query_name form graph query run held asked h = (Run graph_name query_name form, run)
no_table files words before now refusals.Words graph_name query_name form graph query run held asked h = absurd h
no_table files words before now (refusals.Document role fault) graph_name query_name form graph query run held asked h = absurd h
no_table files words before now (refusals.Limit role count) graph_name query_name form graph query run held asked h = absurd h
no_table files words before now (refusals.ReadFault role) graph_name query_name form graph query run held asked h = absurd h
no_table files words before now refusals.WriteFault graph_name query_name form graph query run held asked h = absurd h
no_table files words before now refusals.LinkFault graph_name query_name form graph query run held asked h = absurd h
no_table files words before now (refusals.Example example) graph_name query_name form graph query run held asked h = absurd h
no_table files words before now (refusals.Remote remote) graph_name query_name form graph query run held asked h = absurd h

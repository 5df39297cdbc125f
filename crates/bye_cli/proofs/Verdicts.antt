-- A document's bytes have one verdict, but for which of its faults or limits is told.
use Rattle.std.proofs.Common.{◌≡◌, refl, ℕ, ◌<◌, ◌≤◌, List, length, Option, Some, None, Result, Ok, Err, ◌⊎◌, inl, inr, ⊎_elim, sym, ◌∙◌, ap, subst, arith}
use Rattle.bye_io.specs.Files.{Lacks}
use Rattle.bye_terms.proofs.Readings.{some_same}
use Rattle.bye_ntriples.specs.Answers.{NtAnswer}
use Rattle.bye_ntriples.specs.declared.fault.NtErr.TheVariants as graph_errors
use Rattle.bye_ntriples.proofs.OneAnswer.{one_answer as one_graph}
use Rattle.bye_tsv.specs.OneAnswer.{TsvAnswer}
use Rattle.bye_tsv.specs.declared.fault.TsvErr.TheVariants as tsv_errors
use Rattle.bye_tsv.proofs.OneAnswer.{one_answer as one_tsv}
use Rattle.bye_json.specs.Answers.{JsonAnswer}
use Rattle.bye_json.specs.declared.json_err.JsonErr.TheVariants as json_errors
use Rattle.bye_json.proofs.OneAnswer.{one_answer as one_json}
use Rattle.bye_pattern.specs.Trees.{Select}
use Rattle.bye_query.specs.Answers.{Agree, QueryAnswer, Told, TooMuch, TooManyOpen, NoQuery, Nothing, told}
use Rattle.bye_query.specs.declared.query_err.QueryErr.{QueryErr}
use Rattle.bye_query.specs.declared.query_err.QueryErr.TheVariants as query_errors
use Rattle.bye_query.proofs.OneAnswer.{one_answer as one_query}
use Rattle.bye_cli.specs.Documents.{Files, Document, Kind, OfGraph, OfQuery, OfTable, Reads, IsRead, bounds_of, graph_verdict, json_verdict, query_verdict, tsv_verdict, limit_of, most_rows, most_vars, Value, Asks, Verdict, TooMany, Faulty, Good, IsVerdict, HasVerdict}
use Rattle.bye_cli.specs.declared.table_form.TableForm.TheVariants.{Tsv, Json}
use Rattle.bye_words.specs.declared.count.Count.{Count}
use Rattle.bye_words.specs.declared.fault.Fault.{Fault}

-- two answers of which none is want of memory have one verdict, where they are one
one_reading : {A : Type 0} (IsAnswer : A → Type 0) (verdict_of : A → Option Verdict) (memory : A) (v w : Verdict) → verdict_of memory ≡ None
    → ((a b : A) → IsAnswer a → IsAnswer b → (a ≡ memory) ⊎ ((b ≡ memory) ⊎ (a ≡ b))) → Reads IsAnswer verdict_of v → Reads IsAnswer verdict_of w → v ≡ w
one_reading IsAnswer verdict_of memory v w none one (a, is, e) (b, so, f) =
    ⊎_elim (λ k. missing a v k e) (λ r. ⊎_elim (λ k. missing b w k f) (λ k. some_same (sym e ∙ ap verdict_of k ∙ f)) r) (one a b is so)
  where
    missing : {X : Type 0} (a : _) (v : Verdict) → a ≡ memory → verdict_of a ≡ Some v → X
    missing a v k e = let c = sym none ∙ ap verdict_of (sym k) ∙ e in cc

-- verdicts that say the same value, or none
abbrev Like : Verdict → Verdict → Type 0
Like (TooMany c) (TooMany d) = Unit {0}
Like (Faulty f) (Faulty g) = Unit {0}
Like (Good v) (Good w) = v ≡ w
Like _ _ = ⊥

like_self : (v : Verdict) → Like v v
like_self (TooMany c) = tt
like_self (Faulty f) = tt
like_self (Good v) = refl

like : (v w : Verdict) → v ≡ w → Like v w
like v w e = subst (λ w. Like v w) e (like_self v)

-- the verdicts on queries
abbrev IsOf : Told → Verdict → Type 0
IsOf TooMuch (TooMany count) = Unit {0}
IsOf TooManyOpen (TooMany count) = Unit {0}
IsOf NoQuery (Faulty fault) = Unit {0}
IsOf _ _ = ⊥

like_told : (t : Told) (v w : Verdict) → IsOf t v → IsOf t w → Like v w
like_told TooMuch (TooMany c) (TooMany d) h k = tt
like_told TooMuch (TooMany c) (Faulty g) h k = k
like_told TooMuch (TooMany c) (Good w) h k = k
like_told TooMuch (Faulty f) w h k = absurd h
like_told TooMuch (Good v) w h k = absurd h
like_told TooManyOpen (TooMany c) (TooMany d) h k = tt
like_told TooManyOpen (TooMany c) (Faulty g) h k = k
like_told TooManyOpen (TooMany c) (Good w) h k = k
like_told TooManyOpen (Faulty f) w h k = absurd h
like_told TooManyOpen (Good v) w h k = absurd h
like_told NoQuery (TooMany c) w h k = absurd h
like_told NoQuery (Faulty f) (TooMany d) h k = k
like_told NoQuery (Faulty f) (Faulty g) h k = tt
like_told NoQuery (Faulty f) (Good w) h k = k
like_told NoQuery (Good v) w h k = absurd h
like_told Nothing v w h k = absurd h

is_of : (error : QueryErr) (verdict : Verdict) → query_verdict (Err error) ≡ Some verdict → IsOf (told error) verdict
is_of query_errors.TooLong v e = subst (IsOf TooMuch) (some_same e) tt
is_of (query_errors.NotUtf8 place) v e = subst (IsOf NoQuery) (some_same e) tt
is_of (query_errors.Syntax place) v e = subst (IsOf NoQuery) (some_same e) tt
is_of (query_errors.LeftOut place feature) v e = subst (IsOf NoQuery) (some_same e) tt
is_of (query_errors.UnknownPrefix place) v e = subst (IsOf NoQuery) (some_same e) tt
is_of (query_errors.TooDeep place) v e = subst (IsOf TooManyOpen) (some_same e) tt
is_of (query_errors.Broken shape) v e = subst (IsOf NoQuery) (some_same e) tt
is_of query_errors.Projected v e = subst (IsOf NoQuery) (some_same e) tt
is_of query_errors.Memory v e = cc

no_memory : {X : Type 0} (error : QueryErr) (v : Verdict) → error ≡ query_errors.Memory → query_verdict (Err error) ≡ Some v → X
no_memory error v m e = let c = sym (ap (λ x. query_verdict (Err x)) m) ∙ e in cc

agreed : (a b : Result Select QueryErr) (v w : Verdict) → Agree a b → query_verdict a ≡ Some v → query_verdict b ≡ Some w → Like v w
agreed (Ok q) (Ok r) v w same e f = like v w (sym (some_same e) ∙ (ap (λ q. Good (Asks q)) same ∙ some_same f))
agreed (Ok q) (Err y) v w m e f = no_memory y w m f
agreed (Err x) (Ok r) v w m e f = no_memory x v m e
agreed (Err x) (Err y) v w (inl m) e f = no_memory x v m e
agreed (Err x) (Err y) v w (inr (inl m)) e f = no_memory y w m f
agreed (Err x) (Err y) v w (inr (inr t)) e f = like_told (told y) v w (subst (λ t. IsOf t v) t (is_of x v e)) (is_of y w f)

one_read : (kind : Kind) (bytes : List ℕ) (v w : Verdict) → IsRead kind bytes v → IsRead kind bytes w → Like v w
one_read OfGraph bytes v w h k = like v w (one_reading (NtAnswer bytes) graph_verdict (Err graph_errors.Memory) v w refl (one_graph bytes) h k)
one_read OfQuery bytes v w h k = agreed h.0 k.0 v w (one_query bytes h.0 k.0 h.1 k.1) h.2 k.2
one_read (OfTable role Tsv) bytes v w h k = like v w (one_reading (TsvAnswer (bounds_of role) bytes) tsv_verdict (Err tsv_errors.Memory) v w refl (one_tsv (bounds_of role) bytes) h k)
one_read (OfTable role Json) bytes v w h k =
    like v w (one_reading (JsonAnswer bytes (most_vars role) (most_rows role)) json_verdict (Err json_errors.Memory) v w refl (one_json bytes (most_vars role) (most_rows role)) h k)

past : {X : Type 0} (m n : ℕ) → m < n → n ≤ m → X
past m n h k = absurd (omega arith)

one_verdict : (kind : Kind) (bytes : List ℕ) (v w : Verdict) → IsVerdict kind bytes v → IsVerdict kind bytes w → Like v w
one_verdict kind bytes v w (inl h) (inl k) = like v w (h.1 ∙ sym k.1)
one_verdict kind bytes v w (inl h) (inr k) = past (limit_of kind) (length bytes) h.0 k.0
one_verdict kind bytes v w (inr h) (inl k) = past (limit_of kind) (length bytes) k.0 h.0
one_verdict kind bytes v w (inr h) (inr k) = one_read kind bytes v w h.1 k.1

-- a document is not there, passes a limit, is not of its form, or says a value
pub data State : Type 0 where
  Absent : State
  Long : State
  Wrong : State
  Says : Value → State

abbrev pub HasState : Files → Document → State → Type 0
HasState files d Absent = Lacks files d.1
HasState files d Long = (count : Count) × HasVerdict files d (TooMany count)
HasState files d Wrong = (fault : Fault) × HasVerdict files d (Faulty fault)
HasState files d (Says value) = HasVerdict files d (Good value)

-- what is there is not lacking
there : {X : Type 0} (files : List ℕ → Option (List ℕ)) (d : Document) (v : Verdict) → Lacks (Some files) d.1 → HasVerdict (Some files) d v → X
there files d v h k = let held = k.held in cc

judged : (files : List ℕ → Option (List ℕ)) (d : Document) (v w : Verdict) → HasVerdict (Some files) d v → HasVerdict (Some files) d w → Like v w
judged files d v w h k =
    let e = sym h.held ∙ k.held in
    let same : h.bytes ≡ k.bytes = cc in
    one_verdict d.0 k.bytes v w (subst (λ (bytes : List ℕ). IsVerdict d.0 bytes v) same h.judged) k.judged

pub one_state : (files : List ℕ → Option (List ℕ)) (d : Document) (s t : State) → HasState (Some files) d s → HasState (Some files) d t → s ≡ t
one_state files d Absent Absent h k = refl
one_state files d Absent Long h k = there files d (TooMany k.0) h k.1
one_state files d Absent Wrong h k = there files d (Faulty k.0) h k.1
one_state files d Absent (Says w) h k = there files d (Good w) h k
one_state files d Long Absent h k = there files d (TooMany h.0) k h.1
one_state files d Long Long h k = refl
one_state files d Long Wrong h k = absurd (judged files d (TooMany h.0) (Faulty k.0) h.1 k.1)
one_state files d Long (Says w) h k = absurd (judged files d (TooMany h.0) (Good w) h.1 k)
one_state files d Wrong Absent h k = there files d (Faulty h.0) k h.1
one_state files d Wrong Long h k = absurd (judged files d (Faulty h.0) (TooMany k.0) h.1 k.1)
one_state files d Wrong Wrong h k = refl
one_state files d Wrong (Says w) h k = absurd (judged files d (Faulty h.0) (Good w) h.1 k)
one_state files d (Says v) Absent h k = there files d (Good v) k h
one_state files d (Says v) Long h k = absurd (judged files d (Good v) (TooMany k.0) h k.1)
one_state files d (Says v) Wrong h k = absurd (judged files d (Good v) (Faulty k.0) h k.1)
one_state files d (Says v) (Says w) h k = ap Says (judged files d (Good v) (Good w) h k)

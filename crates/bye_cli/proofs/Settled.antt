-- Each status from its cause, and its cause from each status.
use Rattle.std.proofs.Common.{◌≡◌, refl, ℕ, ◌≤◌, List, Option, Ok, Err, inl, inr, ◌⊎◌, ⊎_elim, sym, ◌∙◌, ap, subst, ◌↔◌, arith}
use Rattle.bye_io.specs.Counts.{Rose}
use Rattle.bye_terms.specs.Terms.{Statement}
use Rattle.bye_table.specs.Tables.{TableValue}
use Rattle.bye_words.specs.Pairs.{Word}
use Rattle.bye_words.specs.Forms.{convert, convert_table, learn}
use Rattle.bye_cli.specs.Words.{IsLearn, IsNoCommand, IsRun, IsSomeCommand, IsSomeConvert, IsSomeRun}
use Rattle.bye_cli.specs.Documents.{Files, IsTold}
use Rattle.bye_cli.specs.Problem.{IsAsked, IsQueryText, IsRefusalLine, IsDoneOutput, IsRefusedOutput, IsOutput}
use Rattle.bye_cli.specs.Converting.{IsConverted, IsTableConverted, IsConversion}
use Rattle.bye_cli.specs.Running.{IsCrowded, IsRan, IsRunning}
use Rattle.bye_cli.specs.declared.table_form.TableForm.{TableForm}
use Rattle.bye_cli.specs.declared.table_form.WrittenForm.{WrittenForm}
use Rattle.bye_cli.specs.Headline.{NoneFits, Headline}
use Rattle.bye_cli.specs.Causes.{IsCause, IsReason, IsFailure, IsFaulty, IsPast, IsUnreadable, IsMissing, IsWithoutRow, IsQuiet, IsAskedCase}
use Rattle.bye_words.specs.Lines.{err_line}
use Rattle.bye_words.specs.Statuses.{number_of, status_of}
use Rattle.bye_cli.specs.Messages.{SendsLine, IsReport, IsMessage}
use Rattle.bye_cli.specs.Statuses.{outcome_status, IsAnswered, InUtf8, Sends, SendsPart}
use Rattle.bye_cli.specs.Statuses.{Outcome}
use Rattle.bye_cli.specs.declared.ending.Ending.TheVariants as endings
use Rattle.bye_words.specs.declared.refusal.Refusal.{Refusal}
use Rattle.bye_words.specs.declared.refusal.Refusal.TheVariants as refusals
use Rattle.bye_words.specs.declared.status.Status.{Status}
use Rattle.bye_words.specs.declared.status.Status.TheVariants as statuses
use Rattle.bye_cli.proofs.Commands.{not_both, not_run, not_table}
use Rattle.bye_cli.proofs.Exclusive.{Ending, Faults, Past, Missing, Bare, Crowded, Asked, Ends, one_ending, some_command, same_given}

-- what a run tells of how it ends
pub record Run (files : Files) (words : List Word) (before now out_before out_now : ℕ) (sent sent_now : Option (List ℕ)) (outcome : Outcome) : Type 0 where
  pub done : outcome ≡ Ok endings.Done → Sends (IsDoneOutput files words) sent sent_now
  pub refused : outcome ≡ Ok endings.Refused → Sends (IsRefusedOutput files words) sent sent_now
  pub write_fault : outcome ≡ Err refusals.WriteFault → SendsPart (IsOutput files words) sent sent_now
  pub write_rose : outcome ≡ Err refusals.WriteFault → Rose out_before out_now
  pub failed : IsFailure files words before now outcome

done_asked : (files : Files) (words : List Word) (bytes : List ℕ) → IsDoneOutput files words bytes → Ends files words Asked
done_asked files words bytes (inl k) = inl (k.1.graph, k.1.wanted, k.1.asked)
done_asked files words bytes (inr (inl k)) = inr (inl (k.graph, k.asked))
done_asked files words bytes (inr (inr (inl k))) = inr (inr (inl (k.table, k.to, k.asked)))
done_asked files words bytes (inr (inr (inr k))) = inr (inr (inr (k.graph, k.query, k.form, k.asked, k.answers.few)))

refused_asked : (files : Files) (words : List Word) (bytes : List ℕ) → IsRefusedOutput files words bytes → Ends files words Asked
refused_asked files words bytes h = inl (h.1.graph, h.1.wanted, h.1.asked)

output_asked : (files : Files) (words : List Word) (bytes : List ℕ) → IsOutput files words bytes → Ends files words Asked
output_asked files words bytes h = ⊎_elim (λ k. done_asked files words bytes k) (λ k. refused_asked files words bytes k) h

-- the statuses that stand for a way to end
abbrev pub Matches : Ending → Status → Type 0
Matches Faults status = status ≡ statuses.Document
Matches Past status = status ≡ statuses.Limit
Matches Missing status = status ≡ statuses.ReadFault
Matches Bare status = status ≡ statuses.Example
Matches Crowded status = status ≡ statuses.Limit
Matches Asked status = (status ≡ statuses.Done) ⊎ ((status ≡ statuses.Refused) ⊎ (status ≡ statuses.WriteFault))

-- why a command fails, but that its output could not be written
cause_of : (files : Files) (words : List Word) (before now : ℕ) (refusal : Refusal) → IsReason files words before now refusal → (refusal ≡ refusals.WriteFault → ⊥) → IsCause files words before now refusal
cause_of files words before now refusal h other = ⊎_elim (λ c. c) (λ k. absurd (other k.0)) h

missing_of : (files : Files) (words : List Word) (before now : ℕ) (role : _) → IsUnreadable files words before now role → Rose before now ⊎ IsMissing files words
missing_of files words before now role h = ⊎_elim (λ rose. inl rose) (λ lacks. inr (h.command, h.is, (h.document, h.reached, lacks))) h.cause

-- the way to end that an outcome shows, or want of memory, or words that are no command's, or a count that rose
data Shown (files : Files) (words : List Word) (before now : ℕ) (status : Status) : Type 0 where
  Way : (e : Ending) → Ends files words e → Matches e status → Shown files words before now status
  NoMemory : status ≡ statuses.Memory → IsSomeCommand words → Shown files words before now status
  NoWords : status ≡ statuses.Words → IsNoCommand words → Shown files words before now status
  Risen : status ≡ statuses.ReadFault → Rose before now → IsSomeCommand words → Shown files words before now status

shown : (files : Files) (words : List Word) (before now out_before out_now : ℕ) (sent sent_now : Option (List ℕ)) (outcome : Outcome)
    → Run files words before now out_before out_now sent sent_now outcome → Shown files words before now (outcome_status outcome)
shown files words before now ob on s t (Ok endings.Done) run = let w = run.done refl in Way Asked (done_asked files words w.0 w.1) (inl refl)
shown files words before now ob on s t (Ok endings.Refused) run = let w = run.refused refl in Way Asked (refused_asked files words w.0 w.1) (inr (inl refl))
shown files words before now ob on s t (Err refusals.Words) run = NoWords refl (cause_of files words before now refusals.Words run.failed (λ e. cc))
shown files words before now ob on s t (Err (refusals.Document role fault)) run =
    Way Faults (role, fault, cause_of files words before now (refusals.Document role fault) run.failed (λ e. cc)) refl
shown files words before now ob on s t (Err (refusals.Limit role count)) run =
    Way Past (role, count, cause_of files words before now (refusals.Limit role count) run.failed (λ e. cc)) refl
shown files words before now ob on s t (Err (refusals.ReadFault role)) run =
    let h = cause_of files words before now (refusals.ReadFault role) run.failed (λ e. cc) in
    ⊎_elim (λ rose. Risen refl rose (h.command, h.is)) (λ missing. Way Missing missing refl) (missing_of files words before now role h)
shown files words before now ob on s t (Err refusals.WriteFault) run = let w = run.write_fault refl in Way Asked (output_asked files words w.0 w.1) (inr (inr refl))
shown files words before now ob on s t (Err refusals.Memory) run = NoMemory refl (cause_of files words before now refusals.Memory run.failed (λ e. cc))
shown files words before now ob on s t (Err (refusals.Example example)) run = Way Bare (cause_of files words before now (refusals.Example example) run.failed (λ e. cc)).1 refl
shown files words before now ob on s t (Err refusals.Answers) run = Way Crowded (cause_of files words before now refusals.Answers run.failed (λ e. cc)) refl
shown files words before now ob on s t (Err refusals.LinkFault) run = absurd (cause_of files words before now refusals.LinkFault run.failed (λ e. cc))
shown files words before now ob on s t (Err (refusals.Remote remote)) run = absurd (cause_of files words before now (refusals.Remote remote) run.failed (λ e. cc))

-- where the folder's count did not rise, the status is Memory or one that stands for the way to end
settled_of : (files : Files) (words : List Word) (before now : ℕ) (status : Status) → Shown files words before now status → IsQuiet files before now
    → (e : Ending) → Ends files words e → Matches e status ⊎ (status ≡ statuses.Memory)
settled_of files words before now status (Way f k m) quiet e h = inl (subst (λ e. Matches e status) (one_ending files words f e quiet.told k h) m)
settled_of files words before now status (NoMemory is some) quiet e h = inr is
settled_of files words before now status (NoWords is none) quiet e h = let c = some_command files words e h in absurd (none c.0 c.1)
settled_of files words before now status (Risen is rose some) quiet e h = absurd (quiet.rose rose)

pub settled : (files : Files) (words : List Word) (before now out_before out_now : ℕ) (sent sent_now : Option (List ℕ)) (outcome : Outcome)
    → Run files words before now out_before out_now sent sent_now outcome → (status : Status) → status ≡ outcome_status outcome → IsQuiet files before now
    → (e : Ending) → Ends files words e → Matches e status ⊎ (status ≡ statuses.Memory)
settled files words before now ob on s t outcome run status is quiet e h =
    subst (λ (st : Status). Matches e st ⊎ (st ≡ statuses.Memory)) (sym is) (settled_of files words before now (outcome_status outcome) (shown files words before now ob on s t outcome run) quiet e h)

-- the status where no command has the words
no_words : (files : Files) (words : List Word) (before now : ℕ) (status : Status) → Shown files words before now status → (status ≡ statuses.Words) ⊎ IsSomeCommand words
no_words files words before now status (Way e h m) = inr (some_command files words e h)
no_words files words before now status (NoMemory is some) = inr some
no_words files words before now status (NoWords is none) = inl is
no_words files words before now status (Risen is rose some) = inr some

words_none : (files : Files) (words : List Word) (before now : ℕ) (status : Status) → Shown files words before now status → status ≡ statuses.Words → IsNoCommand words
words_none files words before now status (Way Faults h m) e = let c = sym m ∙ e in cc
words_none files words before now status (Way Past h m) e = let c = sym m ∙ e in cc
words_none files words before now status (Way Missing h m) e = let c = sym m ∙ e in cc
words_none files words before now status (Way Bare h m) e = let c = sym m ∙ e in cc
words_none files words before now status (Way Crowded h m) e = let c = sym m ∙ e in cc
words_none files words before now status (Way Asked h (inl m)) e = let c = sym m ∙ e in cc
words_none files words before now status (Way Asked h (inr (inl m))) e = let c = sym m ∙ e in cc
words_none files words before now status (Way Asked h (inr (inr m))) e = let c = sym m ∙ e in cc
words_none files words before now status (NoMemory is some) e = let c = sym is ∙ e in cc
words_none files words before now status (NoWords is none) e = none
words_none files words before now status (Risen is rose some) e = let c = sym is ∙ e in cc

pub words_alone : (files : Files) (words : List Word) (before now out_before out_now : ℕ) (sent sent_now : Option (List ℕ)) (outcome : Outcome)
    → Run files words before now out_before out_now sent sent_now outcome → (status : Status) → status ≡ outcome_status outcome → (status ≡ statuses.Words) ↔ IsNoCommand words
words_alone files words before now ob on s t outcome run status is =
    let k = shown files words before now ob on s t outcome run in
    (λ e. words_none files words before now (outcome_status outcome) k (sym is ∙ e), λ none. ⊎_elim (λ e. is ∙ e) (λ c. absurd (none c.0 c.1)) (no_words files words before now (outcome_status outcome) k))

-- the outcome of some statuses
no_answer : (refusal : Refusal) → 2 ≤ number_of (status_of refusal)
no_answer refusals.Words = omega arith
no_answer (refusals.Document role fault) = omega arith
no_answer (refusals.Limit role count) = omega arith
no_answer refusals.Answers = omega arith
no_answer (refusals.ReadFault role) = omega arith
no_answer refusals.WriteFault = omega arith
no_answer refusals.Memory = omega arith
no_answer refusals.LinkFault = omega arith
no_answer (refusals.Example example) = omega arith
no_answer (refusals.Remote remote) = omega arith

pub is_done : (outcome : Outcome) → outcome_status outcome ≡ statuses.Done → outcome ≡ Ok endings.Done
is_done (Ok endings.Done) e = refl
is_done (Ok endings.Refused) e = cc
is_done (Err refusal) e = let n = ap number_of e in let m = no_answer refusal in absurd (omega arith)

pub is_refused : (outcome : Outcome) → outcome_status outcome ≡ statuses.Refused → outcome ≡ Ok endings.Refused
is_refused (Ok endings.Done) e = cc
is_refused (Ok endings.Refused) e = refl
is_refused (Err refusal) e = let n = ap number_of e in let m = no_answer refusal in absurd (omega arith)

pub is_write_fault : (outcome : Outcome) → outcome_status outcome ≡ statuses.WriteFault → outcome ≡ Err refusals.WriteFault
is_write_fault (Ok endings.Done) e = cc
is_write_fault (Ok endings.Refused) e = cc
is_write_fault (Err refusals.Words) e = cc
is_write_fault (Err (refusals.Document role fault)) e = cc
is_write_fault (Err (refusals.Limit role count)) e = cc
is_write_fault (Err refusals.Answers) e = cc
is_write_fault (Err (refusals.ReadFault role)) e = cc
is_write_fault (Err refusals.WriteFault) e = refl
is_write_fault (Err refusals.Memory) e = cc
is_write_fault (Err refusals.LinkFault) e = cc
is_write_fault (Err (refusals.Example example)) e = cc
is_write_fault (Err (refusals.Remote remote)) e = cc

is_example : (files : Files) (words : List Word) (before now : ℕ) (outcome : Outcome) → IsFailure files words before now outcome → outcome_status outcome ≡ statuses.Example → IsWithoutRow files words
is_example files words before now (Ok endings.Done) h e = cc
is_example files words before now (Ok endings.Refused) h e = cc
is_example files words before now (Err refusals.Words) h e = cc
is_example files words before now (Err (refusals.Document role fault)) h e = cc
is_example files words before now (Err (refusals.Limit role count)) h e = cc
is_example files words before now (Err refusals.Answers) h e = cc
is_example files words before now (Err (refusals.ReadFault role)) h e = cc
is_example files words before now (Err refusals.WriteFault) h e = cc
is_example files words before now (Err refusals.Memory) h e = cc
is_example files words before now (Err refusals.LinkFault) h e = cc
is_example files words before now (Err (refusals.Example example)) h e = (cause_of files words before now (refusals.Example example) h (λ e. cc)).1
is_example files words before now (Err (refusals.Remote remote)) h e = cc

-- a document that is not of its form
pub is_document : (files : Files) (words : List Word) (before now : ℕ) (outcome : Outcome) → IsFailure files words before now outcome → outcome_status outcome ≡ statuses.Document → IsFaulty files words
is_document files words before now (Ok endings.Done) h e = cc
is_document files words before now (Ok endings.Refused) h e = cc
is_document files words before now (Err refusals.Words) h e = cc
is_document files words before now (Err (refusals.Document role fault)) h e = (role, fault, cause_of files words before now (refusals.Document role fault) h (λ e. cc))
is_document files words before now (Err (refusals.Limit role count)) h e = cc
is_document files words before now (Err refusals.Answers) h e = cc
is_document files words before now (Err (refusals.ReadFault role)) h e = cc
is_document files words before now (Err refusals.WriteFault) h e = cc
is_document files words before now (Err refusals.Memory) h e = cc
is_document files words before now (Err refusals.LinkFault) h e = cc
is_document files words before now (Err (refusals.Example example)) h e = cc
is_document files words before now (Err (refusals.Remote remote)) h e = cc

-- a document that passes a limit, or answers that do
pub is_limit : (files : Files) (words : List Word) (before now : ℕ) (outcome : Outcome) → IsFailure files words before now outcome → outcome_status outcome ≡ statuses.Limit → IsPast files words ⊎ IsCrowded files words
is_limit files words before now (Ok endings.Done) h e = cc
is_limit files words before now (Ok endings.Refused) h e = cc
is_limit files words before now (Err refusals.Words) h e = cc
is_limit files words before now (Err (refusals.Document role fault)) h e = cc
is_limit files words before now (Err (refusals.Limit role count)) h e = inl (role, count, cause_of files words before now (refusals.Limit role count) h (λ e. cc))
is_limit files words before now (Err refusals.Answers) h e = inr (cause_of files words before now refusals.Answers h (λ e. cc))
is_limit files words before now (Err (refusals.ReadFault role)) h e = cc
is_limit files words before now (Err refusals.WriteFault) h e = cc
is_limit files words before now (Err refusals.Memory) h e = cc
is_limit files words before now (Err refusals.LinkFault) h e = cc
is_limit files words before now (Err (refusals.Example example)) h e = cc
is_limit files words before now (Err (refusals.Remote remote)) h e = cc

-- what `convert` writes
no_learn : (files : Files) (words : List Word) (graph wanted : Word) (tables : _) → IsSomeConvert words → IsLearn words graph wanted tables → ⊥
no_learn files words graph wanted tables (inl h) learn = not_both words graph wanted h.0 tables learn h.1
no_learn files words graph wanted tables (inr h) learn = not_table words graph wanted h.0 tables h.1 h.2 learn h.3

learn_or_run : {X : Type 0} (words : List Word) (g w h q : Word) (tables : TableForm) (form : WrittenForm) → IsLearn words g w tables → IsRun words h q form → X
learn_or_run words g w h q tables form a b = not_run words h q form learn a.settings 108 (λ e. omega (arith, e)) refl a.line b

no_convert : (words : List Word) (g q : Word) (form : WrittenForm) → IsSomeConvert words → IsRun words g q form → ⊥
no_convert words g q form (inl h) run = not_run words g q form convert h.1.settings 99 (λ e. omega (arith, e)) refl h.1.line run
no_convert words g q form (inr h) run = not_run words g q form convert_table h.3.settings 99 (λ e. omega (arith, e)) refl h.3.line run

converted_of : (files : Files) (words : List Word) (bytes : List ℕ) → IsSomeConvert words → IsDoneOutput files words bytes → IsConverted files words bytes ⊎ IsTableConverted files words bytes
converted_of files words bytes convert (inl k) = absurd (no_learn files words k.1.asked.given.graph_name k.1.asked.given.wanted_name k.1.asked.given.tables convert k.1.asked.given.learn)
converted_of files words bytes convert (inr (inl k)) = inl k
converted_of files words bytes convert (inr (inr (inl k))) = inr k
converted_of files words bytes convert (inr (inr (inr k))) = absurd (no_convert words k.asked.graph_name k.asked.query_name k.form convert k.asked.run)

pub conversion : (files : Files) (words : List Word) (before now out_before out_now : ℕ) (sent sent_now : Option (List ℕ)) (outcome : Outcome)
    → Run files words before now out_before out_now sent sent_now outcome → (status : Status) → status ≡ outcome_status outcome → IsSomeConvert words → IsConversion files words sent sent_now status
conversion files words before now ob on s t outcome run status is convert = record {
  done = λ e. let w = run.done (is_done outcome (sym is ∙ e)) in (w.0, converted_of files words w.0 convert w.1, w.2);
  refused = λ e. let w = run.refused (is_refused outcome (sym is ∙ e)) in
      no_learn files words w.1.1.asked.given.graph_name w.1.1.asked.given.wanted_name w.1.1.asked.given.tables convert w.1.1.asked.given.learn;
  example = λ e. let h = is_example files words before now outcome run.failed (sym is ∙ e) in
      no_learn files words h.2.graph_name h.2.wanted_name h.2.tables convert h.2.learn;
}

-- what `run` writes
ran_of : (files : Files) (words : List Word) (bytes : List ℕ) (graph query : Word) (form : WrittenForm) → IsRun words graph query form → IsDoneOutput files words bytes → IsRan files words bytes
ran_of files words bytes graph query form run (inl k) = learn_or_run words k.1.asked.given.graph_name k.1.asked.given.wanted_name graph query k.1.asked.given.tables form k.1.asked.given.learn run
ran_of files words bytes graph query form run (inr (inl k)) = absurd (no_convert words graph query form (inl (k.asked.graph_name, k.asked.convert)) run)
ran_of files words bytes graph query form run (inr (inr (inl k))) = absurd (no_convert words graph query form (inr (k.asked.table_name, k.asked.from, k.to, k.asked.convert)) run)
ran_of files words bytes graph query form run (inr (inr (inr k))) = k

pub running : (files : Files) (words : List Word) (before now out_before out_now : ℕ) (sent sent_now : Option (List ℕ)) (outcome : Outcome)
    → Run files words before now out_before out_now sent sent_now outcome → (status : Status) → status ≡ outcome_status outcome → IsSomeRun words → IsRunning files words sent sent_now status
running files words before now ob on s t outcome run status is (graph, query, form, asked) = record {
  done = λ e. let w = run.done (is_done outcome (sym is ∙ e)) in (w.0, ran_of files words w.0 graph query form asked w.1, w.2);
  refused = λ e. let w = run.refused (is_refused outcome (sym is ∙ e)) in
      learn_or_run words w.1.1.asked.given.graph_name w.1.1.asked.given.wanted_name graph query w.1.1.asked.given.tables form w.1.1.asked.given.learn asked;
  example = λ e. let h = is_example files words before now outcome run.failed (sym is ∙ e) in
      learn_or_run words h.2.graph_name h.2.wanted_name graph query h.2.tables form h.2.learn asked;
}

-- what goes to `err`
message_of : (files : Files) (words : List Word) (before now : ℕ) (refusal : Refusal) (Rises : Type 0) (sent sent_now : Option (List ℕ)) → IsReason files words before now refusal
    → SendsLine Rises (err_line refusal) sent sent_now → IsMessage files words before now (status_of refusal) Rises sent sent_now
message_of files words before now refusals.Words Rises s t h line = record { refusal = refusals.Words; status_is = refl; cause = h; line = line }
message_of files words before now (refusals.Document role fault) Rises s t h line = record { refusal = (refusals.Document role fault); status_is = refl; cause = h; line = line }
message_of files words before now (refusals.Limit role count) Rises s t h line = record { refusal = (refusals.Limit role count); status_is = refl; cause = h; line = line }
message_of files words before now refusals.Answers Rises s t h line = record { refusal = refusals.Answers; status_is = refl; cause = h; line = line }
message_of files words before now (refusals.ReadFault role) Rises s t h line = record { refusal = (refusals.ReadFault role); status_is = refl; cause = h; line = line }
message_of files words before now refusals.WriteFault Rises s t h line = record { refusal = refusals.WriteFault; status_is = refl; cause = h; line = line }
message_of files words before now refusals.Memory Rises s t h line = record { refusal = refusals.Memory; status_is = refl; cause = h; line = line }
message_of files words before now refusals.LinkFault Rises s t h line = record { refusal = refusals.LinkFault; status_is = refl; cause = h; line = line }
message_of files words before now (refusals.Example example) Rises s t h line = record { refusal = (refusals.Example example); status_is = refl; cause = h; line = line }
message_of files words before now (refusals.Remote remote) Rises s t h line = record { refusal = (refusals.Remote remote); status_is = refl; cause = h; line = line }

pub message : (files : Files) (words : List Word) (before now : ℕ) (outcome : Outcome) (Rises : Type 0) (sent sent_now : Option (List ℕ)) → IsFailure files words before now outcome
    → IsReport outcome Rises sent sent_now → IsMessage files words before now (outcome_status outcome) Rises sent sent_now
message files words before now (Ok endings.Done) Rises s t h report = report
message files words before now (Ok endings.Refused) Rises s t h report = report
message files words before now (Err refusal) Rises s t h report = message_of files words before now refusal Rises s t h report

-- what was written is of the graph and the table that are given
query_of : (files : Files) (words : List Word) (graph : List Statement) (wanted : TableValue) (bytes : List ℕ) → IsTold files → IsAsked files words graph wanted
    → IsDoneOutput files words bytes → InUtf8 (IsQueryText graph wanted) bytes
query_of files words graph wanted bytes told asked h =
    ⊎_elim
    (λ k.
    let same = same_given files words k.1.graph graph k.1.wanted wanted told k.1.asked.given asked.given in
    (k.0, subst (λ (t : TableValue). IsQueryText graph t k.0) same.1 (subst (λ (g : List Statement). IsQueryText g k.1.wanted k.0) same.0 k.1.query), k.2))
    (λ k. ⊎_elim
    (λ k. absurd (not_both words asked.given.graph_name asked.given.wanted_name k.asked.graph_name asked.given.tables asked.given.learn k.asked.convert))
    (λ k. ⊎_elim
    (λ k. absurd (not_table words asked.given.graph_name asked.given.wanted_name k.asked.table_name asked.given.tables k.asked.from k.to asked.given.learn k.asked.convert))
    (λ k. learn_or_run words asked.given.graph_name asked.given.wanted_name k.asked.graph_name k.asked.query_name asked.given.tables k.form asked.given.learn k.asked.run)
    k)
    k)
    h

refusal_of : (files : Files) (words : List Word) (graph : List Statement) (wanted : TableValue) (bytes : List ℕ) → IsTold files → IsAsked files words graph wanted
    → IsRefusedOutput files words bytes → InUtf8 (IsRefusalLine graph wanted) bytes
refusal_of files words graph wanted bytes told asked k =
    let same = same_given files words k.1.graph graph k.1.wanted wanted told k.1.asked.given asked.given in
    (k.0, subst (λ (t : TableValue). IsRefusalLine graph t k.0) same.1 (subst (λ (g : List Statement). IsRefusalLine g k.1.wanted k.0) same.0 k.1.refusal), k.2)

-- where no count rose, a question has one of three ends
asked_ends : (files : Files) (words : List Word) (before now out_before out_now : ℕ) (sent sent_now : Option (List ℕ)) (outcome : Outcome)
    → Run files words before now out_before out_now sent sent_now outcome → (status : Status) → status ≡ outcome_status outcome → IsQuiet files before now → (Rose out_before out_now → ⊥) → IsAskedCase files words
    → (status ≡ statuses.Memory) ⊎ ((status ≡ statuses.Done) ⊎ (status ≡ statuses.Refused))
asked_ends files words before now ob on s t outcome run status is quiet still case =
    ⊎_elim
    (λ h. ⊎_elim (λ e. inr (inl e)) (λ h. ⊎_elim (λ e. inr (inr e)) (λ e. absurd (still (run.write_rose (is_write_fault outcome (sym is ∙ e))))) h) h)
    (λ e. inl e)
    (settled files words before now ob on s t outcome run status is quiet Asked case)

is_answered : (status : Status) → (status ≡ statuses.Memory) ⊎ ((status ≡ statuses.Done) ⊎ (status ≡ statuses.Refused)) → IsAnswered status
is_answered status h =
    ⊎_elim (λ e. subst IsAnswered (sym e) tt) (λ h. ⊎_elim (λ e. subst IsAnswered (sym e) tt) (λ e. subst IsAnswered (sym e) tt) h) h

pub answered : (files : Files) (words : List Word) (before now out_before out_now : ℕ) (sent sent_now : Option (List ℕ)) (outcome : Outcome)
    → Run files words before now out_before out_now sent sent_now outcome → (status : Status) → status ≡ outcome_status outcome
    → IsQuiet files before now → (Rose out_before out_now → ⊥) → IsAskedCase files words → IsAnswered status
answered files words before now ob on s t outcome run status is quiet still case =
    is_answered status (asked_ends files words before now ob on s t outcome run status is quiet still case)

pub headline : (files : Files) (words : List Word) (before now out_before out_now : ℕ) (sent sent_now : Option (List ℕ)) (outcome : Outcome)
    → Run files words before now out_before out_now sent sent_now outcome → (status : Status) → status ≡ outcome_status outcome
    → Headline files words (Rose before now ⊎ Rose out_before out_now) sent sent_now status
headline files words before now ob on s t outcome run status is told graph wanted asked =
    let ends : ((Rose before now ⊎ Rose ob on) → ⊥) → (status ≡ statuses.Memory) ⊎ ((status ≡ statuses.Done) ⊎ (status ≡ statuses.Refused)) =
    λ still. asked_ends files words before now ob on s t outcome run status is (record { told = told; rose = λ r. still (inl r) }) (λ r. still (inr r)) (inl (graph, wanted, asked)) in
    let query : status ≡ statuses.Done → Sends (InUtf8 (IsQueryText graph wanted)) s t =
    λ e. let w = run.done (is_done outcome (sym is ∙ e)) in (w.0, query_of files words graph wanted w.0 told asked w.1, w.2) in
    let line : status ≡ statuses.Refused → Sends (InUtf8 (IsRefusalLine graph wanted)) s t =
    λ e. let w = run.refused (is_refused outcome (sym is ∙ e)) in (w.0, refusal_of files words graph wanted w.0 told asked w.1, w.2) in
    let right : status ≡ statuses.Done → NoneFits graph wanted → ⊥ = λ e none. let w = query e in none w.1.1.query w.1.1.learned.in_class w.1.1.learned.fits in
    let justified : status ≡ statuses.Refused → NoneFits graph wanted = λ e. (line e).1.1.refused.none in
    record {
      answered = λ still. is_answered status (ends still);
      done = query;
      refused = λ e. (line e, justified e);
      right = right;
      none = λ still none. ⊎_elim (λ e. inr e) (λ h. ⊎_elim (λ e. absurd (right e none)) (λ e. inl e) h) (ends still);
      some = λ still some. ⊎_elim (λ e. inr e) (λ h. ⊎_elim (λ e. inl e) (λ e. absurd (some (justified e))) h) (ends still);
    }

-- Where a folder tells its files, the words and the files leave one way to end.
use Rattle.std.proofs.Common.{◌≡◌, refl, ℕ, ◌<◌, List, [], ◌∷◌, length, Option, Some, None, inl, inr, sym, ◌∙◌, ap, subst, arith}
use Rattle.bye_terms.specs.Terms.{Statement}
use Rattle.bye_table.specs.Mappings.{Pairs}
use Rattle.bye_table.specs.Tables.{TableValue}
use Rattle.bye_words.specs.Pairs.{Word}
use Rattle.bye_cli.specs.Words.{Command, Learn, Convert, ConvertTable, Run, IsCommand, IsSomeCommand}
use Rattle.bye_cli.specs.Documents.{Files, IsTold, Document, due, Value, Triples, Rows, Asks, Good, HasVerdict, Reaches}
use Rattle.bye_cli.specs.Problem.{IsGiven}
use Rattle.bye_pattern.specs.Trees.{Select}
use Rattle.bye_member.specs.Answers.{HasMore}
use Rattle.bye_cli.specs.Running.{IsRunnable, IsCrowded}
use Rattle.bye_cli.specs.declared.table_form.WrittenForm.{WrittenForm}
use Rattle.bye_cli.specs.Causes.{IsFaulty, IsPast, IsMissing, IsWithoutRow, IsAskedCase}
use Rattle.bye_words.specs.Forms.{convert as convert_form, convert_table, learn as learn_form}
use Rattle.bye_cli.proofs.Commands.{not_run, one_command}
use Rattle.bye_cli.proofs.Verdicts.{State, Absent, Long, Wrong, Says, HasState, one_state}

-- how the reading of documents ends: at one that says no value, or with the values of all
data Halt : Type 0 where
  Stop : State → Halt
  End : List Value → Halt

-- no value
abbrev Holds : State → Type 0
Holds Absent = Unit {0}
Holds Long = Unit {0}
Holds Wrong = Unit {0}
Holds (Says value) = ⊥

-- a document that is reached has this state, which is no value
record StopsSo (files : Files) (ds : List Document) (s : State) : Type 0 where
  at : Document
  reached : Reaches files ds at
  state : HasState files at s
  holds : Holds s

-- each document says its value
abbrev Say : Files → List Document → List Value → Type 0
Say files [] [] = Unit {0}
Say files [] (v ∷ vs) = ⊥
Say files (d ∷ ds) [] = ⊥
Say files (d ∷ ds) (v ∷ vs) = HasVerdict files d (Good v) × Say files ds vs

abbrev Halts : Files → List Document → Halt → Type 0
Halts files ds (Stop s) = StopsSo files ds s
Halts files ds (End values) = Say files ds values

good_is_no_stop : (files : List ℕ → Option (List ℕ)) (d : Document) (v : Value) (s : State) → HasVerdict (Some files) d (Good v) → HasState (Some files) d s → Holds s → ⊥
good_is_no_stop files d v s h k holds = subst Holds (sym (one_state files d (Says v) s h k)) holds

same_stop : (files : List ℕ → Option (List ℕ)) (ds : List Document) (d e : Document) (s t : State)
    → Reaches (Some files) ds d → HasState (Some files) d s → Holds s → Reaches (Some files) ds e → HasState (Some files) e t → Holds t → s ≡ t
same_stop files [] d e s t a h i b k j = absurd a
same_stop files (x ∷ ds) d e s t (inl p) h i (inl q) k j =
    one_state files x s t (subst (λ (d : Document). HasState (Some files) d s) (sym p) h) (subst (λ (d : Document). HasState (Some files) d t) (sym q) k)
same_stop files (x ∷ ds) d e s t (inl p) h i (inr (v, good, b)) k j = absurd (good_is_no_stop files x v s good (subst (λ (d : Document). HasState (Some files) d s) (sym p) h) i)
same_stop files (x ∷ ds) d e s t (inr (v, good, a)) h i (inl q) k j = absurd (good_is_no_stop files x v t good (subst (λ (d : Document). HasState (Some files) d t) (sym q) k) j)
same_stop files (x ∷ ds) d e s t (inr (v, good, a)) h i (inr (w, fine, b)) k j = same_stop files ds d e s t a h i b k j

stop_is_no_end : (files : List ℕ → Option (List ℕ)) (ds : List Document) (d : Document) (s : State) (vs : List Value)
    → Reaches (Some files) ds d → HasState (Some files) d s → Holds s → Say (Some files) ds vs → ⊥
stop_is_no_end files [] d s vs a h i say = a
stop_is_no_end files (x ∷ ds) d s [] a h i say = say
stop_is_no_end files (x ∷ ds) d s (v ∷ vs) (inl p) h i say = good_is_no_stop files x v s say.0 (subst (λ (d : Document). HasState (Some files) d s) (sym p) h) i
stop_is_no_end files (x ∷ ds) d s (v ∷ vs) (inr (w, good, a)) h i say = stop_is_no_end files ds d s vs a h i say.1

value_in : Value → State → Value
value_in v Absent = v
value_in v Long = v
value_in v Wrong = v
value_in v (Says w) = w

same_values : (files : List ℕ → Option (List ℕ)) (ds : List Document) (vs ws : List Value) → Say (Some files) ds vs → Say (Some files) ds ws → vs ≡ ws
unfolding value_in
same_values files [] [] [] a b = refl
same_values files [] [] (w ∷ ws) a b = absurd b
same_values files [] (v ∷ vs) ws a b = absurd a
same_values files (d ∷ ds) [] ws a b = absurd a
same_values files (d ∷ ds) (v ∷ vs) [] a b = absurd b
same_values files (d ∷ ds) (v ∷ vs) (w ∷ ws) a b =
    let first : v ≡ w = ap (value_in v) (one_state files d (Says v) (Says w) a.0 b.0) in
    let rest = same_values files ds vs ws a.1 b.1 in
    (λ i. first i ∷ rest i)

one_halt : (files : List ℕ → Option (List ℕ)) (ds : List Document) (h k : Halt) → Halts (Some files) ds h → Halts (Some files) ds k → h ≡ k
one_halt files ds (Stop s) (Stop t) a b = ap Stop (same_stop files ds a.at b.at s t a.reached a.state a.holds b.reached b.state b.holds)
one_halt files ds (Stop s) (End ws) a b = absurd (stop_is_no_end files ds a.at s ws a.reached a.state a.holds b)
one_halt files ds (End vs) (Stop t) a b = absurd (stop_is_no_end files ds b.at t vs b.reached b.state b.holds a)
one_halt files ds (End vs) (End ws) a b = ap End (same_values files ds vs ws a b)

-- the ways to end before anything is written, and the last where there is an answer
pub data Ending : Type 0 where
  Faults : Ending
  Past : Ending
  Missing : Ending
  Bare : Ending
  Crowded : Ending
  Asked : Ending

abbrev pub Ends : Files → List Word → Ending → Type 0
Ends files words Faults = IsFaulty files words
Ends files words Past = IsPast files words
Ends files words Missing = IsMissing files words
Ends files words Bare = IsWithoutRow files words
Ends files words Crowded = IsCrowded files words
Ends files words Asked = IsAskedCase files words

-- too many answers come where all documents say their values, as an answer does
read_so : Ending → Ending
read_so Crowded = Asked
read_so e = e

rows_ending : List Pairs → Ending
rows_ending [] = Bare
rows_ending (r ∷ rows) = Asked

values_ending : List Value → Ending
values_ending (v ∷ Rows table ∷ vs) = rows_ending table.rows
values_ending vs = Asked

halt_ending : Halt → Ending
halt_ending (Stop Absent) = Missing
halt_ending (Stop Long) = Past
halt_ending (Stop Wrong) = Faults
halt_ending (Stop (Says value)) = Asked
halt_ending (End values) = values_ending values

-- a command of the words, and how the reading of its documents ends
record Way (files : Files) (words : List Word) (e : Ending) : Type 0 where
  command : Command
  is : IsCommand words command
  halt : Halt
  halts : Halts files (due command) halt
  same : halt_ending halt ≡ read_so e

some_rows : (rows : List Pairs) → 0 < length rows → rows_ending rows ≡ Asked
unfolding rows_ending
some_rows [] h = absurd (omega arith)
some_rows (r ∷ rows) h = refl

run_way : (files : Files) (words : List Word) (graph : List Statement) (query : Select) (form : WrittenForm) → IsRunnable files words graph query form
    → (e : Ending) → read_so e ≡ Asked → Way files words e
unfolding halt_ending values_ending
run_way files words graph query form asked e is = record {
  command = Run asked.graph_name asked.query_name form;
  is = asked.run;
  halt = End (Triples graph ∷ Asks query ∷ []);
  halts = (asked.graph_held, (asked.query_held, tt));
  same = sym is;
}

way_of : (files : Files) (words : List Word) (e : Ending) → Ends files words e → Way files words e
unfolding halt_ending values_ending rows_ending read_so
way_of files words Faults (role, fault, (command, is, stop)) = record {
  command = command;
  is = is;
  halt = Stop Wrong;
  halts = record { at = stop.document; reached = stop.reached; state = (fault, stop.has); holds = tt };
  same = refl;
}
way_of files words Past (role, count, (command, is, stop)) = record {
  command = command;
  is = is;
  halt = Stop Long;
  halts = record { at = stop.document; reached = stop.reached; state = (count, stop.has); holds = tt };
  same = refl;
}
way_of files words Missing (command, is, (d, reached, lacks)) = record {
  command = command;
  is = is;
  halt = Stop Absent;
  halts = record { at = d; reached = reached; state = lacks; holds = tt };
  same = refl;
}
way_of files words Bare (graph, wanted, given, none) = record {
  command = Learn given.graph_name given.wanted_name given.tables;
  is = given.learn;
  halt = End (Triples graph ∷ Rows wanted ∷ []);
  halts = (given.graph_held, (given.wanted_held, tt));
  same = ap rows_ending none;
}
way_of files words Asked (inl (graph, wanted, asked)) = record {
  command = Learn asked.given.graph_name asked.given.wanted_name asked.given.tables;
  is = asked.given.learn;
  halt = End (Triples graph ∷ Rows wanted ∷ []);
  halts = (asked.given.graph_held, (asked.given.wanted_held, tt));
  same = some_rows wanted.rows asked.some_row;
}
way_of files words Asked (inr (inl (graph, asked))) = record {
  command = Convert asked.graph_name;
  is = asked.convert;
  halt = End (Triples graph ∷ []);
  halts = (asked.graph_held, tt);
  same = refl;
}
way_of files words Asked (inr (inr (inl (table, to, asked)))) = record {
  command = ConvertTable asked.table_name asked.from to;
  is = asked.convert;
  halt = End (Rows table ∷ []);
  halts = (asked.table_held, tt);
  same = refl;
}
way_of files words Asked (inr (inr (inr (graph, query, form, asked, few)))) = run_way files words graph query form asked Asked refl
way_of files words Crowded (graph, query, form, asked, more) = run_way files words graph query form asked Crowded refl

pub some_command : (files : Files) (words : List Word) (e : Ending) → Ends files words e → IsSomeCommand words
some_command files words e h = let way = way_of files words e h in (way.command, way.is)

one_way : (files : List ℕ → Option (List ℕ)) (words : List Word) (a b : Ending) → Way (Some files) words a → Way (Some files) words b → read_so a ≡ read_so b
one_way files words a b h k =
    let same = one_command words h.command k.command h.is k.is in
    sym h.same ∙ ap halt_ending (one_halt files (due k.command) h.halt k.halt (subst (λ c. Halts (Some files) (due c) h.halt) same h.halts) k.halts) ∙ k.same

-- what is given is one graph and one table
first_value : List Value → List Statement → List Statement
first_value (Triples triples ∷ vs) other = triples
first_value vs other = other

second_value : List Value → TableValue → TableValue
second_value (v ∷ Rows table ∷ vs) other = table
second_value vs other = other

pub same_given : (files : Files) (words : List Word) (graph other : List Statement) (wanted table : TableValue) → IsTold files
    → IsGiven files words graph wanted → IsGiven files words other table → (graph ≡ other) × (wanted ≡ table)
unfolding first_value second_value
same_given None words graph other wanted table told h k = absurd told
same_given (Some files) words graph other wanted table told h k =
    let same = one_command words (Learn h.graph_name h.wanted_name h.tables) (Learn k.graph_name k.wanted_name k.tables) h.learn k.learn in
    let values =
    same_values files (due (Learn k.graph_name k.wanted_name k.tables)) (Triples graph ∷ Rows wanted ∷ []) (Triples other ∷ Rows table ∷ [])
    (subst (λ c. Say (Some files) (due c) (Triples graph ∷ Rows wanted ∷ [])) same (h.graph_held, (h.wanted_held, tt))) (k.graph_held, (k.wanted_held, tt)) in
    (ap (λ vs. first_value vs graph) values, ap (λ vs. second_value vs wanted) values)

-- and one query
second_query : List Value → Select → Select
second_query (v ∷ Asks query ∷ vs) other = query
second_query vs other = other

pub same_run : (files : Files) (words : List Word) (graph other : List Statement) (query select : Select) (a b : WrittenForm) → IsTold files
    → IsRunnable files words graph query a → IsRunnable files words other select b → (graph ≡ other) × (query ≡ select)
unfolding first_value second_query
same_run None words graph other query select a b told h k = absurd told
same_run (Some files) words graph other query select a b told h k =
    let same = one_command words (Run h.graph_name h.query_name a) (Run k.graph_name k.query_name b) h.run k.run in
    let values =
    same_values files (due (Run k.graph_name k.query_name b)) (Triples graph ∷ Asks query ∷ []) (Triples other ∷ Asks select ∷ [])
    (subst (λ c. Say (Some files) (due c) (Triples graph ∷ Asks query ∷ [])) same (h.graph_held, (h.query_held, tt))) (k.graph_held, (k.query_held, tt)) in
    (ap (λ vs. first_value vs graph) values, ap (λ vs. second_query vs query) values)

-- no question that is answered has too many answers
crowded_asked : (files : Files) (words : List Word) → IsTold files → IsCrowded files words → IsAskedCase files words → ⊥
crowded_asked files words told (g, q, f, asked, more) (inl (graph, wanted, learn)) =
    not_run words asked.graph_name asked.query_name f learn_form learn.given.learn.settings 108 (λ e. omega (arith, e)) refl learn.given.learn.line asked.run
crowded_asked files words told (g, q, f, asked, more) (inr (inl (graph, convert))) =
    not_run words asked.graph_name asked.query_name f convert_form convert.convert.settings 99 (λ e. omega (arith, e)) refl convert.convert.line asked.run
crowded_asked files words told (g, q, f, asked, more) (inr (inr (inl (table, to, convert)))) =
    not_run words asked.graph_name asked.query_name f convert_table convert.convert.settings 99 (λ e. omega (arith, e)) refl convert.convert.line asked.run
crowded_asked files words told (g, q, f, asked, more) (inr (inr (inr (graph, query, form, run, few)))) =
    let same = same_run files words g graph q query f form told asked run in
    few (subst (λ q. HasMore graph q) same.1 (subst (λ g. HasMore g q) same.0 more))

alone : (files : Files) (words : List Word) (a b : Ending) → IsTold files → Ends files words a → Ends files words b → read_so a ≡ read_so b → a ≡ b
unfolding read_so
alone files words Crowded Crowded told h k e = refl
alone files words Crowded Asked told h k e = absurd (crowded_asked files words told h k)
alone files words Asked Crowded told h k e = absurd (crowded_asked files words told k h)
alone files words Crowded Faults told h k e = cc
alone files words Crowded Past told h k e = cc
alone files words Crowded Missing told h k e = cc
alone files words Crowded Bare told h k e = cc
alone files words Faults Crowded told h k e = cc
alone files words Past Crowded told h k e = cc
alone files words Missing Crowded told h k e = cc
alone files words Bare Crowded told h k e = cc
alone files words Faults Faults told h k e = refl
alone files words Faults Past told h k e = cc
alone files words Faults Missing told h k e = cc
alone files words Faults Bare told h k e = cc
alone files words Faults Asked told h k e = cc
alone files words Past Faults told h k e = cc
alone files words Past Past told h k e = refl
alone files words Past Missing told h k e = cc
alone files words Past Bare told h k e = cc
alone files words Past Asked told h k e = cc
alone files words Missing Faults told h k e = cc
alone files words Missing Past told h k e = cc
alone files words Missing Missing told h k e = refl
alone files words Missing Bare told h k e = cc
alone files words Missing Asked told h k e = cc
alone files words Bare Faults told h k e = cc
alone files words Bare Past told h k e = cc
alone files words Bare Missing told h k e = cc
alone files words Bare Bare told h k e = refl
alone files words Bare Asked told h k e = cc
alone files words Asked Faults told h k e = cc
alone files words Asked Past told h k e = cc
alone files words Asked Missing told h k e = cc
alone files words Asked Bare told h k e = cc
alone files words Asked Asked told h k e = refl

pub one_ending : (files : Files) (words : List Word) (a b : Ending) → IsTold files → Ends files words a → Ends files words b → a ≡ b
one_ending None words a b told h k = absurd told
one_ending (Some files) words a b told h k = alone (Some files) words a b told h k (one_way files words a b (way_of (Some files) words a h) (way_of (Some files) words b k))

-- The machine of lines.
use Rattle.std.specs.Prelude.{ℕ, cond, ◌==◌, List, [], ◌∷◌, Option, Some, None}
use Rattle.bye_terms.specs.Literals.{is_lang_string}
use Rattle.bye_terms.specs.Terms.{Statement}
use Rattle.bye_terms.specs.declared.term.Term.{Term}
use Rattle.bye_terms.specs.declared.term.Term.TheVariants.{Iri, Blank}
use Rattle.bye_lex.specs.Embedding.{in_closed, in_open}
use Rattle.bye_lex.specs.IriSteps as iri
use Rattle.bye_lex.specs.LabelSteps as label
use Rattle.bye_lex.specs.StringSteps as string
use Rattle.bye_lex.specs.TagSteps as tag
use Rattle.bye_lex.specs.declared.iri.IriAt.{IriAt}
use Rattle.bye_lex.specs.declared.iri.IriAt.TheVariants as iris
use Rattle.bye_lex.specs.declared.label.LabelAt.{LabelAt}
use Rattle.bye_lex.specs.declared.label.LabelAt.TheVariants as labels
use Rattle.bye_lex.specs.declared.string.StringAt.{StringAt}
use Rattle.bye_lex.specs.declared.string.StringAt.TheVariants as strings
use Rattle.bye_lex.specs.declared.style.Style.TheVariants.{Triples}
use Rattle.bye_lex.specs.declared.tag.TagAt.{TagAt}
use Rattle.bye_lex.specs.declared.tag.TagAt.TheVariants as tags
use Rattle.bye_ntriples.specs.Lines.{is_space, is_line_end}
use Rattle.bye_ntriples.specs.Triples.{triple_of, string_of, tagged_of, typed_of}
use Rattle.bye_ntriples.specs.declared.line.LineAt.{LineAt}
use Rattle.bye_ntriples.specs.declared.line.LineAt.TheVariants.{Begin, Subject, AfterSubject, Predicate, AfterPredicate, Object, Suffix, AfterObject, Ended, Comment}
use Rattle.bye_ntriples.specs.declared.line.SubjectAt.{SubjectAt}
use Rattle.bye_ntriples.specs.declared.line.SubjectAt.TheVariants as subjects
use Rattle.bye_ntriples.specs.declared.line.ObjectAt.{ObjectAt}
use Rattle.bye_ntriples.specs.declared.line.ObjectAt.TheVariants as objects
use Rattle.bye_ntriples.specs.declared.line.SuffixAt.{SuffixAt}
use Rattle.bye_ntriples.specs.declared.line.SuffixAt.TheVariants as suffixes

abbrev pub in_iri : {A : Type 0} → (IriAt → A) → (List ℕ → Option A) → IriAt → ℕ → Option A
in_iri = in_closed (iri.step Triples) iri.final

-- a string that has two quotes and no more is not at its end: a third may follow
abbrev pub whole_string : StringAt → Option (List ℕ)
whole_string strings.Start = None
whole_string (strings.Opened q) = None
whole_string (strings.Empty q) = None
whole_string (strings.In k text) = None
whole_string (strings.Backslash k text) = None
whole_string (strings.Escape k e text) = None
whole_string (strings.OneQuote q text) = None
whole_string (strings.TwoQuotes q text) = None
whole_string (strings.Done text) = Some text

abbrev pub in_string : {A : Type 0} → (StringAt → A) → (List ℕ → A) → StringAt → ℕ → Option A
in_string within after = in_closed (string.step Triples) whole_string within (λ v. Some (after v))

abbrev pub in_label : {A : Type 0} → (LabelAt → A) → (List ℕ → ℕ → Option A) → LabelAt → ℕ → Option A
in_label = in_open label.step label.final

abbrev pub within_tag : {A : Type 0} → (TagAt → A) → (List ℕ → ℕ → Option A) → TagAt → ℕ → Option A
within_tag = in_open tag.step tag.final

abbrev pub after_object : Statement → ℕ → Option LineAt
after_object triple c = cond (is_space c) (Some (AfterObject triple)) (cond (c == 46) (Some (Ended triple)) None)

abbrev pub ended : Statement → ℕ → Option LineAt
ended triple c = cond (is_space c) (Some (Ended triple)) (cond (c == 35) (Some (Comment (Some triple))) None)

abbrev pub in_predicate : Term → IriAt → ℕ → Option LineAt
in_predicate s at c = in_iri (Predicate s) (λ p. Some (AfterPredicate s p)) at c

abbrev pub after_subject : Term → ℕ → Option LineAt
after_subject s c = cond (is_space c) (Some (AfterSubject s)) (in_predicate s iris.Start c)

abbrev pub in_subject : IriAt → ℕ → Option LineAt
in_subject at c = in_iri (λ n. Subject (subjects.Iri n)) (λ s. Some (AfterSubject (Iri s))) at c

abbrev pub in_subject_label : LabelAt → ℕ → Option LineAt
in_subject_label at c = in_label (λ n. Subject (subjects.Label n)) (λ s c. after_subject (Blank s) c) at c

-- a character that may begin a subject
abbrev pub subject : ℕ → Option LineAt
subject c = cond (c == 60) (in_subject iris.Start c) (in_subject_label labels.Start c)

abbrev pub begin : ℕ → Option LineAt
begin c = cond (is_space c) (Some Begin) (cond (c == 35) (Some (Comment None)) (subject c))

abbrev pub in_object : Term → List ℕ → IriAt → ℕ → Option LineAt
in_object s p at c = in_iri (λ n. Object s p (objects.Iri n)) (λ o. Some (AfterObject (triple_of s p (Iri o)))) at c

-- at a dot after a whole label
abbrev pub at_dot : Term → List ℕ → ℕ → Option (List ℕ) → Option LineAt → Option LineAt
at_dot s p c None other = other
at_dot s p c (Some o) other = cond (c == 46) (Some (Object s p (objects.Dot o))) other

-- within the label of an object: after a whole label a dot may end the triple, and with two dots or more the label goes on
abbrev pub go_on_in_label : Term → List ℕ → LabelAt → ℕ → Option LineAt
go_on_in_label s p at c = in_label (λ n. Object s p (objects.Label n)) (λ o c. after_object (triple_of s p (Blank o)) c) at c

abbrev pub in_object_label : Term → List ℕ → LabelAt → ℕ → Option LineAt
in_object_label s p at c = at_dot s p c (label.final at) (go_on_in_label s p at c)

-- after a label and a dot: the label goes on, or the triple is ended
abbrev pub settle_dot : Term → List ℕ → List ℕ → ℕ → Option LabelAt → Option LineAt
settle_dot s p o c None = ended (triple_of s p (Blank o)) c
settle_dot s p o c (Some n) = Some (Object s p (objects.Label n))

abbrev pub after_dot : Term → List ℕ → List ℕ → ℕ → Option LineAt
after_dot s p o c = settle_dot s p o c (label.step (labels.Dotted o (46 ∷ [])) c)

abbrev pub in_object_string : Term → List ℕ → StringAt → ℕ → Option LineAt
in_object_string s p at c = in_string (λ n. Object s p (objects.String n)) (λ lexical. Suffix s p lexical suffixes.Start) at c

abbrev pub object : Term → List ℕ → ℕ → Option LineAt
object s p c = cond (c == 60) (in_object s p iris.Start c) (cond (c == 34) (in_object_string s p strings.Start c) (in_object_label s p labels.Start c))

abbrev pub after_predicate : Term → List ℕ → ℕ → Option LineAt
after_predicate s p c = cond (is_space c) (Some (AfterPredicate s p)) (object s p c)

abbrev pub in_tag : Term → List ℕ → List ℕ → TagAt → ℕ → Option LineAt
in_tag s p lexical at c = within_tag (λ n. Suffix s p lexical (suffixes.Tag n)) (λ o c. after_object (triple_of s p (tagged_of lexical o)) c) at c

abbrev pub after_string : Term → List ℕ → List ℕ → ℕ → Option LineAt
after_string s p lexical c =
    cond (is_space c) (Some (Suffix s p lexical suffixes.Start)) (cond (c == 46) (Some (Ended (triple_of s p (string_of lexical))))
    (cond (c == 94) (Some (Suffix s p lexical suffixes.Caret)) (in_tag s p lexical tags.Start c)))

-- the datatype of a literal without a tag
abbrev pub typed : Term → List ℕ → List ℕ → List ℕ → Option LineAt
typed s p lexical datatype = cond (is_lang_string datatype) None (Some (AfterObject (triple_of s p (typed_of lexical datatype))))

abbrev pub in_datatype : Term → List ℕ → List ℕ → IriAt → ℕ → Option LineAt
in_datatype s p lexical at c = in_iri (λ n. Suffix s p lexical (suffixes.Datatype n)) (typed s p lexical) at c

abbrev pub after_carets : Term → List ℕ → List ℕ → ℕ → Option LineAt
after_carets s p lexical c = cond (is_space c) (Some (Suffix s p lexical suffixes.Carets)) (in_datatype s p lexical iris.Start c)

abbrev pub caret : Term → List ℕ → List ℕ → ℕ → Option LineAt
caret s p lexical c = cond (c == 94) (Some (Suffix s p lexical suffixes.Carets)) None

abbrev pub comment : Option Statement → ℕ → Option LineAt
comment fact c = cond (is_line_end c) None (Some (Comment fact))

abbrev pub subject_step : SubjectAt → ℕ → Option LineAt
subject_step (subjects.Iri at) c = in_subject at c
subject_step (subjects.Label at) c = in_subject_label at c

abbrev pub object_step : Term → List ℕ → ObjectAt → ℕ → Option LineAt
object_step s p (objects.Iri at) c = in_object s p at c
object_step s p (objects.Label at) c = in_object_label s p at c
object_step s p (objects.Dot o) c = after_dot s p o c
object_step s p (objects.String at) c = in_object_string s p at c

abbrev pub suffix_step : Term → List ℕ → List ℕ → SuffixAt → ℕ → Option LineAt
suffix_step s p lexical suffixes.Start c = after_string s p lexical c
suffix_step s p lexical (suffixes.Tag at) c = in_tag s p lexical at c
suffix_step s p lexical suffixes.Caret c = caret s p lexical c
suffix_step s p lexical suffixes.Carets c = after_carets s p lexical c
suffix_step s p lexical (suffixes.Datatype at) c = in_datatype s p lexical at c

abbrev pub step : LineAt → ℕ → Option LineAt
step Begin c = begin c
step (Subject at) c = subject_step at c
step (AfterSubject s) c = after_subject s c
step (Predicate s at) c = in_predicate s at c
step (AfterPredicate s p) c = after_predicate s p c
step (Object s p at) c = object_step s p at c
step (Suffix s p lexical at) c = suffix_step s p lexical at c
step (AfterObject triple) c = after_object triple c
step (Ended triple) c = ended triple c
step (Comment fact) c = comment fact c

-- what a line that ends there says
abbrev pub last_object : Term → List ℕ → ObjectAt → Option (Option Statement)
last_object s p (objects.Iri at) = None
last_object s p (objects.Label at) = None
last_object s p (objects.Dot o) = Some (Some (triple_of s p (Blank o)))
last_object s p (objects.String at) = None

abbrev pub final : LineAt → Option (Option Statement)
final Begin = Some None
final (Subject at) = None
final (AfterSubject s) = None
final (Predicate s at) = None
final (AfterPredicate s p) = None
final (Object s p at) = last_object s p at
final (Suffix s p lexical at) = None
final (AfterObject triple) = None
final (Ended triple) = Some (Some triple)
final (Comment fact) = Some fact

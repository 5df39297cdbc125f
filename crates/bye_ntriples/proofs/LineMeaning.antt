-- What each state of the machine of lines still wants, in the grammar's words.
use Rattle.std.specs.Prelude.{◌≡◌, ℕ, Bool, true, false, List, [], ◌∷◌, Option, Some, None, ◌⊎◌}
use Rattle.bye_terms.specs.Literals.{is_lang_string}
use Rattle.bye_terms.specs.Terms.{Statement}
use Rattle.bye_terms.specs.declared.term.Term.{Term}
use Rattle.bye_terms.specs.declared.term.Term.TheVariants.{Iri, Blank}
use Rattle.bye_lex.specs.Languages.{Viable}
use Rattle.bye_lex.specs.IriSteps as iri
use Rattle.bye_lex.specs.declared.iri.IriAt.{IriAt}
use Rattle.bye_lex.specs.declared.label.LabelAt.{LabelAt}
use Rattle.bye_lex.specs.declared.label.LabelAt.TheVariants as labels
use Rattle.bye_lex.specs.declared.string.StringAt.{StringAt}
use Rattle.bye_lex.specs.declared.tag.TagAt.{TagAt}
use Rattle.bye_lex.specs.declared.string.StringAt.TheVariants as strings
use Rattle.bye_lex.specs.declared.quoting.Quote.TheVariants.{Double, Single}
use Rattle.bye_lex.specs.declared.quoting.Quoting.TheVariants.{Short, Long}
use Rattle.bye_lex.specs.declared.style.Style.TheVariants.{Triples}
use Rattle.bye_lex.proofs.IriMeaning as iris
use Rattle.bye_lex.proofs.StringMeaning as meant
use Rattle.bye_lex.proofs.Embedding.{Within, Upto}
use Rattle.bye_lex.proofs.LabelExact as label_exactly
use Rattle.bye_lex.proofs.TagExact as tag_exactly
use Rattle.bye_ntriples.specs.Lines.{Spaced, Dotted, Datatype, Carets, IsComment, LineEnd, Triple}
use Rattle.bye_ntriples.specs.Lines as lines
use Rattle.bye_ntriples.specs.Triples.{triple_of, tagged_of, typed_of}
use Rattle.bye_ntriples.specs.declared.line.LineAt.{LineAt}
use Rattle.bye_ntriples.specs.declared.line.LineAt.TheVariants.{Begin, Subject, AfterSubject, Predicate, AfterPredicate, Object, Suffix, AfterObject, Ended, Comment}
use Rattle.bye_ntriples.specs.declared.line.SubjectAt.TheVariants as subjects
use Rattle.bye_ntriples.specs.declared.line.ObjectAt.{ObjectAt}
use Rattle.bye_ntriples.specs.declared.line.ObjectAt.TheVariants as objects
use Rattle.bye_ntriples.specs.declared.line.SuffixAt.{SuffixAt}
use Rattle.bye_ntriples.specs.declared.line.SuffixAt.TheVariants as suffixes

abbrev pub WithinIri : {W : Type 0} → (List ℕ → List ℕ → W → Type 0) → IriAt → List ℕ → W → Type 0
WithinIri Rest = Within (iris.Left Triples) Rest

abbrev pub WithinString : {W : Type 0} → (List ℕ → List ℕ → W → Type 0) → StringAt → List ℕ → W → Type 0
WithinString Rest = Within (meant.Left Triples) Rest

abbrev pub WithinLabel : {W : Type 0} → (List ℕ → List ℕ → W → Type 0) → LabelAt → List ℕ → W → Type 0
WithinLabel Rest = Upto label_exactly.Left Rest

abbrev pub WithinTag : {W : Type 0} → (List ℕ → List ℕ → W → Type 0) → TagAt → List ℕ → W → Type 0
WithinTag Rest = Upto tag_exactly.Left Rest

-- what may stand after each token
abbrev pub AfterSubjectIri : (List ℕ → Type 0) → List ℕ → List ℕ → Statement → Type 0
AfterSubjectIri End s = Spaced (lines.Predicate End (Iri s))

abbrev pub AfterSubjectLabel : (List ℕ → Type 0) → List ℕ → List ℕ → Statement → Type 0
AfterSubjectLabel End s = Spaced (lines.Predicate End (Blank s))

abbrev pub AfterPredicateIri : (List ℕ → Type 0) → Term → List ℕ → List ℕ → Statement → Type 0
AfterPredicateIri End s p = Spaced (lines.Object End s p)

abbrev pub AfterObjectIri : (List ℕ → Type 0) → Term → List ℕ → List ℕ → List ℕ → Statement → Type 0
AfterObjectIri End s p o = Dotted End (triple_of s p (Iri o))

abbrev pub AfterObjectLabel : (List ℕ → Type 0) → Term → List ℕ → List ℕ → List ℕ → Statement → Type 0
AfterObjectLabel End s p o = Dotted End (triple_of s p (Blank o))

abbrev pub AfterTag : (List ℕ → Type 0) → Term → List ℕ → List ℕ → List ℕ → List ℕ → Statement → Type 0
AfterTag End s p lexical tag = Dotted End (triple_of s p (tagged_of lexical tag))

abbrev pub AfterDatatype : (List ℕ → Type 0) → Term → List ℕ → List ℕ → List ℕ → List ℕ → Statement → Type 0
AfterDatatype End s p lexical datatype rest t = (is_lang_string datatype ≡ false) × Dotted End (triple_of s p (typed_of lexical datatype)) rest t

abbrev pub LeftObject : (List ℕ → Type 0) → Term → List ℕ → ObjectAt → List ℕ → Statement → Type 0
LeftObject End s p (objects.Iri at) text t = WithinIri (AfterObjectIri End s p) at text t
LeftObject End s p (objects.Label at) text t = WithinLabel (AfterObjectLabel End s p) at text t
LeftObject End s p (objects.Dot label) text t = WithinLabel (AfterObjectLabel End s p) (labels.In label) (46 ∷ text) t
LeftObject End s p (objects.String at) text t = WithinString (λ lexical. lines.Suffix End s p lexical) at text t

abbrev pub LeftSuffix : (List ℕ → Type 0) → Term → List ℕ → List ℕ → SuffixAt → List ℕ → Statement → Type 0
LeftSuffix End s p lexical suffixes.Start text t = lines.Suffix End s p lexical text t
LeftSuffix End s p lexical (suffixes.Tag at) text t = WithinTag (AfterTag End s p lexical) at text t
LeftSuffix End s p lexical suffixes.Caret text t = Carets End s p lexical (94 ∷ text) t
LeftSuffix End s p lexical suffixes.Carets text t = Datatype End s p lexical text t
LeftSuffix End s p lexical (suffixes.Datatype at) text t = WithinIri (AfterDatatype End s p lexical) at text t

-- What states of a triple want, where End may stand after the dot. A state that has looked at a dot or a caret wants what the
-- state before it did, with that put back.
abbrev pub LeftTriple : (List ℕ → Type 0) → LineAt → List ℕ → Statement → Type 0
LeftTriple End Begin text t = Triple End text t
LeftTriple End (Subject (subjects.Iri at)) text t = WithinIri (AfterSubjectIri End) at text t
LeftTriple End (Subject (subjects.Label at)) text t = WithinLabel (AfterSubjectLabel End) at text t
LeftTriple End (AfterSubject s) text t = Spaced (lines.Predicate End s) text t
LeftTriple End (Predicate s at) text t = WithinIri (AfterPredicateIri End s) at text t
LeftTriple End (AfterPredicate s p) text t = Spaced (lines.Object End s p) text t
LeftTriple End (Object s p at) text t = LeftObject End s p at text t
LeftTriple End (Suffix s p lexical at) text t = LeftSuffix End s p lexical at text t
LeftTriple End (AfterObject stated) text t = Dotted End stated text t
LeftTriple End (Ended stated) text t = End text × (t ≡ stated)
LeftTriple End (Comment fact) text t = IsComment text × (fact ≡ Some t)

-- the states in which a line may have no triple
abbrev pub LeftBlank : LineAt → List ℕ → Type 0
LeftBlank Begin text = LineEnd text
LeftBlank (Subject at) text = ⊥
LeftBlank (AfterSubject s) text = ⊥
LeftBlank (Predicate s at) text = ⊥
LeftBlank (AfterPredicate s p) text = ⊥
LeftBlank (Object s p at) text = ⊥
LeftBlank (Suffix s p lexical at) text = ⊥
LeftBlank (AfterObject stated) text = ⊥
LeftBlank (Ended stated) text = ⊥
LeftBlank (Comment None) text = IsComment text
LeftBlank (Comment (Some t)) text = ⊥

pub record Told (at : LineAt) (text : List ℕ) (fact : Option Statement) : Type 0 where
  pub triple : Statement
  pub stated : LeftTriple LineEnd at text triple
  pub is : fact ≡ Some triple

abbrev pub LeftLine : LineAt → List ℕ → Option Statement → Type 0
LeftLine at text fact = (LeftBlank at text × (fact ≡ None)) ⊎ Told at text fact

-- the states of tokens that are reached, and not at their ends
pub record GoodIri (at : IriAt) : Type 0 where
  pub viable : Viable (iris.Left Triples at) []
  pub going : iri.final at ≡ None

-- a string of N-Triples has one quote
abbrev pub is_open_string : StringAt → Bool
is_open_string strings.Start = true
is_open_string (strings.Opened q) = false
is_open_string (strings.Empty q) = false
is_open_string (strings.In (Short Double) out) = true
is_open_string (strings.In (Short Single) out) = false
is_open_string (strings.In (Long q) out) = false
is_open_string (strings.Backslash (Short Double) out) = true
is_open_string (strings.Backslash (Short Single) out) = false
is_open_string (strings.Backslash (Long q) out) = false
is_open_string (strings.Escape (Short Double) e out) = true
is_open_string (strings.Escape (Short Single) e out) = false
is_open_string (strings.Escape (Long q) e out) = false
is_open_string (strings.OneQuote q out) = false
is_open_string (strings.TwoQuotes q out) = false
is_open_string (strings.Done out) = false

pub record GoodString (at : StringAt) : Type 0 where
  pub viable : Viable (meant.Left Triples at) []
  pub going : is_open_string at ≡ true

abbrev pub Good : LineAt → Type 0
Good Begin = Unit {0}
Good (Subject (subjects.Iri at)) = GoodIri at
Good (Subject (subjects.Label at)) = Unit {0}
Good (AfterSubject s) = Unit {0}
Good (Predicate s at) = GoodIri at
Good (AfterPredicate s p) = Unit {0}
Good (Object s p (objects.Iri at)) = GoodIri at
Good (Object s p (objects.Label at)) = Unit {0}
Good (Object s p (objects.Dot label)) = Unit {0}
Good (Object s p (objects.String at)) = GoodString at
Good (Suffix s p lexical suffixes.Start) = Unit {0}
Good (Suffix s p lexical (suffixes.Tag at)) = Unit {0}
Good (Suffix s p lexical suffixes.Caret) = Unit {0}
Good (Suffix s p lexical suffixes.Carets) = Unit {0}
Good (Suffix s p lexical (suffixes.Datatype at)) = GoodIri at
Good (AfterObject stated) = Unit {0}
Good (Ended stated) = Unit {0}
Good (Comment fact) = Unit {0}

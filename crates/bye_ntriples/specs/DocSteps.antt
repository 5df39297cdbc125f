-- The machine of documents: the triples of the lines before, and how far the present line was read.
use Rattle.std.specs.Prelude.{◌≡◌, ℕ, ◌+◌, Bool, true, false, cond, nat_lt, List, [], ◌∷◌, ◌++◌, length, Option, Some, None, option_map, option_to_list, ⊤, ◌⊎◌}
use Rattle.std.specs.Str.{encode_utf8_all}
use Rattle.bye_terms.specs.Terms.{Statement}
use Rattle.bye_lex.specs.declared.label.LabelAt.{LabelAt}
use Rattle.bye_lex.specs.declared.label.LabelAt.TheVariants as labels
use Rattle.bye_ntriples.specs.Answers.{triple_limit}
use Rattle.bye_ntriples.specs.Lines.{is_line_end}
use Rattle.bye_ntriples.specs.LineSteps as line
use Rattle.bye_ntriples.specs.declared.fault.NtErr.{NtErr}
use Rattle.bye_ntriples.specs.declared.fault.NtErr.TheVariants as faults
use Rattle.bye_ntriples.specs.declared.line.LineAt.{LineAt}
use Rattle.bye_ntriples.specs.declared.line.LineAt.TheVariants.{Begin, Subject, AfterSubject, Predicate, AfterPredicate, Object, Suffix, AfterObject, Ended, Comment}
use Rattle.bye_ntriples.specs.declared.line.ObjectAt.{ObjectAt}
use Rattle.bye_ntriples.specs.declared.line.ObjectAt.TheVariants as objects

pub record DocAt : Type 0 where
  pub done : List Statement
  pub at : LineAt

abbrev pub start : DocAt
start = record { done = []; at = Begin }

-- after a line's end
abbrev pub line_ended : List Statement → Option Statement → DocAt
line_ended done fact = record { done = done ++ option_to_list fact; at = Begin }

abbrev pub line_moved : List Statement → LineAt → DocAt
line_moved done at = record { done = done; at = at }

abbrev pub step : DocAt → ℕ → Option DocAt
step d c = cond (is_line_end c) (option_map (line_ended d.done) (line.final d.at)) (option_map (line_moved d.done) (line.step d.at c))

-- the triples of a document that ends there
abbrev pub final : DocAt → Option (List Statement)
final d = option_map (λ fact. d.done ++ option_to_list fact) (line.final d.at)

-- one where it is so
abbrev pub if_one : Bool → ℕ
if_one true = 1
if_one false = 0

-- the triple of the present line, once its dot is read
abbrev pub held : LineAt → ℕ
held Begin = 0
held (Subject at) = 0
held (AfterSubject s) = 0
held (Predicate s at) = 0
held (AfterPredicate s p) = 0
held (Object s p at) = 0
held (Suffix s p lexical at) = 0
held (AfterObject stated) = 0
held (Ended stated) = 1
held (Comment None) = 0
held (Comment (Some stated)) = 1

-- and once it is sure that a dot within a label is none of it
abbrev pub label_pending : LabelAt → ℕ
label_pending labels.Start = 0
label_pending labels.Underscore = 0
label_pending labels.Colon = 0
label_pending (labels.In label) = 0
label_pending (labels.Dotted label dots) = 1

abbrev pub object_pending : ObjectAt → ℕ
object_pending (objects.Iri at) = 0
object_pending (objects.Label at) = label_pending at
object_pending (objects.Dot label) = 1
object_pending (objects.String at) = 0

abbrev pub pending : LineAt → ℕ
pending Begin = 0
pending (Subject at) = 0
pending (AfterSubject s) = 0
pending (Predicate s at) = 0
pending (AfterPredicate s p) = 0
pending (Object s p at) = object_pending at
pending (Suffix s p lexical at) = 0
pending (AfterObject stated) = 0
pending (Ended stated) = 0
pending (Comment fact) = 0

abbrev pub count : DocAt → ℕ
count d = length d.done + held d.at

-- more triples than are allowed are complete, or are so where the text goes no further
abbrev pub is_over : DocAt → Bool
is_over d = nat_lt triple_limit (count d)

abbrev pub is_over_there : DocAt → Bool
is_over_there d = nat_lt triple_limit (count d + pending d.at)

-- what reading a text comes to
pub data Walked : Type 0 where
  Went : DocAt → Walked
  Stopped : List ℕ → Walked
  Many : Walked

abbrev pub stopped : DocAt → List ℕ → Walked
stopped d rest = cond (is_over_there d) Many (Stopped rest)

abbrev pub onward : DocAt → List ℕ → (DocAt → Walked) → Option DocAt → Walked
onward d rest go None = stopped d rest
onward d rest go (Some n) = cond (is_over n) Many (go n)

abbrev pub walk : DocAt → List ℕ → Walked
walk d [] = Went d
walk d (c ∷ cs) = onward d (c ∷ cs) (λ n. walk n cs) (step d c)

-- a state where there is one, and else a line's beginning
abbrev pub in_slot : List LineAt → LineAt
in_slot [] = Begin
in_slot (at ∷ more) = at

-- whether a step was made, and to where
abbrev pub Moves : Bool → DocAt → Option DocAt → Type 0
Moves true n o = o ≡ Some n
Moves false n o = o ≡ None

-- why a reader refuses one more character, which stands at this place
abbrev pub CannotAdvance : DocAt → ℕ → NtErr → Option DocAt → Type 0
CannotAdvance d here (faults.Syntax place) o = (o ≡ None) × ((is_over_there d ≡ false) × (place ≡ here))
CannotAdvance d here (faults.NotUtf8 place) o = ⊥
CannotAdvance d here faults.TooMany o = ((o ≡ None) × (is_over_there d ≡ true)) ⊎ ((n : DocAt) × (o ≡ Some n) × (is_over n ≡ true))
CannotAdvance d here faults.Memory o = ⊤

-- why a reader refuses a text, in a document of so many bytes
abbrev pub CannotWalk : ℕ → NtErr → Walked → Type 0
CannotWalk total (faults.Syntax place) (Went d) = ⊥
CannotWalk total (faults.Syntax place) (Stopped rest) = place + length (encode_utf8_all rest) ≡ total
CannotWalk total (faults.Syntax place) Many = ⊥
CannotWalk total (faults.NotUtf8 place) w = ⊥
CannotWalk total faults.TooMany (Went d) = ⊥
CannotWalk total faults.TooMany (Stopped rest) = ⊥
CannotWalk total faults.TooMany Many = ⊤
CannotWalk total faults.Memory w = ⊤

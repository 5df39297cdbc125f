-- What a reader of graph documents may answer: the triples, or the first fault with its place in bytes.
use Rattle.std.specs.Prelude.{◌≡◌, ◌≤◌, ℕ, true, List, [], ◌∷◌, ◌++◌, length, Result, Ok, Err, ⊤, ◌⊎◌, codes}
use Rattle.std.specs.Str.{encode_utf8_all, all_scalars}
use Rattle.bye_terms.specs.Terms.{Statement}
use Rattle.bye_lex.specs.Languages.{Viable}
use Rattle.bye_lex.specs.Stopping.{StopsAt, StopsAtEnd, LeavesOver}
use Rattle.bye_lex.specs.Utf8.{BeginsCharacter}
use Rattle.bye_ntriples.specs.Lines.{is_line_end, Triple}
use Rattle.bye_ntriples.specs.Documents.{NtText, NtDoc}
use Rattle.bye_ntriples.specs.declared.fault.NtErr.{NtErr}
use Rattle.bye_ntriples.specs.declared.fault.NtErr.TheVariants as faults

-- the greatest number of triples of a document, repeats counted
unfoldable pub triple_limit : ℕ
triple_limit = 1048576

-- a triple with what stands before it on its line, up to its dot
abbrev pub UpToDot : List ℕ → Statement → Type 0
UpToDot text triple = Triple (λ rest. rest ≡ []) text triple

-- the dot at the end of this text stands within a label: with characters that follow, and a dot, the text is a longer triple
pub record GoesOn (own rest : List ℕ) : Type 0 where
  pub more : List ℕ
  pub behind : List ℕ
  pub follow : rest ≡ encode_utf8_all more ++ behind
  pub scalars : all_scalars more ≡ true
  pub longer : Statement
  pub stated : UpToDot (own ++ more ++ codes ".") longer

-- with some continuation of the bytes it does
pub record MayGoOn (own rest : List ℕ) : Type 0 where
  pub further : List ℕ
  pub goes : GoesOn own (rest ++ further)

-- lines that are all ended
abbrev pub AreEnded : List ℕ → Type 0
AreEnded text = (text ≡ []) ⊎ ((front : List ℕ) × (c : ℕ) × (text ≡ front ++ c ∷ []) × (is_line_end c ≡ true))

-- a triple is complete at its dot after as many as are allowed, and the dot is no part of a longer label
pub record PassesWhere (IsWithin : List ℕ → List ℕ → Type 0) (bytes : List ℕ) : Type 0 where
  pub lines : List ℕ
  pub own : List ℕ
  pub rest : List ℕ
  pub parts : bytes ≡ encode_utf8_all (lines ++ own) ++ rest
  pub scalars : all_scalars (lines ++ own) ≡ true
  pub before : List Statement
  pub whole : NtText lines before
  pub ended : AreEnded lines
  pub many : triple_limit ≤ length before
  pub triple : Statement
  pub stated : UpToDot own triple
  pub settled : IsWithin own rest → ⊥

-- the document has one triple more than are allowed before any fault
abbrev pub Passes : List ℕ → Type 0
Passes bytes = PassesWhere GoesOn bytes

-- and it has, whatever comes after these bytes
abbrev pub HasPassed : List ℕ → Type 0
HasPassed bytes = PassesWhere MayGoOn bytes

-- the characters stop being the front of a document at this place, or the text ends there and is none; before a triple too many
abbrev pub IsSyntax : List ℕ → ℕ → Type 0
IsSyntax bytes place = (StopsAt NtText bytes place ⊎ StopsAtEnd NtText bytes place) × (Passes bytes → ⊥)

-- what stands at this place is no character; before a triple too many
abbrev pub IsNotUtf8 : List ℕ → ℕ → Type 0
IsNotUtf8 bytes place = LeavesOver NtText bytes place × (Passes bytes → ⊥)

-- the bytes are a document with these triples, which are not too many
pub record IsGraph (bytes : List ℕ) (triples : List Statement) : Type 0 where
  pub doc : NtDoc bytes triples
  pub within : length triples ≤ triple_limit

-- why the bytes are none
abbrev pub IsFault : List ℕ → NtErr → Type 0
IsFault bytes (faults.Syntax place) = IsSyntax bytes place
IsFault bytes (faults.NotUtf8 place) = IsNotUtf8 bytes place
IsFault bytes faults.TooMany = Passes bytes
IsFault bytes faults.Memory = ⊤

-- what the whole document is read as
abbrev pub NtAnswer : List ℕ → Result (List Statement) NtErr → Type 0
NtAnswer bytes (Ok triples) = IsGraph bytes triples
NtAnswer bytes (Err fault) = IsFault bytes fault

-- the bytes may be the front of a document: their characters can go on to one, what is left over begins a character, and they
-- have no triple too many
pub record MayBeFront (bytes : List ℕ) : Type 0 where
  pub front : List ℕ
  pub left : List ℕ
  pub parts : bytes ≡ encode_utf8_all front ++ left
  pub scalars : all_scalars front ≡ true
  pub viable : Viable NtText front
  pub begins : BeginsCharacter left
  pub counted : HasPassed bytes → ⊥

-- the document with these bytes at its front is refused so, whatever comes after them
abbrev pub IsRefused : List ℕ → NtErr → Type 0
IsRefused bytes fault = (more : List ℕ) → IsFault (bytes ++ more) fault

-- why a reader that has been given these bytes takes no more of them
abbrev pub IsFeedFault : List ℕ → NtErr → Type 0
IsFeedFault bytes (faults.Syntax place) = IsRefused bytes (faults.Syntax place) × (MayBeFront bytes → ⊥)
IsFeedFault bytes (faults.NotUtf8 place) = IsRefused bytes (faults.NotUtf8 place) × (MayBeFront bytes → ⊥)
IsFeedFault bytes faults.TooMany = IsRefused bytes faults.TooMany × (MayBeFront bytes → ⊥)
IsFeedFault bytes faults.Memory = ⊤

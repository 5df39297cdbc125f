-- What holds of the grammar of documents and of its reader (SPARQL 1.1 Query, section 19.8).
use Rattle.std.specs.Prelude.{◌≡◌, ℕ, List, [], ◌∷◌, ◌++◌, ◌↔◌}
use Rattle.std.specs.List.{AllByRecursion}
use Rattle.bye_pattern.specs.Written.{Written}
use Rattle.bye_tokens.specs.declared.token.Placed.{Placed}
use Rattle.bye_parts.specs.Parts.{any}
use Rattle.bye_parts.specs.Readers.{to_end, left_of}
use Rattle.bye_parts.specs.Brackets.{IsWithin}
use Rattle.bye_parts.specs.Answers.{Answers, Comes}
use Rattle.bye_grammar.specs.TokenKinds.{turn}
use Rattle.bye_grammar.specs.Fits.{IsIriReference, IsPlainReference}
use Rattle.bye_grammar.specs.Grammar.{document}
use Rattle.bye_grammar.specs.Reading.{read_document}
use Rattle.bye_grammar.specs.Valid.{IsToken, IsQuery}

-- The tokens derive from Document, at some depth of brackets, as this query.
abbrev pub IsDocument : List Placed → Written → Type 0
IsDocument ts w = (any document).derives ts w

-- the tokens are a front of Document
abbrev pub IsFront : List Placed → Type 0
IsFront ts = (any document).front ts

-- the reader, where n brackets may be open at once, answers by the grammar
abbrev pub DocumentsAreRead : Type 0
DocumentsAreRead = (n : ℕ) (ts : List Placed) → Answers (any document) turn n ts (to_end (read_document n ts))

-- whatever derives is read as its query, or a bracket is too deep
abbrev pub DocumentsCome : Type 0
DocumentsCome = (n : ℕ) (ts : List Placed) (w : Written) → IsDocument ts w → Comes (to_end (read_document n ts)) w []

-- a list of tokens derives as one query at most
abbrev pub DocumentsHaveOneValue : Type 0
DocumentsHaveOneValue = (ts : List Placed) (v w : Written) → IsDocument ts v → IsDocument ts w → v ≡ w

-- what derives is a front
abbrev pub DocumentsAreFronts : Type 0
DocumentsAreFronts = (ts : List Placed) (w : Written) → IsDocument ts w → IsFront ts

-- what begins a front is a front
abbrev pub FrontsAreClosed : Type 0
FrontsAreClosed = (x y : List Placed) → IsFront (x ++ y) → IsFront x

-- some IRI reference with a scheme fits after the tokens
abbrev pub FitsIri : List Placed → Type 0
FitsIri ts = (t : Placed) × IsIriReference t.token × IsFront (ts ++ t ∷ [])

-- Where no more than n brackets are open in the tokens: an IRI reference fits after them exactly where the reader reads them and one of
-- them, whichever it is that has a scheme and is not rdf:langString, and leaves none.
abbrev pub FittingIrisAreRead : Type 0
FittingIrisAreRead = (n : ℕ) (ts : List Placed) (t : Placed) → IsPlainReference t.token → IsWithin turn n ts → FitsIri ts ↔ (left_of (to_end (read_document n (ts ++ t ∷ []))) ≡ [])

-- a query that tokens of the program derive as is one that the program can hold
abbrev pub DocumentsAreValid : Type 0
DocumentsAreValid = (ts : List Placed) (w : Written) → AllByRecursion (λ t. IsToken t.token) ts → IsDocument ts w → IsQuery w

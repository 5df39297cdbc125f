-- What the reading of bytes as a query answers.
use Rattle.std.specs.Prelude.{◌≡◌, ℕ, ◌≤◌, List, length, Result, Ok, Err, ◌⊎◌}
use Rattle.bye_pattern.specs.Trees.{Select}
use Rattle.bye_pattern.specs.Written.{Written}
use Rattle.bye_parts.specs.Brackets.{IsWithin}
use Rattle.bye_grammar.specs.Documents.{QueryText, QueryDoc}
use Rattle.bye_grammar.specs.TokenKinds.{turn}
use Rattle.bye_grammar.specs.Valid.{IsQuery}
use Rattle.bye_tree.specs.Selects.{Parts, select_of}
use Rattle.bye_descent.specs.Opening.{max_open}
use Rattle.bye_query.specs.Refusals.{IsRefusal, max_bytes}
use Rattle.bye_query.specs.declared.query_err.QueryErr.{QueryErr}
use Rattle.bye_query.specs.declared.query_err.QueryErr.TheVariants.{TooLong, TooDeep, Memory}

-- The bytes are no more than may be, and the text of this written query, whose parts are valid. No more brackets are open at any place than
-- may be.
pub record IsReadAs (bytes : List ℕ) (w : Written) : Type 0 where
  pub short : length bytes ≤ max_bytes
  pub text : QueryText bytes w
  pub within : IsWithin turn max_open text.tokens
  pub valid : IsQuery w

-- They are no more than may be, and a document of this select. No more brackets are open at any place than may be.
pub record IsRead (bytes : List ℕ) (q : Select) : Type 0 where
  pub short : length bytes ≤ max_bytes
  pub document : QueryDoc bytes q
  pub within : IsWithin turn max_open document.text.tokens

-- A document of this select is answered by it. It is refused where it is too long or some bracket is too deep, and for want of memory.
abbrev pub Comes : Select → Result Parts QueryErr → Type 0
Comes q (Ok s) = select_of s ≡ q
Comes q (Err TooLong) = Unit {0}
Comes q (Err (TooDeep place)) = Unit {0}
Comes q (Err Memory) = Unit {0}
Comes q (Err _) = ⊥

-- the answer to the bytes: a select, or the cause of a refusal
abbrev pub QueryAnswer : List ℕ → Result Select QueryErr → Type 0
QueryAnswer bytes (Ok q) = IsRead bytes q
QueryAnswer bytes (Err error) = IsRefusal bytes error

-- which limit a refusal tells of, if any: none where the bytes are no such document
pub data Told : Type 0 where
  TooMuch : Told
  TooManyOpen : Told
  NoQuery : Told
  Nothing : Told

abbrev pub told : QueryErr → Told
told TooLong = TooMuch
told (TooDeep place) = TooManyOpen
told Memory = Nothing
told _ = NoQuery

-- Two answers to the same bytes: a select is one, a document that is read is refused for want of memory alone, and two refusals tell of
-- the same limit or of none.
abbrev pub Agree : Result Select QueryErr → Result Select QueryErr → Type 0
Agree (Ok q) (Ok r) = q ≡ r
Agree (Ok q) (Err f) = f ≡ Memory
Agree (Err e) (Ok r) = e ≡ Memory
Agree (Err e) (Err f) = (e ≡ Memory) ⊎ ((f ≡ Memory) ⊎ (told e ≡ told f))

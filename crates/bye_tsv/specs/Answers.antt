-- What a reader of table documents may answer: the table, or the first fault, with its place in bytes or its line.
use Rattle.std.specs.Prelude.{◌≡◌, ◌<◌, ◌≤◌, ℕ, suc, true, cond, ◌==◌, List, [], ◌∷◌, ◌++◌, length, Option, Some, None, ⊤, ◌⊎◌}
use Rattle.std.specs.List.{AllByRecursion}
use Rattle.std.specs.Str.{encode_utf8_all, all_scalars}
use Rattle.bye_terms.specs.declared.term.Term.{Term}
use Rattle.bye_lex.specs.Languages.{Viable}
use Rattle.bye_lex.specs.Stopping.{LeavesOver}
use Rattle.bye_lex.specs.Utf8.{BeginsCharacter}
use Rattle.bye_table.specs.Mappings.{Name}
use Rattle.bye_table.specs.Tables.{TableValue}
use Rattle.bye_tsv.specs.Documents.{IsLineEnd, header_text, AreNames, TsvText, TsvDoc}
use Rattle.bye_tsv.specs.Fields.{Field}
use Rattle.bye_tsv.specs.declared.fault.Bounds.{Bounds}
use Rattle.bye_tsv.specs.declared.fault.TsvErr.{TsvErr}
use Rattle.bye_tsv.specs.declared.fault.TsvErr.TheVariants as faults

-- the characters at the front can go on to a document, and with the next one they cannot
pub record StopsWith (bytes front : List ℕ) (next : ℕ) : Type 0 where
  pub rest : List ℕ
  pub parts : bytes ≡ encode_utf8_all (front ++ next ∷ []) ++ rest
  pub scalars : all_scalars (front ++ next ∷ []) ≡ true
  pub before : Viable TsvText front
  pub after : Viable TsvText (front ++ next ∷ []) → ⊥

-- the characters are all, can go on to a document, and are none
pub record StopsThere (bytes front : List ℕ) : Type 0 where
  pub encoded : bytes ≡ encode_utf8_all front
  pub scalars : all_scalars front ≡ true
  pub viable : Viable TsvText front
  pub none : (table : TableValue) → TsvText front table → ⊥

-- the fault stands after this front, at this character or at the end of the document
abbrev pub Stops : List ℕ → List ℕ → Option ℕ → Type 0
Stops bytes front None = StopsThere bytes front
Stops bytes front (Some next) = StopsWith bytes front next

-- how many lines are ended
abbrev pub lines : List ℕ → ℕ
lines [] = 0
lines (c ∷ cs) = cond (c == 10) (suc (lines cs)) (lines cs)

-- the present field up to the end of the front: what stands after the last TAB or LF
pub record IsPresent (front own : List ℕ) : Type 0 where
  pub before : List ℕ
  pub mark : ℕ
  pub parts : front ≡ before ++ mark ∷ own
  pub begins : (mark ≡ 9) ⊎ (mark ≡ 10)
  pub within : AllByRecursion (λ c. (c ≡ 9 → ⊥) × (c ≡ 10 → ⊥)) own

-- a TAB, a CR, an LF or the end of the document
abbrev pub EndsField : Option ℕ → Type 0
EndsField None = ⊤
EndsField (Some c) = (c ≡ 9) ⊎ ((c ≡ 10) ⊎ (c ≡ 13))

-- the fault stands there, and the present field up to it is empty or a term
pub record IsFieldEnd (front : List ℕ) (next : Option ℕ) : Type 0 where
  pub there : EndsField next
  pub own : List ℕ
  pub present : IsPresent front own
  pub cell : Option Term
  pub field : Field own cell

-- the fault stands in the first line, or there is no line
pub record IsHeaderFault (bytes : List ℕ) (place : ℕ) : Type 0 where
  pub front : List ℕ
  pub next : Option ℕ
  pub stops : Stops bytes front next
  pub first : lines front ≡ 0
  pub at : place ≡ length (encode_utf8_all front)

-- it stands in a later line, of this number, at the end of a field
pub record IsFieldsFault (bytes : List ℕ) (line : ℕ) : Type 0 where
  pub front : List ℕ
  pub next : Option ℕ
  pub stops : Stops bytes front next
  pub later : 0 < lines front
  pub ends : IsFieldEnd front next
  pub at : line ≡ suc (lines front)

-- it stands in a later line elsewhere
pub record IsTermFault (bytes : List ℕ) (place : ℕ) : Type 0 where
  pub front : List ℕ
  pub next : Option ℕ
  pub stops : Stops bytes front next
  pub later : 0 < lines front
  pub other : IsFieldEnd front next → ⊥
  pub at : place ≡ length (encode_utf8_all front)

-- a name of the header is complete before a TAB or a line's end
abbrev pub IsNameEnd : List ℕ → Type 0
IsNameEnd end = (end ≡ 9 ∷ []) ⊎ IsLineEnd end

-- whatever comes after these bytes, more names than the bound are complete, and no fault stands before
pub record HasPassedVars (bound : ℕ) (bytes : List ℕ) : Type 0 where
  pub names : List Name
  pub end : List ℕ
  pub rest : List ℕ
  pub parts : bytes ≡ encode_utf8_all (header_text names ++ end) ++ rest
  pub scalars : all_scalars (header_text names ++ end) ≡ true
  pub are : AreNames names
  pub ends : IsNameEnd end
  pub viable : Viable TsvText (header_text names ++ end)
  pub many : bound < length names

-- and more rows than the bound, each with its line's end
pub record HasPassedRows (bound : ℕ) (bytes : List ℕ) : Type 0 where
  pub before : List ℕ
  pub rest : List ℕ
  pub table : TableValue
  pub parts : bytes ≡ encode_utf8_all (before ++ 10 ∷ []) ++ rest
  pub scalars : all_scalars (before ++ 10 ∷ []) ≡ true
  pub lines : TsvText (before ++ 10 ∷ []) table
  pub many : bound < length table.rows

-- more names than the bound are complete before any fault, the last one maybe at the document's end
abbrev pub PassesVars : ℕ → List ℕ → Type 0
PassesVars bound bytes = HasPassedVars bound bytes ⊎ ((table : TableValue) × TsvDoc bytes table × (bound < length table.vars))

abbrev pub PassesRows : ℕ → List ℕ → Type 0
PassesRows bound bytes = HasPassedRows bound bytes ⊎ ((table : TableValue) × TsvDoc bytes table × (bound < length table.rows))

abbrev pub Passes : Bounds → List ℕ → Type 0
Passes bounds bytes = PassesVars bounds.vars bytes ⊎ PassesRows bounds.rows bytes

abbrev pub HasPassed : Bounds → List ℕ → Type 0
HasPassed bounds bytes = HasPassedVars bounds.vars bytes ⊎ HasPassedRows bounds.rows bytes

-- the bytes are a document of this table, whose variables and rows are not too many
pub record IsRead (bounds : Bounds) (bytes : List ℕ) (table : TableValue) : Type 0 where
  pub doc : TsvDoc bytes table
  pub vars : length table.vars ≤ bounds.vars
  pub rows : length table.rows ≤ bounds.rows

-- why the bytes are none
abbrev pub IsFault : Bounds → List ℕ → TsvErr → Type 0
IsFault bounds bytes (faults.NotUtf8 place) = LeavesOver TsvText bytes place × (Passes bounds bytes → ⊥)
IsFault bounds bytes (faults.Header place) = IsHeaderFault bytes place × (Passes bounds bytes → ⊥)
IsFault bounds bytes (faults.Term place) = IsTermFault bytes place × (Passes bounds bytes → ⊥)
IsFault bounds bytes (faults.Fields line) = IsFieldsFault bytes line × (Passes bounds bytes → ⊥)
IsFault bounds bytes faults.TooManyVars = PassesVars bounds.vars bytes
IsFault bounds bytes faults.TooManyRows = PassesRows bounds.rows bytes × (PassesVars bounds.vars bytes → ⊥)
IsFault bounds bytes faults.Memory = ⊤

-- the bytes may be the front of a document: their characters can go on to one, what is left over begins a character, and no count
-- is passed whatever comes
pub record MayBeFront (bounds : Bounds) (bytes : List ℕ) : Type 0 where
  pub front : List ℕ
  pub left : List ℕ
  pub parts : bytes ≡ encode_utf8_all front ++ left
  pub scalars : all_scalars front ≡ true
  pub viable : Viable TsvText front
  pub begins : BeginsCharacter left
  pub counted : HasPassed bounds bytes → ⊥

-- the document with these bytes at its front is refused so, whatever comes after them, and no continuation of them may go on
pub record Refuses (bounds : Bounds) (bytes : List ℕ) (fault : TsvErr) : Type 0 where
  pub always : (more : List ℕ) → IsFault bounds (bytes ++ more) fault
  pub never : (more : List ℕ) → MayBeFront bounds (bytes ++ more) → ⊥

-- why a reader that has been given these bytes takes no more of them
abbrev pub IsRefusal : Bounds → List ℕ → TsvErr → Type 0
IsRefusal bounds bytes fault = (fault ≡ faults.Memory) ⊎ Refuses bounds bytes fault

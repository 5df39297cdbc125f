-- The machine of documents: the variables and rows that were read, and how far the present line was read.
use Rattle.std.specs.Prelude.{◌≡◌, ℕ, ◌+◌, ◌-◌, Bool, true, false, cond, nat_lt, ◌==◌, ◌||◌, List, [], ◌∷◌, ◌++◌, length, Option, Some, None, option_map, ◌⊎◌}
use Rattle.std.specs.List.{AllByRecursion}
use Rattle.std.specs.Str.{encode_utf8_all}
use Rattle.bye_terms.specs.Members.{EachOnce}
use Rattle.bye_terms.specs.declared.term.Term.{Term}
use Rattle.bye_lex.specs.NameSteps as name
use Rattle.bye_lex.specs.declared.name.NameAt.{NameAt}
use Rattle.bye_lex.specs.declared.name.NameAt.TheVariants as names
use Rattle.bye_table.specs.Mappings.{Name, NoRepeat, Pairs, is_in}
use Rattle.bye_table.specs.Tables.{IsOverVars, TableValue}
use Rattle.bye_tsv.specs.Documents.{bound}
use Rattle.bye_tsv.specs.FieldSteps as field
use Rattle.bye_tsv.specs.declared.fault.Bounds.{Bounds}
use Rattle.bye_tsv.specs.declared.fault.TsvErr.{TsvErr}
use Rattle.bye_tsv.specs.declared.fault.TsvErr.TheVariants as faults
use Rattle.bye_tsv.specs.declared.field.FieldAt.{FieldAt}
use Rattle.bye_tsv.specs.declared.field.FieldAt.TheVariants.{Empty}
use Rattle.bye_tsv.specs.declared.place.Place.{Place}
use Rattle.bye_tsv.specs.declared.place.Place.TheVariants.{Start, Mark, Name as InName, HeaderReturn, Begin, Field, Return}

-- the variables and the rows that are complete, what the complete fields of the present line bind, the variables of its other
-- fields, the present one first, and how far that was read
pub record DocAt : Type 0 where
  pub vars : List Name
  pub rows : List Pairs
  pub row : Pairs
  pub later : List Name
  pub at : Place

abbrev pub start : DocAt
start = record { vars = []; rows = []; row = []; later = []; at = Start }

abbrev pub placed : DocAt → Place → DocAt
placed d at = record { vars = d.vars; rows = d.rows; row = d.row; later = d.later; at = at }

-- the first character of the document
abbrev pub first_place : ℕ → Option Place
first_place c = cond (c == 63) (Some (InName names.Start)) (cond (c == 10) (Some Begin) (cond (c == 13) (Some HeaderReturn) None))

-- the mark of a name after the first
abbrev pub mark_place : ℕ → Option Place
mark_place c = cond (c == 63) (Some (InName names.Start)) None

-- a character after a name
abbrev pub after_name : ℕ → Option Place
after_name c = cond (c == 9) (Some Mark) (cond (c == 10) (Some Begin) (cond (c == 13) (Some HeaderReturn) None))

abbrev pub named : DocAt → Name → Place → DocAt
named d v at = record { vars = d.vars ++ v ∷ []; rows = d.rows; row = d.row; later = d.later ++ v ∷ []; at = at }

-- a name that is whole, which does not stand among those before it
abbrev pub name_ends : DocAt → Option Name → Place → Option DocAt
name_ends d None at = None
name_ends d (Some v) at = cond (is_in d.vars v) None (Some (named d v at))

abbrev pub name_moves : DocAt → NameAt → ℕ → Option Place → Option DocAt
name_moves d n c None = option_map (λ n. placed d (InName n)) (name.step n c)
name_moves d n c (Some at) = name_ends d (name.final n) at

abbrev pub in_name : DocAt → NameAt → ℕ → Option DocAt
in_name d n c = name_moves d n c (after_name c)

-- the LF after a CR of the header
abbrev pub return_place : ℕ → Option Place
return_place c = cond (c == 10) (Some Begin) None

-- after the line of a row
abbrev pub line_ended : DocAt → Pairs → DocAt
line_ended d row = record { vars = d.vars; rows = d.rows ++ row ∷ []; row = []; later = d.vars; at = Begin }

-- after its CR
abbrev pub returned : DocAt → Pairs → DocAt
returned d row = record { vars = d.vars; rows = d.rows; row = row; later = []; at = Return }

-- a character after a row
abbrev pub row_ends : DocAt → ℕ → Pairs → Option DocAt
row_ends d c row = cond (c == 10) (Some (line_ended d row)) (cond (c == 13) (Some (returned d row)) None)

abbrev pub next_field : DocAt → List Name → Pairs → DocAt
next_field d later row = record { vars = d.vars; rows = d.rows; row = row; later = later; at = Field Empty }

-- a TAB or a line's end after a field with this cell, where these are the variables from the field's on
abbrev pub cell_ends : DocAt → ℕ → List Name → Option (Option Term) → Option DocAt
cell_ends d c later None = None
cell_ends d c [] (Some cell) = None
cell_ends d c (v ∷ []) (Some cell) = row_ends d c (d.row ++ bound v cell)
cell_ends d c (v ∷ w ∷ later) (Some cell) = cond (c == 9) (Some (next_field d (w ∷ later) (d.row ++ bound v cell))) None

-- the characters between fields and lines: TAB, LF and CR
abbrev pub is_border : ℕ → Bool
is_border c = c == 9 || (c == 10 || c == 13)

abbrev pub in_field : DocAt → FieldAt → ℕ → Option DocAt
in_field d f c = cond (is_border c) (cell_ends d c d.later (field.final f)) (option_map (λ n. placed d (Field n)) (field.step f c))

-- the first character of a later line, where these are the variables
abbrev pub begin : DocAt → ℕ → List Name → Option DocAt
begin d c [] = row_ends d c d.row
begin d c (v ∷ vs) = in_field d Empty c

-- the LF after a CR of a row
abbrev pub after_return : DocAt → ℕ → Option DocAt
after_return d c = cond (c == 10) (Some (line_ended d d.row)) None

-- one character more
abbrev pub place_step : DocAt → ℕ → Place → Option DocAt
place_step d c Start = option_map (placed d) (first_place c)
place_step d c Mark = option_map (placed d) (mark_place c)
place_step d c (InName n) = in_name d n c
place_step d c HeaderReturn = option_map (placed d) (return_place c)
place_step d c Begin = begin d c d.later
place_step d c (Field f) = in_field d f c
place_step d c Return = after_return d c

-- the place is looked at first, and the next one put there
abbrev pub step : DocAt → ℕ → Option DocAt
step d c = place_step (placed d Begin) c d.at

-- the table of a document that ends there
abbrev pub table_of : DocAt → TableValue
table_of d = record { vars = d.vars; rows = d.rows }

abbrev pub place_final : DocAt → Place → Option TableValue
place_final d Start = None
place_final d Mark = None
place_final d (InName n) = option_map table_of (name_ends d (name.final n) Begin)
place_final d HeaderReturn = None
place_final d Begin = Some (table_of d)
place_final d (Field f) = option_map table_of (cell_ends d 10 d.later (field.final f))
place_final d Return = None

abbrev pub final : DocAt → Option TableValue
final d = place_final (placed d Begin) d.at

-- a row that binds of these variables alone, none twice
abbrev pub IsRowOf : List Name → Pairs → Type 0
IsRowOf vars row = IsOverVars vars row × NoRepeat row

-- no variable stands twice, the rows are rows of them, and the present one is a row of those before the present field's
pub record IsSound (d : DocAt) : Type 0 where
  pub once : EachOnce d.vars
  pub rows : AllByRecursion (IsRowOf d.vars) d.rows
  pub done : List Name
  pub parts : d.vars ≡ done ++ d.later
  pub row : IsRowOf done d.row

-- the fault where the machine stops: at a TAB or a line's end, or else, at this place
abbrev pub line_fault : DocAt → Bool → ℕ → TsvErr
line_fault d true place = faults.Fields (length d.rows + 2)
line_fault d false place = faults.Term place

abbrev pub cell_fault : DocAt → Bool → ℕ → Option (Option Term) → TsvErr
cell_fault d border place None = faults.Term place
cell_fault d border place (Some cell) = line_fault d border place

abbrev pub place_fault : DocAt → Bool → ℕ → Place → TsvErr
place_fault d border place Start = faults.Header place
place_fault d border place Mark = faults.Header place
place_fault d border place (InName n) = faults.Header place
place_fault d border place HeaderReturn = faults.Header place
place_fault d border place Begin = line_fault d border place
place_fault d border place (Field f) = cell_fault d border place (field.final f)
place_fault d border place Return = faults.Term place

abbrev pub fault : DocAt → Bool → ℕ → TsvErr
fault d border place = place_fault d border place d.at

-- the names that are complete: one before a CR is not, until its LF comes
abbrev pub complete_at : ℕ → Place → ℕ
complete_at n Start = n
complete_at n Mark = n
complete_at n (InName name) = n
complete_at n HeaderReturn = n - 1
complete_at n Begin = n
complete_at n (Field f) = n
complete_at n Return = n

abbrev pub complete : DocAt → ℕ
complete d = complete_at (length d.vars) d.at

-- the count, of variables or of rows, that passes its bound
abbrev pub exceeded : Bounds → ℕ → ℕ → Option TsvErr
exceeded bounds vars rows = cond (nat_lt bounds.vars vars) (Some faults.TooManyVars) (cond (nat_lt bounds.rows rows) (Some faults.TooManyRows) None)

abbrev pub passed : Bounds → DocAt → Option TsvErr
passed bounds d = exceeded bounds (complete d) (length d.rows)

-- what reading a text comes to
pub data Walked : Type 0 where
  Went : DocAt → Walked
  Stopped : DocAt → List ℕ → Walked
  Many : TsvErr → Walked

abbrev pub counted : Walked → Option TsvErr → Walked
counted went None = went
counted went (Some fault) = Many fault

abbrev pub onward : Bounds → DocAt → List ℕ → (DocAt → Walked) → Option DocAt → Walked
onward bounds d rest go None = Stopped d rest
onward bounds d rest go (Some n) = counted (go n) (passed bounds n)

abbrev pub walk : Bounds → DocAt → List ℕ → Walked
walk bounds d [] = Went d
walk bounds d (c ∷ cs) = onward bounds d (c ∷ cs) (λ n. walk bounds n cs) (step d c)

-- whether a step was made, and to where
abbrev pub Moves : Bool → DocAt → Option DocAt → Type 0
Moves true n o = o ≡ Some n
Moves false n o = o ≡ None

-- whether a document may end there, and with what table
abbrev pub Ends : Bool → TableValue → Option TableValue → Type 0
Ends true t o = o ≡ Some t
Ends false t o = o ≡ None

-- why a table is not given: the document did not end so, or a count
abbrev pub IsNotGiven : Bounds → Bool → TableValue → TsvErr → TsvErr → Type 0
IsNotGiven bounds true t other e = exceeded bounds (length t.vars) (length t.rows) ≡ Some e
IsNotGiven bounds false t other e = e ≡ other

-- why a document is not read to its end: memory, no table, or a count
abbrev pub CannotFinish : Bounds → DocAt → ℕ → Option TableValue → TsvErr → Type 0
CannotFinish bounds d place None e = (e ≡ faults.Memory) ⊎ (e ≡ fault d true place)
CannotFinish bounds d place (Some t) e = (e ≡ faults.Memory) ⊎ (exceeded bounds (length t.vars) (length t.rows) ≡ Some e)

-- why a character was not taken: memory, no step, or a count
abbrev pub CannotAdvance : Bounds → DocAt → ℕ → ℕ → Option DocAt → TsvErr → Type 0
CannotAdvance bounds d c here None e = (e ≡ faults.Memory) ⊎ (e ≡ fault d (is_border c) here)
CannotAdvance bounds d c here (Some n) e = (e ≡ faults.Memory) ⊎ (passed bounds n ≡ Some e)

-- the place before the rest, in a text that ends at so many bytes
abbrev pub IsPlaceBefore : ℕ → List ℕ → ℕ → Type 0
IsPlaceBefore total rest here = here + length (encode_utf8_all rest) ≡ total

-- the fault at the first character of the rest
pub record IsFaultAt (total : ℕ) (d : DocAt) (rest : List ℕ) (e : TsvErr) : Type 0 where
  pub c : ℕ
  pub after : List ℕ
  pub parts : rest ≡ c ∷ after
  pub here : ℕ
  pub at : IsPlaceBefore total rest here
  pub is : e ≡ fault d (is_border c) here

abbrev pub CannotWalk : ℕ → TsvErr → Walked → Type 0
CannotWalk total e (Went d) = e ≡ faults.Memory
CannotWalk total e (Stopped d rest) = (e ≡ faults.Memory) ⊎ IsFaultAt total d rest e
CannotWalk total e (Many many) = (e ≡ faults.Memory) ⊎ (e ≡ many)

-- What each state of the machine of documents still wants, in the grammar's words.
use Rattle.std.specs.Prelude.{◌≡◌, ℕ, true, List, [], ◌∷◌, ◌++◌}
use Rattle.bye_terms.specs.Names.{is_name}
use Rattle.bye_lex.specs.Marks.{NameToken}
use Rattle.bye_lex.specs.declared.name.NameAt.{NameAt}
use Rattle.bye_lex.specs.declared.name.NameAt.TheVariants as names
use Rattle.bye_lex.proofs.NameExact as name_exactly
use Rattle.bye_table.specs.Mappings.{Name, Pairs}
use Rattle.bye_table.specs.Tables.{TableValue}
use Rattle.bye_tsv.specs.DocSteps.{DocAt}
use Rattle.bye_tsv.specs.Documents.{Closes, later_names, AreNames, FieldThen, LaterFields, Rows, TsvText}
use Rattle.bye_tsv.specs.declared.field.FieldAt.{FieldAt}
use Rattle.bye_tsv.specs.declared.place.Place.{Place}
use Rattle.bye_tsv.specs.declared.place.Place.TheVariants.{Start, Mark, Name as InName, HeaderReturn, Begin, Field, Return}
use Rattle.bye_tsv.proofs.FieldExact.{FieldLeft, GoodField}

-- the rest of the present name, the later ones, the end of the header, and the rows
pub record InHeader (vs : List Name) (Present : List ℕ → Name → Type 0) (text : List ℕ) (table : TableValue) : Type 0 where
  pub own : List ℕ
  pub name : Name
  pub more : List Name
  pub end : List ℕ
  pub rest : List ℕ
  pub present : Present own name
  pub closes : Closes end rest
  pub names : AreNames table.vars
  pub rows : Rows table.vars table.rows rest
  pub vars : table.vars ≡ vs ++ name ∷ more
  pub spelled : text ≡ own ++ (later_names more ++ (end ++ rest))

-- a name with its mark
abbrev pub Marked : List ℕ → Name → Type 0
Marked own name = (text : List ℕ) × (own ≡ 63 ∷ text) × NameToken text name

-- an LF, and the rows
pub record HeaderEnd (vs : List Name) (text : List ℕ) (table : TableValue) : Type 0 where
  pub rest : List ℕ
  pub names : AreNames table.vars
  pub rows : Rows table.vars table.rows rest
  pub vars : table.vars ≡ vs
  pub spelled : text ≡ 10 ∷ rest

-- the other rows
pub record InRows (vs : List Name) (before : List Pairs) (text : List ℕ) (table : TableValue) : Type 0 where
  pub more : List Pairs
  pub after : Rows vs more text
  pub vars : table.vars ≡ vs
  pub rows : table.rows ≡ before ++ more

-- the rest of the present line, its end, and the other rows
pub record InLine (vs : List Name) (before : List Pairs) (row : Pairs) (Line : List ℕ → Pairs → Type 0) (text : List ℕ) (table : TableValue) : Type 0 where
  pub line : List ℕ
  pub own : Pairs
  pub end : List ℕ
  pub rest : List ℕ
  pub more : List Pairs
  pub is : Line line own
  pub closes : Closes end rest
  pub after : Rows vs more rest
  pub spelled : text ≡ line ++ (end ++ rest)
  pub vars : table.vars ≡ vs
  pub rows : table.rows ≡ before ++ (row ++ own) ∷ more

-- the LF after a row, and the other rows
pub record LineEnd (vs : List Name) (before : List Pairs) (row : Pairs) (text : List ℕ) (table : TableValue) : Type 0 where
  pub rest : List ℕ
  pub more : List Pairs
  pub after : Rows vs more rest
  pub spelled : text ≡ 10 ∷ rest
  pub vars : table.vars ≡ vs
  pub rows : table.rows ≡ before ++ row ∷ more

-- the rest of the present field, and the later ones
abbrev pub FieldsLeft : FieldAt → List Name → List ℕ → Pairs → Type 0
FieldsLeft f [] text row = ⊥
FieldsLeft f (v ∷ later) text row = FieldThen (FieldLeft f) v (LaterFields later) text row

abbrev pub LeftAt : Place → DocAt → List ℕ → TableValue → Type 0
LeftAt Start d text table = TsvText text table
LeftAt Mark d text table = InHeader d.vars Marked text table
LeftAt (InName n) d text table = InHeader d.vars (name_exactly.Left n) text table
LeftAt HeaderReturn d text table = HeaderEnd d.vars text table
LeftAt Begin d text table = InRows d.vars d.rows text table
LeftAt (Field f) d text table = InLine d.vars d.rows d.row (FieldsLeft f d.later) text table
LeftAt Return d text table = LineEnd d.vars d.rows d.row text table

abbrev pub LeftDoc : DocAt → List ℕ → TableValue → Type 0
LeftDoc d text table = LeftAt d.at d text table

-- what was read of a name
abbrev pub GoodName : NameAt → Type 0
GoodName names.Start = Unit {0}
GoodName (names.In name) = is_name name ≡ true

-- in the header no row is read
pub record HasNoRows (d : DocAt) : Type 0 where
  pub rows : d.rows ≡ []
  pub row : d.row ≡ []
  pub later : d.later ≡ d.vars

pub record IsAtBegin (d : DocAt) : Type 0 where
  pub row : d.row ≡ []
  pub later : d.later ≡ d.vars

abbrev pub HasField : List Name → Type 0
HasField [] = ⊥
HasField (v ∷ later) = Unit {0}

abbrev pub GoodAt : Place → DocAt → Type 0
GoodAt Start d = HasNoRows d × (d.vars ≡ [])
GoodAt Mark d = HasNoRows d
GoodAt (InName n) d = HasNoRows d × GoodName n
GoodAt HeaderReturn d = HasNoRows d
GoodAt Begin d = IsAtBegin d
GoodAt (Field f) d = GoodField f × HasField d.later
GoodAt Return d = Unit {0}

-- the states that are reached
pub record GoodDoc (d : DocAt) : Type 0 where
  pub names : AreNames d.vars
  pub at : GoodAt d.at d

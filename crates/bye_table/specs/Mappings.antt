-- Mappings from variables to terms (SPARQL 1.1 Query, section 18.1.8, "Solution Mapping"), and how they join (section 18.5).
-- A mapping is a function from all names here. Each mapping of a table, and so each row of a query, binds finitely many.
use Rattle.std.specs.Prelude.{◌≡◌, ℕ, Bool, cond, List, [], ◌∷◌, Option, Some, None, IsSome}
use Rattle.std.specs.Str.{bytes_eq}
use Rattle.std.specs.List.{list_any}
use Rattle.bye_terms.specs.declared.term.Term.{Term}
use Rattle.bye_terms.specs.Members.{In}

-- the name of a variable, as the list of its characters
abbrev pub Name : Type 0
Name = List ℕ

-- a term or nothing for each name
abbrev pub Mapping : Type 0
Mapping = Name → Option Term

-- the empty mapping
abbrev pub nothing : Mapping
nothing v = None

-- the mapping has a term for the name
abbrev pub Binds : Mapping → Name → Type 0
Binds m v = IsSome (m v)

-- the mapping binds these variables and no others
abbrev pub Exactly : List Name → Mapping → Type 0
Exactly vs m = (v : Name) → (Binds m v → In vs v) × (In vs v → Binds m v)

-- they agree on each variable that both bind
abbrev pub Compatible : Mapping → Mapping → Type 0
Compatible m n = (v : Name) (s t : Term) → m v ≡ Some s → n v ≡ Some t → s ≡ t

-- the first term, where there is one, and else the second
abbrev pub first_of : Option Term → Option Term → Option Term
first_of None t = t
first_of (Some s) t = Some s

-- the union of two compatible mappings
abbrev pub merge : Mapping → Mapping → Mapping
merge m n v = first_of (m v) (n v)

-- whether the name is one of these
abbrev pub is_in : List Name → Name → Bool
is_in vs v = list_any (λ w. bytes_eq w v) vs

-- the mapping on these variables alone
abbrev pub restrict : List Name → Mapping → Mapping
restrict vs m v = cond (is_in vs v) (m v) None

-- a row of a table: its bound variables with their terms, in the order in which it keeps them
abbrev pub Pairs : Type 0
Pairs = List (Name × Term)

-- the mapping that a row is
abbrev pub row_mapping : Pairs → Mapping
row_mapping [] v = None
row_mapping (e ∷ es) v = cond (bytes_eq e.0 v) (Some e.1) (row_mapping es v)

-- no variable stands twice in the row
abbrev pub NoRepeat : Pairs → Type 0
NoRepeat [] = Unit {0}
NoRepeat (e ∷ es) = (row_mapping es e.0 ≡ None) × NoRepeat es

-- The domains of examples: which wanted rows bind which variables.
use Rattle.std.specs.Prelude.{◌≡◌, ℕ, zero, suc, List, [], ◌∷◌, ◌⊎◌}
use Rattle.std.specs.List.{AllByRecursion}
use Rattle.bye_terms.specs.Members.{In}
use Rattle.bye_table.specs.Mappings.{Name, Mapping, Binds}

-- the wanted rows, and the order of the wanted table's variables
pub record Wanted : Type 0 where
  pub vars : List Name
  pub rows : List Mapping

-- the row of that number, from 1 on
abbrev pub IsRowAt : List Mapping → ℕ → Mapping → Type 0
IsRowAt [] i m = ⊥
IsRowAt (r ∷ rows) zero m = ⊥
IsRowAt (r ∷ rows) (suc zero) m = r ≡ m
IsRowAt (r ∷ rows) (suc (suc i)) m = IsRowAt rows (suc i) m

-- the number is in E(x): that of a row that binds x
abbrev pub InE : List Mapping → Name → ℕ → Type 0
InE rows x i = (m : Mapping) × IsRowAt rows i m × Binds m x

-- some row binds x
abbrev pub IsSeen : List Mapping → Name → Type 0
IsSeen rows x = (m : Mapping) × In rows m × Binds m x

-- E(x) is a subset of E(y): each row that binds x binds y. For an x that some row binds, y is then in Up(x)
abbrev pub IsWithin : List Mapping → Name → Name → Type 0
IsWithin rows x y = AllByRecursion (λ m. Binds m x → Binds m y) rows

-- E(x) is a proper subset of E(y)
abbrev pub IsBelow : List Mapping → Name → Name → Type 0
IsBelow rows x y = IsWithin rows x y × (IsWithin rows y x → ⊥)

-- E(x) = E(y). For an x that some row binds, y is then in Class(x), the domain class of x
abbrev pub AreAlike : List Mapping → Name → Name → Type 0
AreAlike rows x y = IsWithin rows x y × IsWithin rows y x

-- every row binds x
abbrev pub BindsEach : List Mapping → Name → Type 0
BindsEach rows x = AllByRecursion (λ m. Binds m x) rows

-- v stands before w in the list
abbrev pub IsBefore : List Name → Name → Name → Type 0
IsBefore [] v w = ⊥
IsBefore (x ∷ xs) v w = ((x ≡ v) × In xs w) ⊎ IsBefore xs v w

-- the variables of the list that some row binds, in its order
abbrev pub AreSeen : List Mapping → List Name → List Name → Type 0
AreSeen rows [] vs = vs ≡ []
AreSeen rows (x ∷ xs) vs = (IsSeen rows x × ((ws : List Name) × AreSeen rows xs ws × (vs ≡ x ∷ ws))) ⊎ ((IsSeen rows x → ⊥) × AreSeen rows xs vs)

-- the variables that are selected: those that some wanted row binds, in the table's order
abbrev pub AreSelected : Wanted → List Name → Type 0
AreSelected w vs = AreSeen w.rows w.vars vs

-- The algebra and its rows (SPARQL 1.1 Query, section 18.5), as relations over the list of a graph's triples.
use Rattle.std.specs.Prelude.{◌≡◌, List, [], ◌∷◌, ◌⊎◌}
use Rattle.bye_terms.specs.Terms.{Statement}
use Rattle.bye_terms.specs.Members.{In}
use Rattle.bye_table.specs.Mappings.{Name, Mapping, nothing, Binds, merge, Compatible, restrict}
use Rattle.bye_pattern.specs.Patterns.{Pattern, vars, Becomes}
use Rattle.bye_pattern.specs.Conditions.{Expr, AllHoldExpr}

-- an expression of the algebra
pub data Alg : Type 0 where
  Bgp : List Pattern → Alg
  Join : Alg → Alg → Alg
  LeftJoin : Alg → Alg → List Expr → Alg
  Filter : List Expr → Alg → Alg

-- a triple of the graph that the pattern becomes, and the mapping of exactly the pattern's variables
abbrev pub IsMatch : List Statement → Pattern → Mapping → Type 0
IsMatch g p m = (f : Statement) × In g f × Becomes m p f × ((v : Name) → Binds m v → In (vars p) v)

-- the merge of two compatible mappings, one of each side
abbrev pub IsJoin : (Mapping → Type 0) → (Mapping → Type 0) → Mapping → Type 0
IsJoin A B m = (a : Mapping) × (b : Mapping) × A a × B b × Compatible a b × (m ≡ merge a b)

-- the matches of all patterns joined, beginning with the one empty mapping
abbrev pub IsBgpRow : List Statement → List Pattern → Mapping → Type 0
IsBgpRow g [] m = m ≡ nothing
IsBgpRow g (p ∷ ps) m = IsJoin (IsMatch g p) (IsBgpRow g ps) m

-- the merge of a with a compatible row of the other side on which the expressions hold
abbrev pub Extends : (Mapping → Type 0) → List Expr → Mapping → Mapping → Type 0
Extends B es a m = (b : Mapping) × B b × Compatible a b × AllHoldExpr es (merge a b) × (m ≡ merge a b)

-- a row of the left side that is extended, or that stays where nothing extends it
abbrev pub IsLeftJoin : (Mapping → Type 0) → (Mapping → Type 0) → List Expr → Mapping → Type 0
IsLeftJoin A B es m = (a : Mapping) × A a × (Extends B es a m ⊎ ((m ≡ a) × ((n : Mapping) → Extends B es a n → ⊥)))

-- a row of the expression
abbrev pub IsRow : List Statement → Alg → Mapping → Type 0
IsRow g (Bgp ps) m = IsBgpRow g ps m
IsRow g (Join a b) m = IsJoin (IsRow g a) (IsRow g b) m
IsRow g (LeftJoin a b es) m = IsLeftJoin (IsRow g a) (IsRow g b) es m
IsRow g (Filter es a) m = IsRow g a m × AllHoldExpr es m

-- a row restricted to the selected variables; as a set, each answer counts once
abbrev pub IsAnswer : List Statement → List Name → Alg → Mapping → Type 0
IsAnswer g vs a m = (n : Mapping) × IsRow g a n × (m ≡ restrict vs n)

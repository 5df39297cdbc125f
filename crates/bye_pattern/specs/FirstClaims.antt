-- The first claim of a class that shows, which is the one that is written.
use Rattle.std.specs.Prelude.{◌≡◌, ℕ, ◌<◌, List, [], ◌∷◌, Option, Some, None, ◌⊎◌}
use Rattle.bye_terms.specs.declared.term.Term.{Term}
use Rattle.bye_terms.specs.Terms.{Statement}
use Rattle.bye_table.specs.Mappings.{Mapping, Name, Pairs, row_mapping}
use Rattle.bye_table.specs.Domains.{Wanted}
use Rattle.bye_table.specs.DomainTrees.{IsFirstOfClass}
use Rattle.bye_pattern.specs.declared.class.Class.{Class}
use Rattle.bye_pattern.specs.declared.class.Class.TheVariants.{And, Optional}
use Rattle.bye_pattern.specs.declared.level.Level.{Level}
use Rattle.bye_pattern.specs.Certificates.{Admitted, Claim, Domains, Extension, Fork, IsShown, NoRoot, ShowsAdmitted, ShowsDomains, ShowsExtension, ShowsFork, ShowsNoRoot, ShowsUncovered, Uncovered}

-- the value of a variable, where there is one, before others
abbrev pub with_value : Name → Option Term → Pairs → Pairs
with_value v None rest = rest
with_value v (Some t) rest = (v, t) ∷ rest

-- the values of these variables, in their order
abbrev pub listing : List Name → Mapping → Pairs
listing [] e = []
listing (v ∷ vs) e = with_value v (e v) (listing vs e)

-- the least number with the property
abbrev pub IsLeast : (ℕ → Type 0) → ℕ → Type 0
IsLeast Holds n = Holds n × ((k : ℕ) → k < n → Holds k → ⊥)

-- the first of the list with the property
abbrev pub IsFirstWith : (Name → Type 0) → List Name → Name → Type 0
IsFirstWith Holds [] x = ⊥
IsFirstWith Holds (y ∷ ys) x = ((y ≡ x) × Holds y) ⊎ ((Holds y → ⊥) × IsFirstWith Holds ys x)

-- no two wanted rows have different domains; no fork; no variable uncovered
abbrev pub NoDomains : List Mapping → Type 0
NoDomains rows = (i j : ℕ) (x : Name) → ShowsDomains rows i j x → ⊥

abbrev pub NoFork : List Mapping → Type 0
NoFork rows = (x y z : Name) → ShowsFork rows x y z → ⊥

abbrev pub NoneUncovered : List Statement → List Mapping → Type 0
NoneUncovered g rows = (x : Name) → ShowsUncovered g rows x → ⊥

-- some values extend row I at y
abbrev pub IsExtendable : Level → List Statement → List Mapping → ℕ → Name → Type 0
IsExtendable level g rows i y = (values : Mapping) × ShowsExtension level g rows i y values

-- The first claim of a class. Of one conjunction: that row 1 and another have different domains, the least such row and then the
-- first variable; no root; the first uncovered variable; the least admitted row. With OPTIONAL groups: no root; the first fork, by
-- its three variables one after another; the first uncovered variable; an extension of the least row, at the first variable that is
-- the first of its class, with any values, in the table's order.
abbrev pub IsFirstClaim : Class → Level → List Statement → Wanted → List Mapping → Claim → Type 0
IsFirstClaim And level g w unwanted (Domains i j x) =
    (i ≡ 1) × IsLeast (λ k. (y : Name) × ShowsDomains w.rows 1 k y) j × IsFirstWith (ShowsDomains w.rows 1 j) w.vars x
IsFirstClaim And level g w unwanted NoRoot = NoDomains w.rows × ShowsNoRoot w.rows
IsFirstClaim And level g w unwanted (Fork x y z) = ⊥
IsFirstClaim And level g w unwanted (Uncovered x) = NoDomains w.rows × (ShowsNoRoot w.rows → ⊥) × IsFirstWith (ShowsUncovered g w.rows) w.vars x
IsFirstClaim And level g w unwanted (Admitted j) =
    NoDomains w.rows × (ShowsNoRoot w.rows → ⊥) × NoneUncovered g w.rows × IsLeast (ShowsAdmitted level g w.rows unwanted) j
IsFirstClaim And level g w unwanted (Extension i x values) = ⊥
IsFirstClaim Optional level g w unwanted (Domains i j x) = ⊥
IsFirstClaim Optional level g w unwanted NoRoot = ShowsNoRoot w.rows
IsFirstClaim Optional level g w unwanted (Fork x y z) =
    (ShowsNoRoot w.rows → ⊥) × IsFirstWith (λ a. (b : Name) × (c : Name) × ShowsFork w.rows a b c) w.vars x
    × IsFirstWith (λ b. (c : Name) × ShowsFork w.rows x b c) w.vars y × IsFirstWith (ShowsFork w.rows x y) w.vars z
IsFirstClaim Optional level g w unwanted (Uncovered x) = (ShowsNoRoot w.rows → ⊥) × NoFork w.rows × IsFirstWith (ShowsUncovered g w.rows) w.vars x
IsFirstClaim Optional level g w unwanted (Admitted j) = ⊥
IsFirstClaim Optional level g w unwanted (Extension i x values) =
    (ShowsNoRoot w.rows → ⊥) × NoFork w.rows × NoneUncovered g w.rows
    × IsLeast (λ k. (y : Name) × IsExtendable level g w.rows k y) i
    × IsFirstWith (λ y. IsFirstOfClass w y × IsExtendable level g w.rows i y) w.vars x
    × IsShown level g w.rows unwanted (Extension i x values) × (listing w.vars (row_mapping values) ≡ values)

-- the two claims are one, but for the values of an extension
abbrev pub IsOneClaim : Claim → Claim → Type 0
IsOneClaim (Extension i x values) (Extension j y others) = (i ≡ j) × (x ≡ y)
IsOneClaim claim other = claim ≡ other

-- Certificates that no query of a class fits, and when they show it.
use Rattle.std.specs.Prelude.{ℕ, ◌<◌, List, ◌⊎◌}
use Rattle.std.specs.List.{AllByRecursion}
use Rattle.bye_terms.specs.Terms.{Statement}
use Rattle.bye_terms.specs.Members.{In}
use Rattle.bye_pattern.specs.declared.cond.Cond.{Cond}
use Rattle.bye_pattern.specs.declared.level.Level.{Level}
use Rattle.bye_pattern.specs.declared.class.Class.{Class}
use Rattle.bye_pattern.specs.declared.class.Class.TheVariants.{And, Optional}
use Rattle.bye_table.specs.Mappings.{Name, Mapping, Pairs, row_mapping, NoRepeat, Binds, Exactly, merge}
use Rattle.bye_pattern.specs.Patterns.{Pattern, vars, Meets}
use Rattle.bye_pattern.specs.Conjuncts.{MeetsCond}
use Rattle.bye_pattern.specs.Common.{IsCommon, IsCommonCond}
use Rattle.bye_table.specs.Domains.{IsRowAt, IsSeen, IsWithin, IsBelow, AreAlike, BindsEach}
use Rattle.bye_pattern.specs.Starting.{IsCommonAt, IsCommonCondAt}

-- what a certificate claims; row numbers begin at 1
pub data Claim : Type 0 where
  -- of two wanted rows exactly one binds the variable
  Domains : ℕ → ℕ → Name → Claim
  -- no variable is bound in all wanted rows
  NoRoot : Claim
  -- the domain of the first variable is within those of two others, of which neither is within the other
  Fork : Name → Name → Name → Claim
  -- no triple pattern that may be used contains the variable
  Uncovered : Name → Claim
  -- an unwanted row meets whatever all wanted rows meet
  Admitted : ℕ → Claim
  -- a wanted row that does not bind the variable can be extended by these values
  Extension : ℕ → Name → Pairs → Claim

-- a certificate: the level and the class that it is about, and its claim
pub record CertificateValue : Type 0 where
  pub level : Level
  pub class : Class
  pub claim : Claim

-- the claim is one that the class may have
abbrev pub GoesWith : Class → Claim → Type 0
GoesWith And (Domains i j x) = Unit {0}
GoesWith And NoRoot = Unit {0}
GoesWith And (Fork x y z) = ⊥
GoesWith And (Uncovered x) = Unit {0}
GoesWith And (Admitted j) = Unit {0}
GoesWith And (Extension i x values) = ⊥
GoesWith Optional (Domains i j x) = ⊥
GoesWith Optional NoRoot = Unit {0}
GoesWith Optional (Fork x y z) = Unit {0}
GoesWith Optional (Uncovered x) = Unit {0}
GoesWith Optional (Admitted j) = ⊥
GoesWith Optional (Extension i x values) = Unit {0}

-- exactly one of the two rows binds x
abbrev pub BindsOne : Mapping → Mapping → Name → Type 0
BindsOne m n x = (Binds m x × (Binds n x → ⊥)) ⊎ ((Binds m x → ⊥) × Binds n x)

-- two wanted rows, of which exactly one binds x
pub record ShowsDomains (rows : List Mapping) (i j : ℕ) (x : Name) : Type 0 where
  pub apart : i < j
  pub one : Mapping
  pub other : Mapping
  pub one_row : IsRowAt rows i one
  pub other_row : IsRowAt rows j other
  pub binds : BindsOne one other x

-- no variable is bound in all wanted rows
abbrev pub ShowsNoRoot : List Mapping → Type 0
ShowsNoRoot rows = (x : Name) → BindsEach rows x → ⊥

-- E(x) is within E(y) and within E(z), and neither of these is within the other
pub record ShowsFork (rows : List Mapping) (x y z : Name) : Type 0 where
  pub seen : IsSeen rows x
  pub first : IsWithin rows x y
  pub second : IsWithin rows x z
  pub first_apart : IsWithin rows y z → ⊥
  pub second_apart : IsWithin rows z y → ⊥

-- no pattern that is common at x contains x
pub record ShowsUncovered (g : List Statement) (rows : List Mapping) (x : Name) : Type 0 where
  pub seen : IsSeen rows x
  pub none : (p : Pattern) → IsCommonAt g rows x p → In (vars p) x → ⊥

-- an unwanted row meets whatever all wanted rows meet
pub record ShowsAdmitted (level : Level) (g : List Statement) (rows unwanted : List Mapping) (j : ℕ) : Type 0 where
  -- the one domain of all wanted rows, which is that of the unwanted row too
  pub domain : List Name
  pub same : AllByRecursion (Exactly domain) rows
  pub row : Mapping
  pub row_at : IsRowAt unwanted j row
  pub of_row : Exactly domain row
  -- the row meets whatever over that domain all wanted rows meet
  pub triples : (p : Pattern) → IsCommon g domain rows p → Meets g row p
  pub conditions : (c : Cond) → IsCommonCond level domain rows c → MeetsCond row c

-- a wanted row that lacks x and binds each variable of a greater domain, of which there is one
pub record IsOpenAt (rows : List Mapping) (i : ℕ) (x : Name) (row : Mapping) : Type 0 where
  pub seen : IsSeen rows x
  pub row_at : IsRowAt rows i row
  pub lacks : Binds row x → ⊥
  pub around : (y : Name) → IsSeen rows y → IsBelow rows x y → Binds row y
  pub some_around : (y : Name) × IsSeen rows y × IsBelow rows x y

-- the values bind exactly the domain class of x
abbrev pub BindsClass : List Mapping → Name → Mapping → Type 0
BindsClass rows x values = (v : Name) → (Binds values v → AreAlike rows x v) × (AreAlike rows x v → Binds values v)

-- a wanted row that is open at x is extended by values that meet whatever is common at x
pub record ShowsExtension (level : Level) (g : List Statement) (rows : List Mapping) (i : ℕ) (x : Name) (values : Mapping) : Type 0 where
  pub row : Mapping
  pub place : IsOpenAt rows i x row
  pub binds : BindsClass rows x values
  -- with them the row meets whatever over Up(x) all wanted rows binding x meet
  pub triples : (p : Pattern) → IsCommonAt g rows x p → Meets g (merge row values) p
  pub conditions : (c : Cond) → IsCommonCondAt level rows x c → MeetsCond (merge row values) c

-- the claim holds of the examples; the values of an extension bind no variable twice
abbrev pub IsShown : Level → List Statement → List Mapping → List Mapping → Claim → Type 0
IsShown level g rows unwanted (Domains i j x) = ShowsDomains rows i j x
IsShown level g rows unwanted NoRoot = ShowsNoRoot rows
IsShown level g rows unwanted (Fork x y z) = ShowsFork rows x y z
IsShown level g rows unwanted (Uncovered x) = ShowsUncovered g rows x
IsShown level g rows unwanted (Admitted j) = ShowsAdmitted level g rows unwanted j
IsShown level g rows unwanted (Extension i x values) = NoRepeat values × ShowsExtension level g rows i x (row_mapping values)

-- the claim goes with its class, and holds of the examples
pub record Shows (g : List Statement) (rows unwanted : List Mapping) (c : CertificateValue) : Type 0 where
  pub goes : GoesWith c.class c.claim
  pub shown : IsShown c.level g rows unwanted c.claim

-- When some query of a class fits, by the start tree and by claims.
use Rattle.bye_pattern.specs.declared.level.Level.{Level}
use Rattle.std.specs.Prelude.{ℕ, ◌≡◌, List, [], ◌↔◌}
use Rattle.bye_terms.specs.Members.{EachOnce, In}
use Rattle.bye_terms.specs.Terms.{Statement}
use Rattle.bye_pattern.specs.declared.class.Class.{Class}
use Rattle.bye_pattern.specs.declared.class.Class.TheVariants.{And, Optional}
use Rattle.bye_pattern.specs.Certificates.{CertificateValue, Shows, ShowsAdmitted, ShowsDomains, ShowsExtension, ShowsFork, ShowsNoRoot, ShowsUncovered}
use Rattle.bye_table.specs.Domains.{IsSeen, Wanted}
use Rattle.bye_pattern.specs.Fitting.{NoFit}
use Rattle.bye_pattern.specs.Keeping.{HasDomains, IsOfClass, IsRight, IsStart}
use Rattle.bye_table.specs.Mappings.{Mapping, Name}
use Rattle.bye_table.specs.DomainTrees.{Domain, IsDomainTree}
use Rattle.bye_pattern.specs.Trees.{Select}

-- the rows bind variables of the table alone, and no variable stands twice in the table; there is a row
pub record AreExamples (w : Wanted) : Type 0 where
  pub once : EachOnce w.vars
  pub within : (v : Name) → IsSeen w.rows v → In w.vars v
  pub some : w.rows ≡ [] → ⊥

-- unwanted rows come with the class of one conjunction alone
abbrev pub Allows : Class → List Mapping → Type 0
Allows And unwanted = Unit {0}
Allows Optional unwanted = unwanted ≡ []

-- where any query of the class fits, the start is of the class and fits
abbrev pub StartsFitIfAny : Type 0
StartsFitIfAny = (class : Class) (level : Level) (g : List Statement) (w : Wanted) (unwanted : List Mapping) (start q : Select) → AreExamples w → Allows class unwanted → IsStart class level g w start
    → IsRight class level g w.rows unwanted q → IsRight class level g w.rows unwanted start

-- no query of the class fits exactly where the start is not of the class or does not fit
abbrev pub NoneFitsAsTheStart : Type 0
NoneFitsAsTheStart = (class : Class) (level : Level) (g : List Statement) (w : Wanted) (unwanted : List Mapping) (start : Select) → AreExamples w → Allows class unwanted → IsStart class level g w start
    → NoFit (IsOfClass class level w.rows) g w.rows unwanted ↔ (IsRight class level g w.rows unwanted start → ⊥)

-- each certificate that shows is right: no query of its class fits
abbrev pub CertificatesAreSound : Type 0
CertificatesAreSound = (g : List Statement) (w : Wanted) (unwanted : List Mapping) (c : CertificateValue) → AreExamples w → Shows g w.rows unwanted c
    → NoFit (IsOfClass c.class c.level w.rows) g w.rows unwanted

-- where no query of the class fits, some certificate of the class and level shows it; the unwanted rows bind variables of a table
abbrev pub CertificatesAreEnough : Type 0
CertificatesAreEnough = (class : Class) (level : Level) (g : List Statement) (w : Wanted) (unwanted : List Mapping) (header : List Name) → AreExamples w → Allows class unwanted
    → ((v : Name) → IsSeen unwanted v → In header v) → NoFit (IsOfClass class level w.rows) g w.rows unwanted
    → (c : CertificateValue) × (c.class ≡ class) × (c.level ≡ level) × Shows g w.rows unwanted c

-- there is a tree of domains exactly where neither noroot nor a fork shows; and one of a single domain exactly where neither noroot
-- shows nor that two rows have different domains
pub record DomainTreesByClaims : Type 0 where
  pub optional : (w : Wanted) → AreExamples w
      → ((d : Domain) × IsDomainTree w d) ↔ ((ShowsNoRoot w.rows → ⊥) × ((x y z : Name) → ShowsFork w.rows x y z → ⊥))
  pub conjunction : (w : Wanted) → AreExamples w
      → ((d : Domain) × HasDomains And d × IsDomainTree w d) ↔ ((ShowsNoRoot w.rows → ⊥) × ((i j : ℕ) (x : Name) → ShowsDomains w.rows i j x → ⊥))

-- a start is of its class exactly where no variable is uncovered
abbrev pub StartsByCovering : Type 0
StartsByCovering = (class : Class) (level : Level) (g : List Statement) (w : Wanted) (start : Select) → AreExamples w → IsStart class level g w start
    → IsOfClass class level w.rows start ↔ ((x : Name) → ShowsUncovered g w.rows x → ⊥)

-- a start that is of its class is right exactly where no unwanted row is admitted, or no wanted row can be extended
pub record StartsAreRight : Type 0 where
  pub conjunction : (level : Level) (g : List Statement) (w : Wanted) (unwanted : List Mapping) (start : Select) → AreExamples w → IsStart And level g w start → IsOfClass And level w.rows start
      → IsRight And level g w.rows unwanted start ↔ ((j : ℕ) → ShowsAdmitted level g w.rows unwanted j → ⊥)
  pub optional : (level : Level) (g : List Statement) (w : Wanted) (start : Select) → AreExamples w → IsStart Optional level g w start → IsOfClass Optional level w.rows start
      → IsRight Optional level g w.rows [] start ↔ ((i : ℕ) (x : Name) (values : Mapping) → ShowsExtension level g w.rows i x values → ⊥)

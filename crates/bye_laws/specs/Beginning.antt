-- That each class has one start, exactly where no claim shows about which rows bind which variables.
use Rattle.std.specs.Prelude.{◌≡◌, ℕ, List, ◌↔◌}
use Rattle.std.specs.List.{AllByRecursion}
use Rattle.bye_terms.specs.Terms.{Statement}
use Rattle.bye_table.specs.Domains.{Wanted}
use Rattle.bye_table.specs.DomainTrees.{Domain, IsDomainTree}
use Rattle.bye_table.specs.Mappings.{Name}
use Rattle.bye_pattern.specs.declared.class.Class.{Class}
use Rattle.bye_pattern.specs.declared.class.Class.TheVariants.{And, Optional}
use Rattle.bye_pattern.specs.declared.level.Level.{Level}
use Rattle.bye_pattern.specs.Certificates.{ShowsDomains, ShowsFork, ShowsNoRoot}
use Rattle.bye_pattern.specs.Keeping.{IsStart}
use Rattle.bye_pattern.specs.Trees.{Select}
use Rattle.bye_laws.specs.Completeness.{AreExamples}
use Rattle.bye_laws.specs.Strongest.{AreNames, IsValidTriple}

-- trees of domains and starts are one, and it is told when they are there
pub record StartsAreThereAndOne : Type 0 where
  -- examples have one tree of domains at most, and each class one start
  pub one_tree : (w : Wanted) (d e : Domain) → AreExamples w → IsDomainTree w d → IsDomainTree w e → d ≡ e
  pub one : (class : Class) (level : Level) (g : List Statement) (w : Wanted) (start other : Select) → AreExamples w → IsStart class level g w start
      → IsStart class level g w other → start ≡ other
  -- with OPTIONAL groups there is one exactly where neither noroot nor a fork shows
  pub optional : (level : Level) (g : List Statement) (w : Wanted) → AreExamples w → AreNames w.vars → AllByRecursion IsValidTriple g
      → ((start : Select) × IsStart Optional level g w start) ↔ ((ShowsNoRoot w.rows → ⊥) × ((x y z : Name) → ShowsFork w.rows x y z → ⊥))
  -- and of one conjunction exactly where neither noroot shows nor that two rows have different domains
  pub conjunction : (level : Level) (g : List Statement) (w : Wanted) → AreExamples w → AreNames w.vars → AllByRecursion IsValidTriple g
      → ((start : Select) × IsStart And level g w start) ↔ ((ShowsNoRoot w.rows → ⊥) × ((i j : ℕ) (x : Name) → ShowsDomains w.rows i j x → ⊥))

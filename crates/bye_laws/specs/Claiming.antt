-- Claims as they are found: by the lists of a node, and that the first shows.
use Rattle.std.specs.Prelude.{◌≡◌, ℕ, List, [], map, ◌↔◌}
use Rattle.std.specs.List.{AllByRecursion}
use Rattle.bye_terms.specs.Members.{In}
use Rattle.bye_terms.specs.Terms.{Statement}
use Rattle.bye_table.specs.Mappings.{Exactly, Mapping, Name, NoRepeat, merge, row_mapping}
use Rattle.bye_table.specs.Domains.{IsBefore, IsRowAt, IsSeen, Wanted}
use Rattle.bye_pattern.specs.declared.class.Class.{Class}
use Rattle.bye_pattern.specs.declared.cond.Cond.{Cond}
use Rattle.bye_pattern.specs.declared.level.Level.{Level}
use Rattle.bye_pattern.specs.Certificates.{BindsClass, CertificateValue, Claim, IsOpenAt, Shows, ShowsAdmitted, ShowsExtension, ShowsUncovered}
use Rattle.bye_pattern.specs.Fitting.{NoFit}
use Rattle.bye_pattern.specs.Keeping.{IsOfClass}
use Rattle.bye_pattern.specs.Patterns.{Pattern, all_vars}
use Rattle.bye_pattern.specs.Starting.{IsStartNode}
use Rattle.bye_pattern.specs.Trees.{leaf, node}
use Rattle.bye_laws.specs.Completeness.{Allows, AreExamples}
use Rattle.bye_laws.specs.Ordering.{IsSorted}
use Rattle.bye_laws.specs.Reaching.{MeetsNode}
use Rattle.bye_laws.specs.Strongest.{IsStrongestNode}
use Rattle.bye_pattern.specs.FirstClaims.{IsFirstClaim, IsOneClaim, listing}

-- a claim shows exactly where the lists of a node say so: what they lack, and who meets them
pub record ClaimsByLists : Type 0 where
  pub uncovered : (level : Level) (g : List Statement) (w : Wanted) (x : Name) (ps : List Pattern) (cs : List Cond) → IsStartNode level g w x ps cs
      → ShowsUncovered g w.rows x ↔ (IsSeen w.rows x × (In (all_vars ps) x → ⊥))
  pub admitted : (level : Level) (g : List Statement) (rows unwanted : List Mapping) (j : ℕ) (vs : List Name) (ps : List Pattern) (cs : List Cond) → (rows ≡ [] → ⊥)
      → AllByRecursion (Exactly vs) rows → IsStrongestNode level g vs rows ps cs
      → ShowsAdmitted level g rows unwanted j ↔ ((m : Mapping) × IsRowAt unwanted j m × Exactly vs m × MeetsNode g m (node ps cs leaf))
  pub extension : (level : Level) (g : List Statement) (w : Wanted) (i : ℕ) (x : Name) (values : Mapping) (ps : List Pattern) (cs : List Cond) → AreExamples w → IsStartNode level g w x ps cs
      → ShowsExtension level g w.rows i x values ↔ ((m : Mapping) × IsOpenAt w.rows i x m × BindsClass w.rows x values × MeetsNode g (merge m values) (node ps cs leaf))

-- the values of an extension, listed in the table's order, are the same mapping; they are of different variables, and there are some
pub record ValuesAreListed : Type 0 where
  pub same : (level : Level) (g : List Statement) (w : Wanted) (i : ℕ) (x : Name) (values : Mapping) → AreExamples w → ShowsExtension level g w.rows i x values → row_mapping (listing w.vars values) ≡ values
  pub once : (w : Wanted) (values : Mapping) → AreExamples w → NoRepeat (listing w.vars values)
  pub some : (level : Level) (g : List Statement) (w : Wanted) (i : ℕ) (x : Name) (values : Mapping) → AreExamples w → ShowsExtension level g w.rows i x values → listing w.vars values ≡ [] → ⊥
  pub order : (w : Wanted) (values : Mapping) → AreExamples w → IsSorted (IsBefore w.vars) (map (λ p. p.0) (listing w.vars values))

-- the first claim shows, and where any claim of the class shows there is a first; unwanted rows bind variables of a table too
pub record FirstClaims : Type 0 where
  pub shows : (class : Class) (level : Level) (g : List Statement) (w : Wanted) (unwanted : List Mapping) (claim : Claim) → AreExamples w → IsFirstClaim class level g w unwanted claim
      → Shows g w.rows unwanted (record { level = level; class = class; claim = claim })
  pub there : (g : List Statement) (w : Wanted) (unwanted : List Mapping) (header : List Name) (c : CertificateValue) → AreExamples w → ((v : Name) → IsSeen unwanted v → In header v)
      → Shows g w.rows unwanted c → (claim : Claim) × IsFirstClaim c.class c.level g w unwanted claim
  -- of one class and level the first claim is one, but for the values of an extension
  pub one : (class : Class) (level : Level) (g : List Statement) (w : Wanted) (unwanted : List Mapping) (claim other : Claim) → AreExamples w
      → IsFirstClaim class level g w unwanted claim → IsFirstClaim class level g w unwanted other → IsOneClaim claim other
  -- and there is one exactly where no query of the class fits
  pub exactly : (class : Class) (level : Level) (g : List Statement) (w : Wanted) (unwanted : List Mapping) (header : List Name) → AreExamples w → Allows class unwanted
      → ((v : Name) → IsSeen unwanted v → In header v) → NoFit (IsOfClass class level w.rows) g w.rows unwanted ↔ ((claim : Claim) × IsFirstClaim class level g w unwanted claim)

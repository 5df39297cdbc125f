-- All that some rows have in common over some variables, and the nodes of the start by it.
use Rattle.std.specs.Prelude.{◌≡◌, true, List, [], ◌↔◌}
use Rattle.std.specs.List.{AllByRecursion}
use Rattle.bye_terms.specs.Members.{EachOnce, In}
use Rattle.bye_terms.specs.Names.{is_name}
use Rattle.bye_terms.specs.Terms.{IsTriple, Statement}
use Rattle.bye_terms.specs.Valid.{IsTerm}
use Rattle.bye_table.specs.Domains.{IsBefore, IsSeen, IsWithin, Wanted}
use Rattle.bye_table.specs.Mappings.{Binds, Mapping, Name}
use Rattle.bye_pattern.specs.declared.cond.Cond.{Cond}
use Rattle.bye_pattern.specs.declared.level.Level.{Level}
use Rattle.bye_pattern.specs.Common.{IsCommon, IsCommonCond}
use Rattle.bye_pattern.specs.Patterns.{Pattern}
use Rattle.bye_pattern.specs.Starting.{AreInTrialOrder, IsInForm, IsStartNode}
use Rattle.bye_pattern.specs.TrialOrder.{IsInStrictOrder}
use Rattle.bye_laws.specs.Completeness.{AreExamples}
use Rattle.bye_laws.specs.Ordering.{IsSorted}

-- all triple patterns of the class over these variables that hold in all these rows, and all conditions of the level in form, both in the order of trial
pub record IsStrongestNode (level : Level) (g : List Statement) (header : List Name) (rows : List Mapping) (ps : List Pattern) (cs : List Cond) : Type 0 where
  pub triples : (p : Pattern) → In ps p ↔ IsCommon g header rows p
  pub sorted : IsInStrictOrder ps
  pub conditions : (c : Cond) → In cs c ↔ (IsCommonCond level header rows c × IsInForm header c)
  pub conditions_sorted : AreInTrialOrder header cs

-- a triple of terms of RDF
pub record IsValidTriple (f : Statement) : Type 0 where
  pub triple : IsTriple f
  pub subject : IsTerm f.s
  pub predicate : IsTerm f.p
  pub object : IsTerm f.o

-- these may name variables
abbrev pub AreNames : List Name → Type 0
AreNames vs = AllByRecursion (λ v. is_name v ≡ true) vs

-- Up(x): the variables that each row binding x binds, in the table's order
pub record AreAround (w : Wanted) (x : Name) (vs : List Name) : Type 0 where
  pub members : (v : Name) → In vs v ↔ IsWithin w.rows x v
  pub sorted : IsSorted (IsBefore w.vars) vs

-- the rows that bind x
abbrev pub AreRowsOf : List Mapping → Name → List Mapping → Type 0
AreRowsOf rows x others = (m : Mapping) → In others m ↔ (In rows m × Binds m x)

-- the strongest node is there, and one, and over Up(x) and the rows that bind x it is the start's
pub record StrongestNodes : Type 0 where
  pub there : (level : Level) (g : List Statement) (header : List Name) (rows : List Mapping) → EachOnce header → AreNames header → AllByRecursion IsValidTriple g → (rows ≡ [] → ⊥)
      → (ps : List Pattern) × (cs : List Cond) × IsStrongestNode level g header rows ps cs
  pub one : (level : Level) (g : List Statement) (header : List Name) (rows : List Mapping) (ps qs : List Pattern) (cs ds : List Cond) → EachOnce header
      → IsStrongestNode level g header rows ps cs → IsStrongestNode level g header rows qs ds → (ps ≡ qs) × (cs ≡ ds)
  pub around : (w : Wanted) (x : Name) → AreExamples w → IsSeen w.rows x → (vs : List Name) × AreAround w x vs
  pub one_around : (w : Wanted) (x : Name) (vs us : List Name) → AreExamples w → AreAround w x vs → AreAround w x us → vs ≡ us
  pub rows : (rows : List Mapping) (x : Name) → (others : List Mapping) × AreRowsOf rows x others
  pub start : (level : Level) (g : List Statement) (w : Wanted) (x : Name) (vs : List Name) (rows : List Mapping) (ps : List Pattern) (cs : List Cond) → AreExamples w → AreAround w x vs
      → AreRowsOf w.rows x rows → IsStrongestNode level g vs rows ps cs ↔ IsStartNode level g w x ps cs

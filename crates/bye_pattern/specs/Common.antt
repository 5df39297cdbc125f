-- The triple patterns and conditions that hold in all wanted rows.
use Rattle.std.specs.Prelude.{List}
use Rattle.std.specs.List.{AllByRecursion}
use Rattle.bye_terms.specs.Terms.{Statement}
use Rattle.bye_terms.specs.Members.{In}
use Rattle.bye_table.specs.Mappings.{Name, Mapping}
use Rattle.bye_pattern.specs.Patterns.{Pattern, vars, Meets}
use Rattle.bye_pattern.specs.declared.level.Level.{Level}
use Rattle.bye_pattern.specs.declared.cond.Cond.{Cond}
use Rattle.bye_pattern.specs.Conditions.{cond_vars}
use Rattle.bye_pattern.specs.Conjuncts.{MeetsCond}
use Rattle.bye_pattern.specs.Classes.{IsClassTriple, IsClassCond}

-- a triple pattern of the class over the header's variables, with any terms as constants, that holds in each wanted row
pub record IsCommon (g : List Statement) (header : List Name) (wanted : List Mapping) (p : Pattern) : Type 0 where
  pub in_class : IsClassTriple p
  pub over : (v : Name) → In (vars p) v → In header v
  pub holds : AllByRecursion (λ m. Meets g m p) wanted

-- a condition of the class over the header's variables, with any term as constant, that each wanted row meets
pub record IsCommonCond (level : Level) (header : List Name) (wanted : List Mapping) (c : Cond) : Type 0 where
  pub in_class : IsClassCond level c
  pub over : (v : Name) → In (cond_vars c) v → In header v
  pub holds : AllByRecursion (λ m. MeetsCond m c) wanted

-- a variable that no common triple pattern contains
abbrev pub IsUncovered : List Statement → List Name → List Mapping → Name → Type 0
IsUncovered g header wanted x = (p : Pattern) → IsCommon g header wanted p → In (vars p) x → ⊥

-- a variable that some common triple pattern contains
abbrev pub IsCovered : List Statement → List Name → List Mapping → Name → Type 0
IsCovered g header wanted x = (p : Pattern) × IsCommon g header wanted p × In (vars p) x

-- The four rules of well-designed trees, as they are judged at one group. Of the variables of other groups' triples the code knows
-- those of the parent, those of all ancestors (above), and those of all earlier groups, ancestors included (seen).
use Rattle.std.specs.Prelude.{◌≡◌, Bool, true, false, not, ◌&&◌, ◌||◌, cond, List, [], ◌++◌, Option, Some, None}
use Rattle.std.specs.List.{AllByRecursion, list_any, list_all}
use Rattle.bye_terms.specs.Members.{In}
use Rattle.bye_table.specs.Mappings.{Name, is_in}
use Rattle.bye_pattern.specs.declared.cond.Cond.{Cond}
use Rattle.bye_pattern.specs.declared.rule.Rule.{Rule}
use Rattle.bye_pattern.specs.declared.rule.Rule.TheVariants.{NoTriples, NoNewVariable, NotWellDesigned, UnsafeCondition}
use Rattle.bye_pattern.specs.Patterns.{Pattern, all_vars}
use Rattle.bye_pattern.specs.Conditions.{cond_vars}
use Rattle.bye_pattern.specs.Designed.{IsSafe}
use Rattle.bye_tree.specs.declared.shape.ShapeErr.{ShapeErr}
use Rattle.bye_tree.specs.declared.shape.ShapeErr.TheVariants.{Broken, Memory}

-- some of the own variables is not among these
abbrev pub has_new : List Name → List Name → Bool
has_new others own = list_any (λ v. not (is_in others v)) own

-- each own variable that an earlier group has is the parent's
abbrev pub shares : List Name → List Name → List Name → Bool
shares parent seen own = list_all (λ v. not (is_in seen v) || is_in parent v) own

-- a variable of an ancestor is the parent's, and another one is in no earlier group
abbrev pub may_stay : List Name → List Name → List Name → Name → Bool
may_stay parent above seen v = cond (is_in above v) (is_in parent v) (not (is_in seen v))

-- each own variable is so
abbrev pub stays : List Name → List Name → List Name → List Name → Bool
stays parent above seen own = list_all (may_stay parent above seen) own

-- the condition has only own variables and the parent's
abbrev pub is_safe : List Name → List Name → Cond → Bool
is_safe parent own c = list_all (λ v. is_in own v || is_in parent v) (cond_vars c)

-- the first rule that is broken, where `empty` says that there are no triples, and `safe` that the conditions are safe
abbrev pub first_broken : Bool → Bool → List Name → List Name → List Name → List Name → Option Rule
first_broken empty safe own parent above seen =
    cond empty (Some NoTriples)
    (cond (has_new above own) (cond (stays parent above seen own) (cond safe None (Some UnsafeCondition)) (Some NotWellDesigned)) (Some NoNewVariable))

-- the first rule that is broken; the first test tells of most groups that none is
abbrev pub judged : Bool → Bool → List Name → List Name → List Name → List Name → Option Rule
judged empty safe own parent above seen = cond (safe && (has_new seen own && shares parent seen own)) None (first_broken empty safe own parent above seen)

-- what is refused for this rule: the path is empty yet
abbrev pub IsRefused : Option Rule → ShapeErr → Type 0
IsRefused rule (Broken s) = (rule ≡ Some s.rule) × (s.path.items ≡ [])
IsRefused rule Memory = Unit {0}

-- the two lists have the same names
pub record Alike (vs ws : List Name) : Type 0 where
  pub to : (v : Name) → In vs v → In ws v
  pub back : (v : Name) → In ws v → In vs v

-- the code's lists are those of the definitions: of the parent, of all ancestors, and of all earlier groups
pub record Stands (parent above seen p a b : List Name) : Type 0 where
  pub near : (v : Name) → In p v → In a v
  pub parent_is : Alike parent p
  pub above_is : Alike above a
  pub seen_is : Alike seen (a ++ b)

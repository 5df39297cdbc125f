-- Which conjuncts of a group's FILTERs are conditions of its node.
use Rattle.std.specs.Prelude.{◌≡◌, Bool, not, cond, List, ◌++◌, Option, is_some}
use Rattle.std.specs.List.{filter, filter_map}
use Rattle.bye_table.specs.Mappings.{Name}
use Rattle.bye_pattern.specs.declared.cond.Cond.{Cond}
use Rattle.bye_pattern.specs.Conditions.{Expr}
use Rattle.bye_pattern.specs.Gathered.{plain, root_test}

-- the condition that a conjunct is: of an OPTIONAL group each plain one, of the root each over its own variables
abbrev pub taken : Bool → List Name → Expr → Option Cond
taken root own e = cond root (root_test own e) (plain e)

-- the conjuncts are put at the end, as conditions or as they are
abbrev pub IsTaken : Bool → List Name → List Expr → List Cond → List Cond → List Expr → List Expr → Type 0
IsTaken root own es old new left_old left_new =
    (new ≡ old ++ filter_map (taken root own) es) × (left_new ≡ left_old ++ filter (λ e. not (is_some (taken root own e))) es)

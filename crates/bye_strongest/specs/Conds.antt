-- The plain conditions that hold in all rows, as a list: those of each form in the order of trial, without those that fail a row.
use Rattle.std.specs.Prelude.{Bool, false, cond, List, [], ◌∷◌, ◌++◌, map, Option, Some, None}
use Rattle.std.specs.List.{filter, flat_map, list_all}
use Rattle.bye_terms.specs.declared.term.Term.{Term}
use Rattle.bye_terms.specs.Terms.{is_blank}
use Rattle.bye_table.specs.Mappings.{Name, Pairs, row_mapping}
use Rattle.bye_pattern.specs.declared.cond.Cond.{Cond}
use Rattle.bye_pattern.specs.declared.cond.Cond.TheVariants as conds
use Rattle.bye_pattern.specs.declared.kind.Kind.TheVariants as kinds_of_terms
use Rattle.bye_pattern.specs.declared.level.Level.{Level}
use Rattle.bye_pattern.specs.declared.level.Level.TheVariants.{One, Two}
use Rattle.bye_pattern.specs.Conditions.{cond_expr, value}

-- whether there is a truth value, and it is true
abbrev pub is_true : Option Bool → Bool
is_true None = false
is_true (Some b) = b

-- whether the condition is true of the row: an error is not
abbrev pub holds : Cond → Pairs → Bool
holds c row = is_true (value (row_mapping row) (cond_expr c))

-- whether it is true of all the rows
abbrev pub holds_in_all : List Pairs → Cond → Bool
holds_in_all rows c = list_all (holds c) rows

-- sameTerm of each two of the variables
abbrev pub same_vars : List Name → List Cond
same_vars [] = []
same_vars (v ∷ vs) = map (conds.SameVar v) vs ++ same_vars vs

-- sameTerm of the variable and this term, where it is no blank node
abbrev pub constant : Name → Term → List Cond
constant v t = cond (is_blank t) [] (conds.SameConst v t ∷ [])

-- the same, where there is a term
abbrev pub constant_of : Name → Option Term → List Cond
constant_of v None = []
constant_of v (Some t) = constant v t

-- sameTerm of the variable and the row's term
abbrev pub same_const : Pairs → Name → List Cond
same_const row v = constant_of v (row_mapping row v)

-- the kind tests of a variable
abbrev pub kinds_of : Name → List Cond
kinds_of v = conds.KindOf kinds_of_terms.Iri v ∷ conds.KindOf kinds_of_terms.Blank v ∷ conds.KindOf kinds_of_terms.Literal v ∷ []

-- those of all the variables, which the second level has
abbrev pub kinds : Level → List Name → List Cond
kinds One vs = []
kinds Two vs = flat_map kinds_of vs

-- the conditions of each form
abbrev pub forms : Level → List Name → Pairs → List Cond
forms level vs row = map conds.Bound vs ++ same_vars vs ++ flat_map (same_const row) vs ++ kinds level vs

-- those that hold in all the rows
abbrev pub common : Level → List Name → List Pairs → Pairs → List Cond
common level vs rows row = filter (holds_in_all rows) (forms level vs row)

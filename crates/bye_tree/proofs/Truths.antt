-- The FILTERs of a written group, and the conditions that they are.
use Rattle.std.proofs.Common.{◌≡◌, refl, Bool, true, false, ℕ, ◌+◌, ◌<◌, ◌≤◌, ◌==◌, cond, ◌&&◌, ◌||◌, List, length, get_or, drop, map, [], ◌∷◌, ◌++◌, Option, Some, None, sym, ◌∙◌, ap, ⊎_elim, inl}
use Rattle.std.specs.List.{AllByRecursion, cons_option, filter_map, flat_map, list_all}
use Rattle.std.proofs.lemmas.List.Folds.{list_all-append}
use Rattle.std.proofs.lemmas.List.Elements.{filter_map-append}
use Rattle.std.proofs.lemmas.List.{drop_all}
use Rattle.bye_terms.proofs.Lists.{each_of}
use Rattle.bye_terms.proofs.Tests.{bool_cases}
use Rattle.bye_table.specs.Mappings.{Name, is_in}
use Rattle.bye_table.proofs.Merging.{is_in_in}
use Rattle.bye_pattern.specs.declared.cond.Cond.{Cond}
use Rattle.bye_pattern.specs.declared.slot.Slot.TheVariants.{Var, Const}
use Rattle.bye_pattern.specs.Patterns.{Pattern, all_vars}
use Rattle.bye_pattern.specs.Conditions.{And, Expr, IsBound, KindOf, Not, Or, Same, cond_vars}
use Rattle.bye_pattern.specs.Designed.{IsSafe}
use Rattle.bye_pattern.specs.Written.{Block, Filter, Group, Optional, also, done, filters, triples}
use Rattle.bye_pattern.specs.Gathered.{conjuncts, plain, plain_tests, root_test, root_tests, tests, within}
use Rattle.bye_tree.specs.declared.expr.Expr.{Expr as Item}
use Rattle.bye_tree.specs.Exprs.{expr_of, joined}
use Rattle.bye_tree.specs.Judging.{is_safe}
use Rattle.bye_tree.specs.Written.{test_safe, tests_safe}
use Rattle.bye_tree.proofs.Narrow.{from_item}

and_true : (a : Bool) → a ≡ (a && true)
and_true true = refl
and_true false = refl

and_and : (a b c : Bool) → ((a && b) && c) ≡ (a && (b && c))
and_and true b c = refl
and_and false b c = refl

two_tests : (a b : Bool) → ((a && true) && (b && true)) ≡ ((a && (b && true)) && true)
two_tests true true = refl
two_tests true false = refl
two_tests false b = refl

-- a conjunction of several
pub safe_joined : (parent own : List Name) (e : Expr) (es : List Expr) → test_safe parent own (joined And e es) ≡ (test_safe parent own e && list_all (test_safe parent own) es)
safe_joined parent own e [] = and_true (test_safe parent own e)
safe_joined parent own e (d ∷ es) = safe_joined parent own (And e d) es ∙ and_and (test_safe parent own e) (test_safe parent own d) (list_all (test_safe parent own) es)

pub or_safe : (parent own : List Name) (e d : Expr) (es : List Expr) → test_safe parent own (joined Or (Or e d) es) ≡ true
or_safe parent own e d [] = refl
or_safe parent own e d (x ∷ es) = or_safe parent own (Or e d) x es

-- the tests of a conjunction, one after another
pub first_unsafe : (parent own : List Name) (e d : Expr) (ds : List Expr) (r : Bool) → e ≡ joined And d ds → r ≡ test_safe parent own d → r ≡ false → false ≡ test_safe parent own e
first_unsafe parent own e d ds r is same not = sym (ap (test_safe parent own) is ∙ safe_joined parent own d ds ∙ ap (λ b. b && list_all (test_safe parent own) ds) (sym same ∙ not))

first_safe : (parent own : List Name) (e d : Expr) (ds : List Expr) (r : Bool) → e ≡ joined And d ds → r ≡ test_safe parent own d → r ≡ true → list_all (test_safe parent own) ds ≡ test_safe parent own e
first_safe parent own e d ds r is same sure = sym (ap (test_safe parent own) is ∙ safe_joined parent own d ds ∙ ap (λ b. b && list_all (test_safe parent own) ds) (sym same ∙ sure))

pub later_unsafe : (parent own : List Name) (e d : Expr) (es : List Item) (i : ℕ) (m : Item) (r s : Bool) → e ≡ joined And d (map expr_of es) → r ≡ test_safe parent own d → r ≡ true
    → i < length es → m ≡ get_or es i m → list_all (test_safe parent own) (map expr_of (drop i es)) ≡ list_all (test_safe parent own) (map expr_of es) → s ≡ test_safe parent own (expr_of m) → s ≡ false
    → false ≡ test_safe parent own e
later_unsafe parent own e d es i m r s is same sure l at rest one not =
    sym (sym (first_safe parent own e d (map expr_of es) r is same sure) ∙ sym rest ∙ ap (λ es. list_all (test_safe parent own) (map expr_of es)) (from_item es i m l at)
    ∙ ap (λ b. b && list_all (test_safe parent own) (map expr_of (drop (i + 1) es))) (sym one ∙ not))

pub all_safe : (parent own : List Name) (e d : Expr) (es : List Item) (i : ℕ) (r : Bool) → e ≡ joined And d (map expr_of es) → r ≡ test_safe parent own d → r ≡ true
    → length es ≤ i → list_all (test_safe parent own) (map expr_of (drop i es)) ≡ list_all (test_safe parent own) (map expr_of es) → true ≡ test_safe parent own e
all_safe parent own e d es i r is same sure l rest = sym (ap (λ es. list_all (test_safe parent own) (map expr_of es)) (drop_all i es l)) ∙ rest ∙ first_safe parent own e d (map expr_of es) r is same sure

pub not_none : {X : Type 0} (es : List X) (r : Bool) → r ≡ (length es == 0) → r ≡ false → es ≡ [] → ⊥
not_none es r is e h = let k : false ≡ true = sym e ∙ is ∙ ap (λ es. length es == 0) h in cc

-- a disjunction of several is no plain condition
pub or_several : (parent own : List Name) (e d : Expr) (es : List Item) → e ≡ joined Or d (map expr_of es) → (es ≡ [] → ⊥) → true ≡ test_safe parent own e
or_several parent own e d [] is not = absurd (not refl)
or_several parent own e d (x ∷ es) is not = sym (ap (test_safe parent own) is ∙ or_safe parent own d (expr_of x) (map expr_of es))

-- the conditions that expressions are
abbrev conds_of : List Expr → List Cond
conds_of es = filter_map plain es

parts_safe : (parent own : List Name) (ds es : List Expr) → list_all (is_safe parent own) (conds_of (ds ++ es)) ≡ (list_all (is_safe parent own) (conds_of ds) && list_all (is_safe parent own) (conds_of es))
parts_safe parent own ds es = ap (list_all (is_safe parent own)) (filter_map-append plain ds es) ∙ list_all-append (is_safe parent own) (conds_of ds) (conds_of es)

test_is : (parent own : List Name) (e : Expr) → test_safe parent own e ≡ list_all (is_safe parent own) (conds_of (conjuncts e))
test_is parent own (And d e) = (λ i. test_is parent own d i && test_is parent own e i) ∙ sym (parts_safe parent own (conjuncts d) (conjuncts e))
test_is parent own (IsBound v) = and_true _ ∙ and_true _
test_is parent own (Same (Var v) (Var w)) = two_tests (is_in own v || is_in parent v) (is_in own w || is_in parent w)
test_is parent own (Same (Var v) (Const t)) = refl
test_is parent own (Same (Const t) (Var v)) = and_true _
test_is parent own (Same (Const s) (Const t)) = refl
test_is parent own (KindOf kind (Var v)) = and_true _
test_is parent own (KindOf kind (Const t)) = refl
test_is parent own (Not e) = refl
test_is parent own (Or d e) = refl

pub tests_are : (parent own : List Name) (g : Group) → tests_safe parent own g ≡ list_all (is_safe parent own) (plain_tests g)
tests_are parent own done = refl
tests_are parent own (also (Block ps) g) = tests_are parent own g
tests_are parent own (also (Optional h) g) = tests_are parent own g
tests_are parent own (also (Filter e) g) = (λ i. test_is parent own e i && tests_are parent own g i) ∙ sym (parts_safe parent own (conjuncts e) (tests g))

-- the conditions of the root are over its own variables
one_kept : (P : Cond → Type 0) (o : Option Cond) (cs : List Cond) → ((c : Cond) → o ≡ Some c → P c) → AllByRecursion P cs → AllByRecursion P (cons_option o cs)
one_kept P None cs h all = all
one_kept P (Some c) cs h all = (h c refl, all)

some_same : (b c : Cond) → ◌≡◌ {A = Option Cond} (Some b) (Some c) → b ≡ c
some_same b c e = cc

none_some : (c : Cond) → ◌≡◌ {A = Option Cond} None (Some c) → ⊥
none_some c e = cc

within_own : (own : List Name) (o : Option Cond) (c : Cond) → within own o ≡ Some c → list_all (is_in own) (cond_vars c) ≡ true
within_own own None c e = cc
within_own own (Some d) c e =
    ⊎_elim
    (λ t. let same : d ≡ c = some_same d c (sym (ap (λ b. cond b (Some d) None) t) ∙ e) in sym (ap (λ c. list_all (is_in own) (cond_vars c)) same) ∙ t)
    (λ f. absurd (none_some c (sym (ap (λ b. cond b (Some d) None) f) ∙ e)))
    (bool_cases (list_all (is_in own) (cond_vars d)))

pub root_safe : (p : List Name) (ps : List Pattern) (es : List Expr) → AllByRecursion (IsSafe p ps) (filter_map (root_test (all_vars ps)) es)
root_safe p ps [] = tt
root_safe p ps (e ∷ es) = one_kept (IsSafe p ps) (root_test (all_vars ps) e) (filter_map (root_test (all_vars ps)) es)
    (λ c h v k. inl (is_in_in (all_vars ps) v (each_of (is_in (all_vars ps)) (cond_vars c) (within_own (all_vars ps) (plain e) c h) v k)))
    (root_safe p ps es)

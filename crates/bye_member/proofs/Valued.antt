-- The values of expressions whose parts stand in lists.
use Rattle.std.proofs.Common.{◌≡◌, refl, Bool, ℕ, ◌≤◌, List, [], ◌∷◌, Option, fold, map, length, drop, sym, ◌∙◌, ap}
use Rattle.std.proofs.lemmas.List.{drop_all}
use Rattle.bye_table.specs.Mappings.{Mapping}
use Rattle.bye_pattern.specs.Conditions as plain
use Rattle.bye_tree.specs.declared.expr.Expr.{Expr}
use Rattle.bye_tree.specs.Exprs.{expr_of, joined}

abbrev pub item_value : Mapping → Expr → Option Bool
item_value m e = plain.value m (expr_of e)

-- a conjunction and a disjunction of several
and_joined : (m : Mapping) (e : plain.Expr) (items : List Expr) → plain.value m (joined plain.And e (map expr_of items)) ≡ fold plain.and_value (plain.value m e) (map (item_value m) items)
and_joined m e [] = refl
and_joined m e (d ∷ items) = and_joined m (plain.And e (expr_of d)) items

or_joined : (m : Mapping) (e : plain.Expr) (items : List Expr) → plain.value m (joined plain.Or e (map expr_of items)) ≡ fold plain.or_value (plain.value m e) (map (item_value m) items)
or_joined m e [] = refl
or_joined m e (d ∷ items) = or_joined m (plain.Or e (expr_of d)) items

-- the values of all items, joined one after another
fold_end : (op : Option Bool → Option Bool → Option Bool) (f : Expr → Option Bool) (items : List Expr) (i : ℕ) (all whole : Option Bool) → length items ≤ i
    → fold op all (map f (drop i items)) ≡ whole → all ≡ whole
fold_end op f items i all whole end so = sym (ap (λ es. fold op all (map f es)) (drop_all i items end)) ∙ so

pub and_whole : (m : Mapping) (e d shown : plain.Expr) (items : List Expr) (i : ℕ) (first all : Option Bool) → e ≡ joined plain.And d (map expr_of items) → shown ≡ d → first ≡ plain.value m shown → length items ≤ i
    → fold plain.and_value all (map (item_value m) (drop i items)) ≡ fold plain.and_value first (map (item_value m) items) → all ≡ plain.value m e
and_whole m e d shown items i first all is same start end so =
    fold_end plain.and_value (item_value m) items i all _ end so ∙ ap (λ v. fold plain.and_value v (map (item_value m) items)) (start ∙ ap (plain.value m) same) ∙ sym (ap (plain.value m) is ∙ and_joined m d items)

pub or_whole : (m : Mapping) (e d shown : plain.Expr) (items : List Expr) (i : ℕ) (first any : Option Bool) → e ≡ joined plain.Or d (map expr_of items) → shown ≡ d → first ≡ plain.value m shown → length items ≤ i
    → fold plain.or_value any (map (item_value m) (drop i items)) ≡ fold plain.or_value first (map (item_value m) items) → any ≡ plain.value m e
or_whole m e d shown items i first any is same start end so =
    fold_end plain.or_value (item_value m) items i any _ end so ∙ ap (λ v. fold plain.or_value v (map (item_value m) items)) (start ∙ ap (plain.value m) same) ∙ sym (ap (plain.value m) is ∙ or_joined m d items)

-- expressions that are true one after another
abbrev pub AllTrue : Mapping → List Expr → Type 0
AllTrue m items = plain.AllHoldExpr (map expr_of items) m

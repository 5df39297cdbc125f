-- What is selected of a written query, and the select that it is read as.
use Rattle.std.proofs.Common.{◌≡◌, refl, Bool, true, false, not, List, [], ◌∷◌, cond, Option, Some, None, is_some, inl, inr, ⊎_elim, sym, ◌∙◌, ap, subst}
use Rattle.std.specs.List.{filter, filter_map, flat_map, list_all}
use Rattle.bye_terms.specs.Members.{EachOnce, In}
use Rattle.bye_terms.proofs.Lists.{any_in, none_of}
use Rattle.bye_terms.proofs.Tests.{bool_cases, not_both, not_false, not_true}
use Rattle.bye_table.specs.Mappings.{Name, is_in}
use Rattle.bye_table.proofs.Merging.{in_is, is_in_in}
use Rattle.bye_pattern.specs.declared.cond.Cond.{Cond}
use Rattle.bye_pattern.specs.Patterns.{Pattern, all_vars}
use Rattle.bye_pattern.specs.Conditions.{Expr, cond_vars}
use Rattle.bye_pattern.specs.Trees.{Select, Tree, node, tree_vars}
use Rattle.bye_pattern.specs.Designed.{IsWellDesigned}
use Rattle.bye_pattern.specs.Selects.{IsSelect}
use Rattle.bye_pattern.specs.Nodes.{forest_of}
use Rattle.bye_pattern.specs.Written.{Group, Written, filters, triples}
use Rattle.bye_pattern.specs.Gathered.{IsDesignedEarly, conjuncts, firsts, gather, gathered_tree, optional_tree, optionals, outer_tests, plain, plain_tests, root_test, root_tests, within}
use Rattle.bye_tree.specs.declared.shape.ShapeErr.{ShapeErr}
use Rattle.bye_tree.specs.declared.shape.ShapeErr.TheVariants.{Broken, Memory}
use Rattle.bye_tree.specs.Gathering.{AreNamed, IsCause, IsRoot, IsSelected, LacksVariable, written}
use Rattle.bye_tree.specs.Judging.{has_new}
use Rattle.bye_tree.specs.Names.{with_names}
use Rattle.bye_tree.specs.Parted.{IsParts}
use Rattle.bye_tree.specs.Taken.{IsTaken, taken}
use Rattle.bye_tree.specs.Written.{BreaksAsWritten, IsEarly}
use Rattle.bye_tree.specs.Checking
use Rattle.bye_tree.specs.Refusals.{gather_err_of}
use Rattle.bye_tree.proofs.Joining.{alike_names}
use Rattle.bye_tree.proofs.Judged.{is_out, out_of}
use Rattle.bye_tree.proofs.Reading.{firsts_in, in_firsts, whole_designed, written_select}

-- of all variables
pub all_chosen : (distinct : Bool) (g : Group) (vs : List Name) → IsEarly g → vs ≡ firsts (tree_vars (optional_tree g)) → IsSelected (written distinct None g) vs
all_chosen distinct g vs early is = record {
  early = early (written distinct None g) refl;
  vars_are = is;
  all = λ e v h. in_firsts (tree_vars (gathered_tree g)) v h;
}

-- of named ones
pub distinct_chosen : (g : Group) (vs : List Name) → IsEarly g → IsSelected (written true (Some vs) g) vs
distinct_chosen g vs early = record { early = early (written true (Some vs) g) refl; vars_are = refl; all = λ e. let k : true ≡ false = e in cc }

not_lacking : (vs all : List Name) (v : Name) → has_new (with_names [] vs) all ≡ false → In all v → In vs v
not_lacking vs all v e h = (alike_names vs).to v (is_in_in (with_names [] vs) v (not_false (is_in (with_names [] vs) v) (none_of (λ v. not (is_in (with_names [] vs) v)) all e v h)))

pub named_chosen : (g : Group) (vs all : List Name) (lacks : Bool) → IsEarly g → all ≡ firsts (tree_vars (optional_tree g)) → lacks ≡ has_new (with_names [] vs) all → lacks ≡ false → IsSelected (written false (Some vs) g) vs
named_chosen g vs all lacks early is same none = record {
  early = early (written false (Some vs) g) refl;
  vars_are = refl;
  all = λ e v h. not_lacking vs all v (sym same ∙ none) (subst (λ (all : List Name). In all v) (sym is) (in_firsts (tree_vars (gathered_tree g)) v h));
}

pub projected : (g : Group) (vs all : List Name) (lacks : Bool) → IsEarly g → all ≡ firsts (tree_vars (optional_tree g)) → lacks ≡ has_new (with_names [] vs) all → lacks ≡ true
    → IsDesignedEarly (written false (Some vs) g) × (false ≡ false) × LacksVariable (written false (Some vs) g)
projected g vs all lacks early is same some =
    let w = any_in (λ v. not (is_in (with_names [] vs) v)) all (sym same ∙ some) in (
      early (written false (Some vs) g) refl,
      refl,
      (
        w.0,
        firsts_in (tree_vars (gathered_tree g)) w.0 (subst (λ (all : List Name). In all w.0) is w.1),
        λ h. not_both (is_in (with_names [] vs) w.0) (in_is (with_names [] vs) w.0 ((alike_names vs).back w.0 h)) (not_true (is_in (with_names [] vs) w.0) w.2),
      ),
    )

-- the same, where the code tells which variables are named
abbrev pub Items : Type 0
Items = List Name

pub all_at : (distinct : Bool) (o : Option Items) (g : Group) (vs : List Name) → o ≡ None → IsEarly g → vs ≡ firsts (tree_vars (optional_tree g)) → IsSelected (written distinct o g) vs
all_at distinct o g vs none early is = subst (λ (o : Option Items). IsSelected (written distinct o g) vs) (sym none) (all_chosen distinct g vs early is)

pub distinct_at : (d : Bool) (o : Option Items) (g : Group) (vs : List Name) → d ≡ true → o ≡ Some vs → IsEarly g → IsSelected (written d o g) vs
distinct_at d o g vs sure some early =
    subst (λ (d : Bool). IsSelected (written d o g) vs) (sym sure) (subst (λ (o : Option Items). IsSelected (written true o g) vs) (sym some) (distinct_chosen g vs early))

pub named_at : (d : Bool) (o : Option Items) (g : Group) (vs shown all : List Name) (lacks : Bool) → d ≡ false → o ≡ Some vs → IsEarly g → all ≡ firsts (tree_vars (optional_tree g)) → shown ≡ vs
    → lacks ≡ has_new (with_names [] shown) all → lacks ≡ false → IsSelected (written d o g) vs
named_at d o g vs shown all lacks plainly some early is show same none =
    subst (λ (d : Bool). IsSelected (written d o g) vs) (sym plainly) (subst (λ (o : Option Items). IsSelected (written false o g) vs) (sym some)
    (named_chosen g vs all lacks early is (same ∙ ap (λ shown. has_new (with_names [] shown) all) show) none))

pub projected_at : (d : Bool) (o : Option Items) (g : Group) (vs shown all : List Name) (lacks : Bool) → d ≡ false → o ≡ Some vs → IsEarly g → all ≡ firsts (tree_vars (optional_tree g)) → shown ≡ vs
    → lacks ≡ has_new (with_names [] shown) all → lacks ≡ true → IsDesignedEarly (written d o g) × (d ≡ false) × LacksVariable (written d o g)
projected_at d o g vs shown all lacks plainly some early is show same yes1 =
    subst (λ (d : Bool). IsDesignedEarly (written d o g) × (d ≡ false) × LacksVariable (written d o g)) (sym plainly)
    (subst (λ (o : Option Items). IsDesignedEarly (written false o g) × (false ≡ false) × LacksVariable (written false o g)) (sym some)
    (projected g vs all lacks early is (same ∙ ap (λ shown. has_new (with_names [] shown) all) show) yes1))

pub broken_at : (e : ShapeErr) (w : Written) (g : Group) → w.group ≡ g → Checking.Names (BreaksAsWritten g) e → IsCause w (gather_err_of e)
broken_at (Broken e) w g is h = h w is
broken_at Memory w g is h = tt

-- a set of names tells of each name what the names themselves tell
names_same : (vs : List Name) (v : Name) → is_in (with_names [] vs) v ≡ is_in vs v
names_same vs v =
    ⊎_elim
    (λ e. in_is (with_names [] vs) v ((alike_names vs).back v (is_in_in vs v e)) ∙ sym e)
    (λ e. is_out (with_names [] vs) v (λ h. out_of vs v e ((alike_names vs).to v h)) ∙ sym e)
    (bool_cases (is_in vs v))

own_same : (own vs : List Name) → own ≡ with_names [] vs → is_in own ≡ is_in vs
own_same own vs e = λ i v. (ap (λ own. is_in own v) e ∙ names_same vs v) i

within_same : (own vs : List Name) (o : Option Cond) → is_in own ≡ is_in vs → within own o ≡ within vs o
within_same own vs None e = refl
within_same own vs (Some c) e = ap (λ (f : Name → Bool). cond (list_all f (cond_vars c)) (Some c) None) e

-- the nodes
pub optional_is : (g : Group) (ps : List Pattern) (es : List Expr) (ts : List Tree) (own : List Name) (cs : List Cond) (outer : List Expr) (t : Tree) → IsParts g ps es ts
    → IsTaken false own (flat_map conjuncts es) [] cs [] outer → t ≡ node ps cs (forest_of ts) → t ≡ optional_tree g
optional_is g ps es ts own cs outer t p k is =
    let conds_are : cs ≡ plain_tests g = k.0 ∙ ap (λ es. filter_map plain (flat_map conjuncts es)) p.tests_are in
    is ∙ (λ i. node (p.triples_are i) (conds_are i) (p.children_are i))

pub root_is : (g : Group) (ps : List Pattern) (es : List Expr) (ts : List Tree) (own : List Name) (cs : List Cond) (outer : List Expr) (t : Tree) → IsParts g ps es ts → own ≡ with_names [] (all_vars ps)
    → IsTaken true own (flat_map conjuncts es) [] cs [] outer → t ≡ node ps cs (forest_of ts) → IsRoot g t outer
root_is g ps es ts own cs outer t p o k is =
    let vs : List Name = all_vars (triples g) in
    let same : (e : Expr) → taken true own e ≡ root_test vs e = λ e. within_same own vs (plain e) (own_same own vs (o ∙ ap (λ ps. with_names [] (all_vars ps)) p.triples_are)) in
    let conds_are : cs ≡ root_tests g = k.0 ∙ (λ i. filter_map (λ e. same e i) (flat_map conjuncts (p.tests_are i))) in
    record {
      tree_is = is ∙ (λ i. node (p.triples_are i) (conds_are i) (p.children_are i));
      outer_is = k.1 ∙ (λ i. filter (λ e. not (is_some (same e i))) (flat_map conjuncts (p.tests_are i)));
    }

-- the select
select_is : (w : Written) (vs : List Name) (t : Tree) (outer : List Expr) → IsSelected w vs → IsRoot w.group t outer
    → ◌≡◌ {A = Select} (record { distinct = w.distinct; vars = vs; tree = t; outer = outer }) (gather w)
select_is w vs t outer s r = λ i. record { distinct = w.distinct; vars = s.vars_are i; tree = r.tree_is i; outer = r.outer_is i }

named_from : (o : Option (List Name)) → AreNamed o → (vs : List Name) → o ≡ Some vs → (vs ≡ [] → ⊥) × EachOnce vs
named_from None n vs e = cc
named_from (Some ws) n vs e = let same : ws ≡ vs = cc in subst (λ (vs : List Name). (vs ≡ [] → ⊥) × EachOnce vs) same n

pub tree_designed : (w : Written) (vs : List Name) (t : Tree) (outer : List Expr) → IsSelected w vs → IsRoot w.group t outer → IsWellDesigned t
tree_designed w vs t outer s r = subst IsWellDesigned (sym r.tree_is) (whole_designed w s.early)

pub gathered : (w : Written) (vs : List Name) (t : Tree) (outer : List Expr) → IsSelected w vs → IsRoot w.group t outer → ◌≡◌ {A = Select} (record { distinct = w.distinct; vars = vs; tree = t; outer = outer }) (gather w)
gathered w vs t outer s r = select_is w vs t outer s r

pub is_select : (w : Written) (vs : List Name) (t : Tree) (outer : List Expr) → AreNamed w.vars → IsSelected w vs → IsRoot w.group t outer → IsSelect (record { distinct = w.distinct; vars = vs; tree = t; outer = outer })
is_select w vs t outer n s r = subst IsSelect (sym (select_is w vs t outer s r)) (written_select w s.early (named_from w.vars n) s.all)

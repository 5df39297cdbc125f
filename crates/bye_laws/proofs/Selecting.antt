-- Queries of the classes, and what written queries are read as, are SELECTs of the program.
use Rattle.std.proofs.Common.{◌≡◌, refl, Bool, true, false, List, [], Option, Some, None, sym, ◌∙◌, subst}
use Rattle.std.specs.List.{AllByRecursion}
use Rattle.bye_terms.specs.Members.{EachOnce, In}
use Rattle.bye_table.specs.Mappings.{Mapping, Name}
use Rattle.bye_pattern.specs.declared.level.Level.{Level}
use Rattle.bye_pattern.specs.declared.rule.Rule.TheVariants.{NoNewVariable}
use Rattle.bye_pattern.specs.Classes.{InAnd}
use Rattle.bye_pattern.specs.Gathered.{IsDesignedEarly, IsOuter, gather, selected}
use Rattle.bye_pattern.specs.Optional.{InOptional}
use Rattle.bye_pattern.specs.Selects.{IsSelect}
use Rattle.bye_pattern.specs.Trees.{Select, own_vars, tree_vars}
use Rattle.bye_pattern.specs.Written.{Written}
use Rattle.bye_laws.proofs.ByNodes.{self_node}
use Rattle.bye_laws.proofs.Conjunctions.{group_of}
use Rattle.bye_laws.proofs.EarlyRules.{whole_designed}
use Rattle.bye_laws.proofs.Gathering.{gathered_selects}
use Rattle.bye_laws.proofs.Reached.{own_in}
use Rattle.bye_laws.proofs.Withins.{within_self}

-- a list with an element is not empty
not_empty : (vs : List Name) (v : Name) → In vs v → vs ≡ [] → ⊥
not_empty vs v h e = subst (λ (vs : List Name). In vs v) e h

-- distinct queries need not select all
never_whole : {A : Type 0} (b : Bool) → b ≡ true → b ≡ false → A
never_whole b e f = let k : true ≡ false = sym e ∙ f in cc

-- a query of one conjunction
pub conjunction_select : (level : Level) (q : Select) → InAnd level q → IsSelect q
conjunction_select level q class =
    let group = group_of level q class in
    record {
      some = not_empty q.vars group.some.0 ((group.selects group.some.0).1 group.some.1);
      once = class.once;
      designed = class.designed;
      whole = λ e. never_whole q.distinct class.distinct e;
      outer = subst (AllByRecursion (IsOuter (own_vars q.tree))) (sym class.outer) tt;
    }

-- one with OPTIONAL groups
pub optional_select : (level : Level) (rows : List Mapping) (q : Select) → InOptional level rows q → IsSelect q
optional_select level rows q class =
    let root = class.classes [] q.tree (self_node [] q.tree) in
    let new = (root.1.1 root.0).1 (within_self rows root.0, within_self rows root.0) in
    record {
      some = not_empty q.vars root.0 ((class.selects root.0).1 (own_in q.tree root.0 new.0));
      once = class.once;
      designed = class.designed;
      whole = λ e. never_whole q.distinct class.distinct e;
      outer = subst (AllByRecursion (IsOuter (own_vars q.tree))) (sym class.outer) tt;
    }

-- what is selected of a written query
written_vars : (w : Written) (o : Option (List Name)) → w.vars ≡ o → IsDesignedEarly w → ((vs : List Name) → w.vars ≡ Some vs → (vs ≡ [] → ⊥) × EachOnce vs)
    → ((gather w).vars ≡ [] → ⊥) × EachOnce (gather w).vars
written_vars w None is early named =
    let new = early.root NoNewVariable in
    (not_empty (gather w).vars new.0 ((gathered_selects.all w new.0 is).1 (own_in (gather w).tree new.0 new.1.0)), gathered_selects.once w is)
written_vars w (Some vs) is early named =
    subst (λ (vs : List Name). (vs ≡ [] → ⊥) × EachOnce vs) (sym (selects w.vars is)) (named vs is)
  where
    selects : (o : Option (List Name)) → o ≡ Some vs → selected o (gather w).tree ≡ vs
    selects o e = subst (λ o. selected o (gather w).tree ≡ vs) (sym e) refl

-- a written query that keeps the rules
pub written_select : (w : Written) → IsDesignedEarly w → ((vs : List Name) → w.vars ≡ Some vs → (vs ≡ [] → ⊥) × EachOnce vs)
    → (w.distinct ≡ false → (v : Name) → In (tree_vars (gather w).tree) v → In (gather w).vars v) → IsSelect (gather w)
written_select w early named whole =
    let vars = written_vars w w.vars refl early named in
    record {
      some = vars.0;
      once = vars.1;
      designed = whole_designed w early;
      whole = whole;
      outer = gathered_selects.outer w;
    }

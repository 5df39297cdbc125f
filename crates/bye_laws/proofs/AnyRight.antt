-- One pass over any query that is right: what it leaves is right, minimal, and in order.
use Rattle.std.proofs.Common.{◌≡◌, true, List, [], ◌∷◌, inl, inr, sym, subst}
use Rattle.std.specs.Ordering.{is_lt}
use Rattle.bye_terms.specs.Terms.{Statement}
use Rattle.bye_table.specs.Mappings.{Mapping, Name}
use Rattle.bye_pattern.specs.declared.class.Class.{Class}
use Rattle.bye_pattern.specs.declared.class.Class.TheVariants.{And, Optional}
use Rattle.bye_pattern.specs.declared.cond.Cond.{Cond}
use Rattle.bye_pattern.specs.declared.level.Level.{Level}
use Rattle.bye_pattern.specs.Conjuncts.{Drops}
use Rattle.bye_pattern.specs.Keeping.{IsOfClass, IsRight, IsThinned, IsThinnedForest, IsThinnedTree}
use Rattle.bye_pattern.specs.Patterns.{Pattern}
use Rattle.bye_pattern.specs.Starting.{AreInTrialOrder, IsTriedBefore}
use Rattle.bye_pattern.specs.Trees.{Forest, Select, Tree, leaf, more, node, plain_select}
use Rattle.bye_pattern.specs.TrialOrder.{IsInStrictOrder, trial_cmp}
use Rattle.bye_table.specs.DomainTrees.{Domain, label}
use Rattle.bye_laws.specs.Completeness.{Allows}
use Rattle.bye_laws.specs.LocalPass.{IsSettled, IsThinnedHere}
use Rattle.bye_laws.specs.Passing.{AreInOrder, IsInOrder, IsLeft}
use Rattle.bye_laws.specs.QueryDomains.{AreDomains, IsNamedBy, Selects}
use Rattle.bye_laws.proofs.Conjunctions.{all_within, conjunctions_lift}
use Rattle.bye_laws.proofs.LocalPass.{local_thinned, root_settled}
use Rattle.bye_laws.proofs.OptionalKept.{from_labels, optional_kept, to_labels}
use Rattle.bye_laws.proofs.PassMaps.{within_thinned, within_tree}
use Rattle.bye_laws.proofs.Passes.{thin_tree, tree_within}
use Rattle.bye_laws.proofs.QueryDomains.{over_domains, some_name}

-- a query of a class is its variables over its tree
pub plain_of_class : (class : Class) (level : Level) (rows : List Mapping) (q : Select) → IsOfClass class level rows q → q ≡ plain_select q.vars q.tree
plain_of_class And level rows q is = λ i. record { distinct = is.distinct i; vars = q.vars; tree = q.tree; outer = is.outer i }
plain_of_class Optional level rows q is = λ i. record { distinct = is.distinct i; vars = q.vars; tree = q.tree; outer = is.outer i }

-- what is left of a list stands in its order
pub strict_left : (R : List Pattern → Type 0) (ps qs : List Pattern) → IsThinned R ps qs → IsInStrictOrder ps → IsInStrictOrder qs
strict_left R [] qs e order = subst IsInStrictOrder (sym e) tt
strict_left R (p ∷ ps) qs (inl (now, pass)) order = strict_left R ps qs pass order.1
strict_left R (p ∷ ps) qs (inr (never, (rs, pass, e))) order =
    subst IsInStrictOrder (sym e)
    (all_within (λ q. is_lt (trial_cmp p q) ≡ true) rs ps (within_thinned (λ zs. R (p ∷ zs)) ps rs pass) order.0, strict_left (λ zs. R (p ∷ zs)) ps rs pass order.1)

pub trial_left : (header : List Name) (R : List Cond → Type 0) (cs ds : List Cond) → IsThinned R cs ds → AreInTrialOrder header cs → AreInTrialOrder header ds
trial_left header R [] ds e order = subst (AreInTrialOrder header) (sym e) tt
trial_left header R (c ∷ cs) ds (inl (now, pass)) order = trial_left header R cs ds pass order.1
trial_left header R (c ∷ cs) ds (inr (never, (es, pass, e))) order =
    subst (AreInTrialOrder header) (sym e)
    (all_within (IsTriedBefore header c) es cs (within_thinned (λ zs. R (c ∷ zs)) cs es pass) order.0, trial_left header (λ zs. R (c ∷ zs)) cs es pass order.1)

-- and what is left of a tree
mutual
  order_left : (header : List Name) (R : Tree → Type 0) (t r : Tree) → IsThinnedTree R t r → IsInOrder header t → IsInOrder header r
  order_left header R (node ps cs f) r (e, ds, qs, below, conds, triples, same) order =
      subst (IsInOrder header) (sym same)
      (strict_left (λ qs. R (node qs ds e)) ps qs triples order.0, trial_left header (λ ds. R (node ps ds e)) cs ds conds order.1, order_left_in header (λ e. R (node ps cs e)) f e below order.2)

  order_left_in : (header : List Name) (R : Forest → Type 0) (f r : Forest) → IsThinnedForest R f r → AreInOrder header f → AreInOrder header r
  order_left_in header R leaf r e order = subst (AreInOrder header) (sym e) tt
  order_left_in header R (more t f) r (u, e, one, others, same) order =
      subst (AreInOrder header) (sym same) (order_left header (λ u. R (more u f)) t u one order.0, order_left_in header (λ e. R (more u e)) f e others order.1)

-- right and minimal, over the trees of one selection
abbrev Result : Class → Level → List Statement → List Mapping → List Mapping → List Name → Tree → Type 0
Result class level g rows unwanted vs t = IsRight class level g rows unwanted (plain_select vs t) × ((u : Tree) → Drops t u → IsRight class level g rows unwanted (plain_select vs u) → ⊥)

result : (class : Class) (level : Level) (g : List Statement) (rows unwanted : List Mapping) (q : Select) (t : Tree) → Allows class unwanted → IsRight class level g rows unwanted q
    → IsThinnedTree (λ u. IsRight class level g rows unwanted (plain_select q.vars u)) q.tree t → Result class level g rows unwanted q.vars t
result And level g rows unwanted q t allowed right pass =
    let done = thin_tree (λ u. IsRight And level g rows unwanted (plain_select q.vars u)) q.tree t (conjunctions_lift level g rows unwanted q.vars)
    (subst (IsRight And level g rows unwanted) (plain_of_class And level rows q right.in_class) right) pass in
    (done.right, done.minimal)
result Optional level g rows unwanted q t allowed right pass =
    subst (λ bad. IsRight Optional level g rows bad q → IsThinnedTree (λ u. IsRight Optional level g rows bad (plain_select q.vars u)) q.tree t → Result Optional level g rows bad q.vars t) (sym allowed)
    (λ right pass.
    let named = some_name level rows q right.in_class [] q.tree (λ p u k. k) in
    let over = over_domains level rows q named.0 right.in_class named.1 in
    optional_kept level g rows q.vars named.0 q.tree t over.2 over.0 over.1 (subst (IsRight Optional level g rows []) (plain_of_class Optional level rows q right.in_class) right) pass)
    right pass

-- so a pass over any query that is right leaves one that is right and minimal
pub passes_keep_right : (class : Class) (level : Level) (g : List Statement) (rows unwanted : List Mapping) (q : Select) (t : Tree) → Allows class unwanted → IsRight class level g rows unwanted q
    → IsThinnedTree (λ u. IsRight class level g rows unwanted (plain_select q.vars u)) q.tree t → IsLeft class level g rows unwanted q t
passes_keep_right class level g rows unwanted q t allowed right pass =
    let done = result class level g rows unwanted q t allowed right pass in
    record {
      right = done.0;
      minimal = λ r (u, drops, e) good. done.1 u drops (subst (IsRight class level g rows unwanted) e good);
      within = within_tree (λ u. IsRight class level g rows unwanted (plain_select q.vars u)) q.tree t pass;
      order = λ header order. order_left header (λ u. IsRight class level g rows unwanted (plain_select q.vars u)) q.tree t pass order;
    }

-- and the pass that asks at each node alone comes to the same
pub passes_are_local : (level : Level) (g : List Statement) (rows : List Mapping) (q : Select) (d : Domain) (t : Tree) → IsRight Optional level g rows [] q → IsNamedBy [] d q.tree
    → IsThinnedHere level g rows [] (label d) d q.tree t → IsThinnedTree (λ u. IsRight Optional level g rows [] (plain_select q.vars u)) q.tree t
passes_are_local level g rows q d t right named pass =
    let over = over_domains level rows q d right.in_class named in
    local_thinned level g rows q.vars d q.tree t over.2 over.0 over.1 (subst (IsRight Optional level g rows []) (plain_of_class Optional level rows q right.in_class) right) pass

-- a query that is right is settled at its root
pub root_of_right : (level : Level) (g : List Statement) (rows : List Mapping) (q : Select) (d : Domain) → IsRight Optional level g rows [] q → IsNamedBy [] d q.tree
    → IsSettled level g rows [] (label d) d q.tree
root_of_right level g rows q d right named =
    let over = over_domains level rows q d right.in_class named in
    root_settled level g rows d q.tree (to_labels level g rows q.vars d q.tree q.tree over.0 over.1 (tree_within q.tree)
    (subst (IsRight Optional level g rows []) (plain_of_class Optional level rows q right.in_class) right))

-- and what is settled there is right
pub settled_right : (level : Level) (g : List Statement) (rows : List Mapping) (vs : List Name) (d : Domain) (t : Tree) → AreDomains rows d → Selects rows vs
    → IsSettled level g rows [] (label d) d t → IsRight Optional level g rows [] (plain_select vs t)
settled_right level g rows vs d t tree selects s = from_labels level g rows vs d t selects tree (record { over = s.over; by = s.by })

-- The pass that asks at each node alone keeps what the pass over the whole tree keeps.
use Rattle.bye_pattern.specs.declared.level.Level.{Level}
use Rattle.std.proofs.Common.{refl, List, [], ◌∷◌, inl, inr, sym, subst, ◌↔◌}
use Rattle.bye_terms.specs.Terms.{Statement}
use Rattle.bye_terms.proofs.Members.{all_from, all_in}
use Rattle.bye_pattern.specs.declared.class.Class.TheVariants.{Optional}
use Rattle.bye_pattern.specs.declared.cond.Cond.{Cond}
use Rattle.bye_table.specs.Domains.{AreSelected, Wanted}
use Rattle.bye_pattern.specs.Keeping.{IsKept, IsRight, IsThinned, IsThinnedForest, IsThinnedTree}
use Rattle.bye_table.specs.Mappings.{Binds, Mapping, Name}
use Rattle.bye_pattern.specs.Patterns.{Pattern, all_vars}
use Rattle.bye_table.specs.DomainTrees.{Domain, IsDomainTree, Subdomains, also, domain, label, none}
use Rattle.bye_pattern.specs.Starting.{IsStartTree}
use Rattle.bye_pattern.specs.Trees.{Forest, Tree, leaf, more, node, plain_select}
use Rattle.bye_laws.specs.Completeness.{AreExamples}
use Rattle.bye_laws.specs.LocalPass.{AreSettled, AreThinnedHere, ByDomain, ByDomains, IsOver, IsSettled, IsThinnedHere}
use Rattle.bye_laws.specs.Reaching.{NoValues}
use Rattle.bye_laws.proofs.ClassStarts.{class_is_over}
use Rattle.bye_laws.specs.QueryDomains.{AreDomains}
use Rattle.bye_laws.proofs.Labelled.{common_of, domains_of}
use Rattle.bye_laws.specs.QueryDomains.{Selects}
use Rattle.bye_laws.proofs.OptionalKept.{ByLabels, from_labels, to_labels}
use Rattle.bye_laws.proofs.OptionalStarts.{selects_of}
use Rattle.bye_laws.proofs.PassMaps.{forest_map, tree_map}
use Rattle.bye_laws.specs.Parts.{WithinTree}
use Rattle.bye_laws.proofs.Passes.{tree_within}

-- a node stays settled where the nodes below it do
pub settled_down : (level : Level) → (g : List Statement) (rows : List Mapping) (parent : List Name) (z x : Name) (ds : Subdomains) (ps : List Pattern) (cs : List Cond) (f e : Forest) → IsSettled level g rows parent z (domain x ds) (node ps cs f)
    → AreSettled level g rows (all_vars ps) x ds e ↔ IsSettled level g rows parent z (domain x ds) (node ps cs e)
settled_down level g rows parent z x ds ps cs f e s = (
  λ below. record {
    over = (s.over.0, below.over);
    by = all_from (λ m. ByDomain g m (domain x ds) (node ps cs e)) rows (λ m row. ((all_in (λ m. ByDomain g m (domain x ds) (node ps cs f)) rows m s.by row).0, all_in (λ m. ByDomains g m x ds e) rows m below.by row));
    shut = s.shut;
  },
  λ t. record {
    over = t.over.1;
    by = all_from (λ m. ByDomains g m x ds e) rows (λ m row. (all_in (λ m. ByDomain g m (domain x ds) (node ps cs e)) rows m t.by row).1);
  },
)

-- the nodes below a settled node
pub children_of : (level : Level) → (g : List Statement) (rows : List Mapping) (parent : List Name) (z x : Name) (ds : Subdomains) (ps : List Pattern) (cs : List Cond) (f : Forest) → IsSettled level g rows parent z (domain x ds) (node ps cs f) → AreSettled level g rows (all_vars ps) x ds f
children_of level g rows parent z x ds ps cs f s = (settled_down level g rows parent z x ds ps cs f f s).1 s

-- the first of nodes beside one another
pub first_of_in : (level : Level) → (g : List Statement) (rows : List Mapping) (parent : List Name) (z : Name) (d : Domain) (ds : Subdomains) (t : Tree) (f : Forest) → AreSettled level g rows parent z (also d ds) (more t f) → IsSettled level g rows parent z d t
first_of_in level g rows parent z d ds t f s = record {
  over = s.over.0;
  by = all_from (λ m. ByDomain g m d t) rows (λ m row. (all_in (λ m. ByDomains g m z (also d ds) (more t f)) rows m s.by row).1);
  shut = all_from (λ m. Binds m z → (Binds m (label d) → ⊥) → NoValues g m t) rows (λ m row. (all_in (λ m. ByDomains g m z (also d ds) (more t f)) rows m s.by row).0);
}

-- and the others
pub rest_of_in : (level : Level) → (g : List Statement) (rows : List Mapping) (parent : List Name) (z : Name) (d : Domain) (ds : Subdomains) (t : Tree) (f : Forest) → AreSettled level g rows parent z (also d ds) (more t f) → AreSettled level g rows parent z ds f
rest_of_in level g rows parent z d ds t f s = record {
  over = s.over.1;
  by = all_from (λ m. ByDomains g m z ds f) rows (λ m row. (all_in (λ m. ByDomains g m z (also d ds) (more t f)) rows m s.by row).2);
}

-- together again
pub both_in : (level : Level) → (g : List Statement) (rows : List Mapping) (parent : List Name) (z : Name) (d : Domain) (ds : Subdomains) (t : Tree) (f : Forest) → IsSettled level g rows parent z d t → AreSettled level g rows parent z ds f → AreSettled level g rows parent z (also d ds) (more t f)
both_in level g rows parent z d ds t f a b = record {
  over = (a.over, b.over);
  by = all_from (λ m. ByDomains g m z (also d ds) (more t f)) rows (λ m row.
      (all_in (λ m. Binds m z → (Binds m (label d) → ⊥) → NoValues g m t) rows m a.shut row, all_in (λ m. ByDomain g m d t) rows m a.by row, all_in (λ m. ByDomains g m z ds f) rows m b.by row));
}

-- what is thinned from right is right
pub thinned_right : {X : Type 0} (R : List X → Type 0) (xs r : List X) → R xs → IsThinned R xs r → R r
thinned_right R [] r h e = subst R (sym e) h
thinned_right R (x ∷ xs) r h (inl (now, pass)) = thinned_right R xs r now pass
thinned_right {X} R (x ∷ xs) r h (inr (never, (ys, pass, e))) = subst R (sym e) (thinned_right (λ zs. R (x ∷ zs)) xs ys h pass)

-- the pass at each node is the pass over settled trees
mutual
  pub local_tree : (level : Level) → (g : List Statement) (rows : List Mapping) (parent : List Name) (z : Name) (d : Domain) (t r : Tree) → IsSettled level g rows parent z d t → IsThinnedHere level g rows parent z d t r
      → IsThinnedTree (IsSettled level g rows parent z d) t r × IsSettled level g rows parent z d r
  local_tree level g rows parent z (domain x ds) (node ps cs f) r s (e, es, qs, below, conds, triples, same) =
      let w = local_forest level g rows (all_vars ps) x ds f e (children_of level g rows parent z x ds ps cs f s) below in
      let now = (settled_down level g rows parent z x ds ps cs f e s).0 w.1 in
      let after = thinned_right (λ es. IsSettled level g rows parent z (domain x ds) (node ps es e)) cs es now conds in (
        (
          e,
          es,
          qs,
          forest_map (AreSettled level g rows (all_vars ps) x ds) (λ e. IsSettled level g rows parent z (domain x ds) (node ps cs e)) f e (λ h k. settled_down level g rows parent z x ds ps cs f h s) w.0,
          conds,
          triples,
          same,
        ),
        subst (IsSettled level g rows parent z (domain x ds)) (sym same) (thinned_right (λ qs. IsSettled level g rows parent z (domain x ds) (node qs es e)) ps qs after triples),
      )

  pub local_forest : (level : Level) → (g : List Statement) (rows : List Mapping) (parent : List Name) (z : Name) (ds : Subdomains) (f r : Forest) → AreSettled level g rows parent z ds f → AreThinnedHere level g rows parent z ds f r
      → IsThinnedForest (AreSettled level g rows parent z ds) f r × AreSettled level g rows parent z ds r
  local_forest level g rows parent z ds leaf r s e = (e, subst (AreSettled level g rows parent z ds) (sym e) s)
  local_forest level g rows parent z none (more t f) r s h = absurd h
  local_forest level g rows parent z (also d ds) (more t f) r s (u, e, one, others, same) =
      let a = local_tree level g rows parent z d t u (first_of_in level g rows parent z d ds t f s) one in
      let b = local_forest level g rows parent z ds f e (rest_of_in level g rows parent z d ds t f s) others in (
        (
          u,
          e,
          tree_map (IsSettled level g rows parent z d) (λ u. AreSettled level g rows parent z (also d ds) (more u f)) t u
              (λ h k. (λ i. both_in level g rows parent z d ds h f i (rest_of_in level g rows parent z d ds t f s), λ i. first_of_in level g rows parent z d ds h f i)) a.0,
          forest_map (AreSettled level g rows parent z ds) (λ e. AreSettled level g rows parent z (also d ds) (more u e)) f e
              (λ h k. (λ i. both_in level g rows parent z d ds u h a.1 i, λ i. rest_of_in level g rows parent z d ds u h i)) b.0,
          same,
        ),
        subst (AreSettled level g rows parent z (also d ds)) (sym same) (both_in level g rows parent z d ds u e a.1 b.1),
      )

-- the root is always shut
pub root_settled : (level : Level) → (g : List Statement) (rows : List Mapping) (d : Domain) (u : Tree) → ByLabels level g rows d u → IsSettled level g rows [] (label d) d u
root_settled level g rows d u b = record { over = b.over; by = b.by; shut = all_from (λ m. Binds m (label d) → (Binds m (label d) → ⊥) → NoValues g m u) rows (λ m row k n. absurd (n k)) }

-- from the root the pass is the one over the whole tree
pub local_thinned : (level : Level) → (g : List Statement) (rows : List Mapping) (vs : List Name) (d : Domain) (start t : Tree) → Selects rows vs → AreDomains rows d → IsOver level rows [] d start
    → IsRight Optional level g rows [] (plain_select vs start) → IsThinnedHere level g rows [] (label d) d start t → IsThinnedTree (λ u. IsRight Optional level g rows [] (plain_select vs u)) start t
local_thinned level g rows vs d start t selects tree over right pass =
    let both : (u : Tree) → WithinTree u start → IsSettled level g rows [] (label d) d u ↔ IsRight Optional level g rows [] (plain_select vs u) = λ u w. (
      (λ s. from_labels level g rows vs d u selects tree (record { over = s.over; by = s.by })),
      (λ h. root_settled level g rows d u (to_labels level g rows vs d start u tree over w h)),
    ) in
    tree_map (IsSettled level g rows [] (label d) d) (λ u. IsRight Optional level g rows [] (plain_select vs u)) start t both
    (local_tree level g rows [] (label d) d start t ((both start (tree_within start)).1 right) pass).0

-- what this pass leaves is kept
pub local_kept : (level : Level) → (g : List Statement) (w : Wanted) (d : Domain) (vs : List Name) (start t : Tree) → AreExamples w → IsDomainTree w d → AreSelected w vs → IsStartTree level g w d start
    → IsRight Optional level g w.rows [] (plain_select vs start) → IsThinnedHere level g w.rows [] (label d) d start t → IsKept Optional level g w [] (plain_select vs t)
local_kept level g w d vs start t examples tree selected conjuncts right pass =
    let domains = domains_of w d tree in
    let over = class_is_over level g w.vars w.rows vs d start domains (common_of level g w d start conjuncts) right.in_class in
    record {
      start = plain_select vs start;
      tree = t;
      begun = record { domains = d; tree = start; vars = vs; allowed = tt; over = tree; conjuncts = conjuncts; selected = selected; query = refl };
      thinned = local_thinned level g w.rows vs d start t (selects_of w examples vs selected) domains over right pass;
      query = refl;
    }

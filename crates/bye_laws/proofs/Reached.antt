-- The rows of a well-designed tree, by recursion: a row binds exactly the variables of the nodes that it reaches, meets these, and no child that it does not reach has values.
use Rattle.std.proofs.Common.{◌≡◌, refl, List, ◌++◌, map, Some, ◌⊎◌, inl, inr, ⊎_elim, sym, ◌∙◌, ap, subst, IsSome}
use Rattle.std.specs.List.{AllByRecursion}
use Rattle.bye_terms.specs.declared.term.Term.{Term}
use Rattle.bye_terms.specs.Members.{In}
use Rattle.bye_terms.specs.Terms.{Statement}
use Rattle.bye_terms.proofs.Members.{in_cases, in_left, in_right}
use Rattle.bye_pattern.specs.Algebra.{Alg, Bgp, Extends, IsRow, LeftJoin}
use Rattle.bye_pattern.specs.Conditions.{AllHoldExpr, cond_expr, cond_vars}
use Rattle.bye_pattern.specs.Designed.{IsForest, IsTree}
use Rattle.bye_table.specs.Mappings.{Binds, Compatible, Exactly, Mapping, Name, first_of, merge, restrict}
use Rattle.bye_pattern.specs.Patterns.{Meets, all_vars}
use Rattle.bye_pattern.specs.Trees.{Forest, Tree, body, forest_vars, joined, leaf, more, node, own_conds, own_triples, own_vars, tree_vars}
use Rattle.bye_table.proofs.Merging.{binds, bound, merge_bound, merge_left, merge_right, not_bound, restrict_binds, restrict_in, restrict_some, restrict_tells, some_or_none, some_same, unbound}
use Rattle.bye_pattern.proofs.Solutions.{all_told, meets_row, row_meets}
use Rattle.bye_laws.specs.Reaching.{BindsAll, MeetsNode, NoValues}
use Rattle.bye_laws.proofs.Telling.{all_hold_expr, all_meet_expr, all_meets_bind, all_met_any, all_met_told, merge_tells}

-- the rows of a group, child by child: what a child does to a row
abbrev pub Step : List Statement → Mapping → Tree → Mapping → Type 0
Step g x t y = Extends (IsRow g (body t)) (map cond_expr (own_conds t)) x y ⊎ ((y ≡ x) × ((n : Mapping) → Extends (IsRow g (body t)) (map cond_expr (own_conds t)) x n → ⊥))

-- what all children do, one after another
abbrev pub Steps : List Statement → Mapping → Forest → Mapping → Type 0
Steps g x leaf m = m ≡ x
Steps g x (more t f) m = (y : Mapping) × Step g x t y × Steps g y f m

-- what holds below a reached node
abbrev mutual
  pub BelowTree : List Statement → Mapping → Tree → Type 0
  BelowTree g m (node ps cs f) = BelowForest g m f

  pub BelowForest : List Statement → Mapping → Forest → Type 0
  BelowForest g m leaf = Unit {0}
  BelowForest g m (more t f) = ((BindsAll m t × MeetsNode g m t × BelowTree g m t) ⊎ ((BindsAll m t → ⊥) × NoValues g m t)) × BelowForest g m f

-- a variable of a node that the mapping reaches
abbrev mutual
  pub InReached : Mapping → Tree → Name → Type 0
  InReached m (node ps cs f) v = In (all_vars ps) v ⊎ InReachedForest m f v

  pub InReachedForest : Mapping → Forest → Name → Type 0
  InReachedForest m leaf v = ⊥
  InReachedForest m (more t f) v = (BindsAll m t × InReached m t v) ⊎ InReachedForest m f v

-- a mapping that reaches nodes of a tree, and says what it should there
pub record Reached (g : List Statement) (t : Tree) (m : Mapping) : Type 0 where
  pub binds : (v : Name) → Binds m v → InReached m t v
  pub bound : (v : Name) → InReached m t v → Binds m v
  pub own : AllByRecursion (Meets g m) (own_triples t)
  pub below : BelowTree g m t

-- a row of a group is one of its triples, and then the steps
pub joined_steps : (g : List Statement) (f : Forest) (a : Alg) (m : Mapping) → IsRow g (joined a f) m → (x : Mapping) × IsRow g a x × Steps g x f m
joined_steps g leaf a m row = (m, row, refl)
joined_steps g (more t f) a m row =
    let (y, (x, in_a, step), rest) = joined_steps g f (LeftJoin a (body t) (map cond_expr (own_conds t))) m row in
    (x, in_a, (y, step, rest))

-- and the other way round
pub steps_joined : (g : List Statement) (f : Forest) (a : Alg) (m x : Mapping) → IsRow g a x → Steps g x f m → IsRow g (joined a f) m
steps_joined g leaf a m x row e = subst (IsRow g a) (sym e) row
steps_joined g (more t f) a m x row (y, step, rest) = steps_joined g f (LeftJoin a (body t) (map cond_expr (own_conds t))) m y (x, row, step) rest

-- each mapping has a step, and so a row is never lost
pub some_step : (g : List Statement) (x : Mapping) (t : Tree) → (((y : Mapping) × Step g x t y) → ⊥) → ⊥
some_step g x t never = never (x, inr (refl, λ n ext. never (n, inl ext)))

-- there are steps through all children
pub some_steps : (g : List Statement) (f : Forest) (x : Mapping) → (((m : Mapping) × Steps g x f m) → ⊥) → ⊥
some_steps g leaf x never = never (x, refl)
some_steps g (more t f) x never = some_step g x t (λ s. some_steps g f s.0 (λ r. never (r.0, (s.0, s.1, r.1))))

-- the node's triples and conditions, from what is told of its variables and of its parent's
pub meets_told : (g : List Statement) (m n : Mapping) (parent seen : List Name) (t : Tree) → IsTree parent seen t
    → ((v : Name) (u : Term) → In (own_vars t) v → m v ≡ Some u → n v ≡ Some u) → ((v : Name) (u : Term) → In parent v → m v ≡ Some u → n v ≡ Some u)
    → MeetsNode g m t → MeetsNode g n t
meets_told g m n parent seen (node ps cs f) designed x y (triples, conds) =
    (all_told g m n ps x triples, all_met_told m n (all_vars ps) parent cs designed.0.safe x y conds)

-- own variables are the tree's
pub own_in : (t : Tree) (v : Name) → In (own_vars t) v → In (tree_vars t) v
own_in (node ps cs f) v h = in_left _ _ v h

-- mappings that agree
pub merge_same : (m n e : Mapping) (v : Name) → m v ≡ n v → merge m e v ≡ merge n e v
merge_same m n e v same = ap (λ o. first_of o (e v)) same

-- what holds below a node is told by the tree's variables
mutual
  pub below_tree : (g : List Statement) (m n : Mapping) (parent seen : List Name) (t : Tree) → IsTree parent seen t → ((v : Name) → In (tree_vars t) v → m v ≡ n v)
      → BelowTree g m t → BelowTree g n t
  below_tree g m n parent seen (node ps cs f) designed same below =
      below_forest g m n (all_vars ps) (seen ++ all_vars ps) f designed.1 (λ v h. same v (in_left _ _ v h)) (λ v h. same v (in_right (all_vars ps) _ v h)) below

  pub below_forest : (g : List Statement) (m n : Mapping) (parent seen : List Name) (f : Forest) → IsForest parent seen f → ((v : Name) → In parent v → m v ≡ n v)
      → ((v : Name) → In (forest_vars f) v → m v ≡ n v) → BelowForest g m f → BelowForest g n f
  below_forest g m n parent seen leaf designed up same below = tt
  below_forest g m n parent seen (more t f) designed up same (inl (all, meets, below), rest) = (
    inl (
      (λ v h. subst (λ o. IsSome o) (same v (in_left _ _ v (own_in t v h))) (all v h)),
      meets_told g m n parent seen t designed.0 (λ v u h e. sym (same v (in_left _ _ v (own_in t v h))) ∙ e) (λ v u h e. sym (up v h) ∙ e) meets,
      below_tree g m n parent seen t designed.0 (λ v h. same v (in_left _ _ v h)) below,
    ),
    below_forest g m n parent (seen ++ tree_vars t) f designed.1 up (λ v h. same v (in_right (tree_vars t) _ v h)) rest,
  )
  below_forest g m n parent seen (more t f) designed up same (inr (shut, none), rest) = (
    inr (
      (λ all. shut (λ v h. subst (λ o. IsSome o) (sym (same v (in_left _ _ v (own_in t v h)))) (all v h))),
      (λ e over agree meets. none e over
          (λ v x y a b. agree v x y (sym (same v (in_left _ _ v (own_in t v (over v (binds (e v) y b))))) ∙ a) b)
          (meets_told g (merge n e) (merge m e) parent seen t designed.0
          (λ v u h k. merge_same m n e v (same v (in_left _ _ v (own_in t v h))) ∙ k)
          (λ v u h k. merge_same m n e v (up v h) ∙ k) meets)),
    ),
    below_forest g m n parent (seen ++ tree_vars t) f designed.1 up (λ v h. same v (in_right (tree_vars t) _ v h)) rest,
  )

-- a variable that a tree shares with earlier nodes is the parent's and its own
mutual
  pub shared_tree : (parent seen : List Name) (t : Tree) → IsTree parent seen t → (v : Name) → In (tree_vars t) v → In seen v → In parent v × In (own_vars t) v
  shared_tree parent seen (node ps cs f) d v h s =
      ⊎_elim (λ h. (d.0.shared v h s, h))
      (λ h. let w = shared_forest (all_vars ps) (seen ++ all_vars ps) f d.1 v h (in_left _ _ v s) in (d.0.shared v w s, w))
      (in_cases (all_vars ps) _ v h)

  pub shared_forest : (parent seen : List Name) (f : Forest) → IsForest parent seen f → (v : Name) → In (forest_vars f) v → In seen v → In parent v
  shared_forest parent seen leaf d v h s = absurd h
  shared_forest parent seen (more t f) d v h s =
      ⊎_elim (λ h. (shared_tree parent seen t d.0 v h s).0) (λ h. shared_forest parent (seen ++ tree_vars t) f d.1 v h (in_left _ _ v s)) (in_cases (tree_vars t) _ v h)

-- variables of reached nodes are the tree's
mutual
  pub reached_in : (m : Mapping) (t : Tree) (v : Name) → InReached m t v → In (tree_vars t) v
  reached_in m (node ps cs f) v (inl h) = in_left _ _ v h
  reached_in m (node ps cs f) v (inr h) = in_right (all_vars ps) _ v (reached_in_forest m f v h)

  pub reached_in_forest : (m : Mapping) (f : Forest) (v : Name) → InReachedForest m f v → In (forest_vars f) v
  reached_in_forest m leaf v h = absurd h
  reached_in_forest m (more t f) v (inl h) = in_left _ _ v (reached_in m t v h.1)
  reached_in_forest m (more t f) v (inr h) = in_right (tree_vars t) _ v (reached_in_forest m f v h)

-- they are told by the tree's variables
mutual
  pub reached_same : (m n : Mapping) (t : Tree) (v : Name) → ((v : Name) → In (tree_vars t) v → m v ≡ n v) → InReached m t v → InReached n t v
  reached_same m n (node ps cs f) v same (inl h) = inl h
  reached_same m n (node ps cs f) v same (inr h) = inr (reached_same_forest m n f v (λ v h. same v (in_right (all_vars ps) _ v h)) h)

  pub reached_same_forest : (m n : Mapping) (f : Forest) (v : Name) → ((v : Name) → In (forest_vars f) v → m v ≡ n v) → InReachedForest m f v → InReachedForest n f v
  reached_same_forest m n leaf v same h = absurd h
  reached_same_forest m n (more t f) v same (inl h) =
      inl ((λ v k. subst (λ o. IsSome o) (same v (in_left _ _ v (own_in t v k))) (h.0 v k)), reached_same m n t v (λ v k. same v (in_left _ _ v k)) h.1)
  reached_same_forest m n (more t f) v same (inr h) = inr (reached_same_forest m n f v (λ v k. same v (in_right (tree_vars t) _ v k)) h)

-- own variables are reached
pub own_reached : (m : Mapping) (t : Tree) (v : Name) → In (own_vars t) v → InReached m t v
own_reached m (node ps cs f) v h = inl h

-- each tree has a variable that no earlier node has
pub tree_new : (parent seen : List Name) (t : Tree) → IsTree parent seen t → (v : Name) × In (own_vars t) v × (In seen v → ⊥)
tree_new parent seen (node ps cs f) d = d.0.new

-- its conditions are safe
pub tree_safe : (parent seen : List Name) (t : Tree) → IsTree parent seen t → AllByRecursion (λ c. (v : Name) → In (cond_vars c) v → In (own_vars t) v ⊎ In parent v) (own_conds t)
tree_safe parent seen (node ps cs f) d = d.0.safe

-- steps keep what was bound
pub steps_ext : (g : List Statement) (f : Forest) (x m : Mapping) → Steps g x f m → (v : Name) (u : Term) → x v ≡ Some u → m v ≡ Some u
steps_ext g leaf x m e v u h = ap (λ m. m v) e ∙ h
steps_ext g (more t f) x m (y, inl (b, row, same, hold, e), rest) v u h = steps_ext g f y m rest v u (ap (λ m. m v) e ∙ merge_left x b v u h)
steps_ext g (more t f) x m (y, inr (e, none), rest) v u h = steps_ext g f y m rest v u (ap (λ m. m v) e ∙ h)

-- where the own triples are met, some row of the node has these values
own_row : (g : List Statement) (t : Tree) (m : Mapping) → AllByRecursion (Meets g m) (own_triples t)
    → (((b : Mapping) × IsRow g (body t) b × ((v : Name) (u : Term) → In (own_vars t) v → m v ≡ Some u → b v ≡ Some u)) → ⊥) → ⊥
own_row g (node ps cs f) m all never =
    let x = restrict (all_vars ps) m in
    let over : Exactly (all_vars ps) x = λ v. (λ h. (restrict_binds (all_vars ps) m v h).0, λ h. let w = bound (m v) (all_meets_bind g m ps v all h) in binds (x v) w.0 (restrict_tells (all_vars ps) m v w.0 h w.1)) in
    let row = meets_row g ps x over (all_told g m x ps (λ v u h e. restrict_tells (all_vars ps) m v u h e) all) in
    some_steps g f x (λ s. never (s.0, steps_joined g f (Bgp ps) s.0 x row s.1, λ v u h e. steps_ext g f x s.0 s.1 v u (restrict_tells (all_vars ps) m v u h e)))

-- from a mapping over what was seen, through the children
pub record Grown (g : List Statement) (x : Mapping) (f : Forest) (m : Mapping) : Type 0 where
  pub ext : (v : Name) (u : Term) → x v ≡ Some u → m v ≡ Some u
  pub over : (v : Name) → Binds m v → Binds x v ⊎ InReachedForest m f v
  pub all : (v : Name) → InReachedForest m f v → Binds m v
  pub below : BelowForest g m f

-- a variable that the later children reach, and that was seen before them, is bound
pub later_bound : (parent seen : List Name) (t : Tree) (f : Forest) → IsForest parent seen (more t f) → (x m : Mapping) → ((v : Name) → In parent v → Binds x v)
    → (v : Name) → In (tree_vars t) v → InReachedForest m f v → Binds x v
later_bound parent seen t f d x m all v h k = all v (shared_forest parent (seen ++ tree_vars t) f d.1 v (reached_in_forest m f v k) (in_right seen _ v h))

-- a child that was extended
pub extended : (g : List Statement) (parent seen : List Name) (t : Tree) (f : Forest) → IsForest parent seen (more t f) → (x b m : Mapping)
    → ((v : Name) → In parent v → Binds x v) → ((v : Name) → Binds x v → In seen v)
    → Compatible x b → AllHoldExpr (map cond_expr (own_conds t)) (merge x b) → Reached g t b → Grown g (merge x b) f m → Grown g x (more t f) m
extended g parent seen t f d x b m all dom same hold r q =
    let ext_b : (v : Name) (u : Term) → b v ≡ Some u → m v ≡ Some u = λ v u h. q.ext v u (merge_right x b v u same h) in
    let b_own : (v : Name) → In (own_vars t) v → Binds b v = λ v h. r.bound v (own_reached b t v h) in
    let from_x : (v : Name) → In (tree_vars t) v → Binds x v → Binds b v = λ v h k. b_own v (shared_tree parent seen t d.0 v h (dom v k)).1 in
    let agree : (v : Name) → In (tree_vars t) v → b v ≡ m v = λ v h.
    ⊎_elim
    (λ k. let w = bound (b v) k in w.1 ∙ sym (ext_b v w.0 w.1))
    (λ n. n ∙ sym (unbound (m v) (λ k.
    not_bound (b v) n (⊎_elim
    (λ k. ⊎_elim (λ k. from_x v h k) (λ k. k) (merge_bound x b v k))
    (λ k. from_x v h (later_bound parent seen t f d x m all v h k))
    (q.over v k)))))
    (some_or_none (b v)) in
    let m_own : (v : Name) → In (own_vars t) v → Binds m v = λ v h. let w = bound (b v) (b_own v h) in binds (m v) w.0 (ext_b v w.0 w.1) in
    record {
      ext = λ v u h. q.ext v u (merge_left x b v u h);
      over = λ v h. ⊎_elim
          (λ k. ⊎_elim (λ k. inl k) (λ k. inr (inl (m_own, reached_same b m t v agree (r.binds v k)))) (merge_bound x b v k))
          (λ k. inr (inr k)) (q.over v h);
      all = λ v h. ⊎_elim
          (λ k. let w = bound (b v) (r.bound v (reached_same m b t v (λ v h. sym (agree v h)) k.1)) in binds (m v) w.0 (ext_b v w.0 w.1))
          (λ k. q.all v k) h;
      below = (inl (m_own, (all_told g b m (own_triples t) (λ v u h e. ext_b v u e) r.own, all_met_any (merge x b) m (own_conds t) q.ext (all_meet_expr (merge x b) (own_conds t) hold)), below_tree g b m parent seen t d.0 agree r.below), q.below);
    }

-- values that make the mapping meet a child give a row of the child that extends it
extends_by_values : (g : List Statement) (parent seen : List Name) (t : Tree) → IsTree parent seen t → (x m e : Mapping)
    → ((v : Name) → In parent v → Binds x v) → ((v : Name) → Binds x v → In seen v) → ((v : Name) (u : Term) → x v ≡ Some u → m v ≡ Some u)
    → ((b : Mapping) → IsRow g (body t) b → Reached g t b) → MeetsNode g (merge m e) t
    → ((n : Mapping) → Extends (IsRow g (body t)) (map cond_expr (own_conds t)) x n → ⊥) → ⊥
extends_by_values g parent seen t d x m e all dom ext sound meets none =
    own_row g t (merge m e) meets.0 (λ s.
    let b = s.0 in
    let r = sound b s.1 in
    let same : Compatible x b = λ v p u h k.
    let own = (shared_tree parent seen t d v (reached_in b t v (r.binds v (binds (b v) u k))) (dom v (binds (x v) p h))).1 in
    some_same (sym (s.2 v p own (merge_left m e v p (ext v p h))) ∙ k) in
    none (merge x b) (
      b,
      s.1,
      same,
      all_hold_expr (merge x b) (own_conds t) (all_met_told (merge m e) (merge x b) (own_vars t) parent (own_conds t) (tree_safe parent seen t d)
          (λ v u h k. merge_right x b v u same (s.2 v u h k))
          (λ v u h k. let w = bound (x v) (all v h) in merge_left x b v u (w.1 ∙ sym (merge_left m e v w.0 (ext v w.0 w.1)) ∙ k)) meets.1),
      refl,
    ))

-- a child that nothing extends
pub kept : (g : List Statement) (parent seen : List Name) (t : Tree) (f : Forest) → IsForest parent seen (more t f) → (x m : Mapping)
    → ((v : Name) → In parent v → In seen v) → ((v : Name) → In parent v → Binds x v) → ((v : Name) → Binds x v → In seen v)
    → ((b : Mapping) → IsRow g (body t) b → Reached g t b) → ((n : Mapping) → Extends (IsRow g (body t)) (map cond_expr (own_conds t)) x n → ⊥)
    → Grown g x f m → Grown g x (more t f) m
kept g parent seen t f d x m up all dom sound none q =
    let shut : BindsAll m t → ⊥ = λ every.
    let w = tree_new parent seen t d.0 in
    ⊎_elim (λ k. w.2 (dom w.0 k)) (λ k. w.2 (dom w.0 (later_bound parent seen t f d x m all w.0 (own_in t w.0 w.1) k))) (q.over w.0 (every w.0 w.1)) in
    record {
      ext = q.ext;
      over = λ v h. ⊎_elim (λ k. inl k) (λ k. inr (inr k)) (q.over v h);
      all = λ v h. ⊎_elim (λ k. absurd (shut k.0)) (λ k. q.all v k) h;
      below = (inr (shut, λ e over agree meets. extends_by_values g parent seen t d.0 x m e all dom q.ext sound meets none), q.below);
    }

-- a merge binds what the first binds
pub merged_binds : (x b : Mapping) (parent : List Name) → ((v : Name) → In parent v → Binds x v) → (v : Name) → In parent v → Binds (merge x b) v
merged_binds x b parent all v h = let w = bound (x v) (all v h) in binds (merge x b v) w.0 (merge_left x b v w.0 w.1)

-- what a merge binds has been seen
pub merged_seen : (g : List Statement) (t : Tree) (x b : Mapping) (seen : List Name) → ((v : Name) → Binds x v → In seen v) → Reached g t b → (v : Name) → Binds (merge x b) v → In (seen ++ tree_vars t) v
merged_seen g t x b seen dom r v h = ⊎_elim (λ k. in_left _ _ v (dom v k)) (λ k. in_right seen _ v (reached_in b t v (r.binds v k))) (merge_bound x b v h)

-- a row reaches
mutual
  pub sound_tree : (g : List Statement) (parent seen : List Name) (t : Tree) → IsTree parent seen t → (b : Mapping) → IsRow g (body t) b → Reached g t b
  sound_tree g parent seen (node ps cs f) d b row =
      let (x, own, steps) = joined_steps g f (Bgp ps) b row in
      let whole = row_meets g ps x own in
      let r = sound_forest g (all_vars ps) (seen ++ all_vars ps) f d.1 x b (λ v h. in_right seen _ v h) (λ v h. (whole.0 v).1 h) (λ v h. in_right seen _ v ((whole.0 v).0 h)) steps in
      record {
        binds = λ v h. ⊎_elim (λ k. inl ((whole.0 v).0 k)) (λ k. inr k) (r.over v h);
        bound = λ v h. ⊎_elim (λ k. let w = bound (x v) ((whole.0 v).1 k) in binds (b v) w.0 (r.ext v w.0 w.1)) (λ k. r.all v k) h;
        own = all_told g x b ps (λ v u h e. r.ext v u e) whole.1;
        below = r.below;
      }

  sound_forest : (g : List Statement) (parent seen : List Name) (f : Forest) → IsForest parent seen f → (x m : Mapping) → ((v : Name) → In parent v → In seen v)
      → ((v : Name) → In parent v → Binds x v) → ((v : Name) → Binds x v → In seen v) → Steps g x f m → Grown g x f m
  sound_forest g parent seen leaf d x m up all dom e =
      record { ext = λ v u h. ap (λ m. m v) e ∙ h; over = λ v h. inl (subst (λ m. Binds m v) e h); all = λ v h. absurd h; below = tt }
  sound_forest g parent seen (more t f) d x m up all dom (y, inl (b, row, same, hold, e), rest) =
      let r = sound_tree g parent seen t d.0 b row in
      extended g parent seen t f d x b m all dom same hold r
      (sound_forest g parent (seen ++ tree_vars t) f d.1 (merge x b) m (λ v h. in_left _ _ v (up v h)) (merged_binds x b parent all) (merged_seen g t x b seen dom r)
      (subst (λ y. Steps g y f m) e rest))
  sound_forest g parent seen (more t f) d x m up all dom (y, inr (e, none), rest) =
      kept g parent seen t f d x m up all dom (λ b row. sound_tree g parent seen t d.0 b row) none
      (sound_forest g parent (seen ++ tree_vars t) f d.1 x m (λ v h. in_left _ _ v (up v h)) all (λ v h. in_left _ _ v (dom v h)) (subst (λ y. Steps g y f m) e rest))

-- the other direction: the part of a child that is reached is a row of it
pub part_reached : (g : List Statement) (parent seen : List Name) (t : Tree) (f : Forest) → IsForest parent seen (more t f) → (x m : Mapping)
    → ((v : Name) → In parent v → Binds x v) → ((v : Name) → Binds x v → In seen v)
    → BindsAll m t → MeetsNode g m t → BelowTree g m t
    → ((v : Name) → Binds m v → Binds x v ⊎ InReachedForest m (more t f) v) → ((v : Name) → InReachedForest m (more t f) v → Binds m v)
    → Reached g t (restrict (tree_vars t) m)
part_reached g parent seen t f d x m all dom every meets below over reach =
    let b = restrict (tree_vars t) m in
    let same : (v : Name) → In (tree_vars t) v → m v ≡ b v = λ v h. sym (restrict_in (tree_vars t) m v h) in
    let from_x : (v : Name) → In (tree_vars t) v → Binds x v → InReached b t v = λ v h k. own_reached b t v (shared_tree parent seen t d.0 v h (dom v k)).1 in
    record {
      binds = λ v h.
          let w = restrict_binds (tree_vars t) m v h in
          ⊎_elim (λ k. from_x v w.0 k)
          (λ k. ⊎_elim (λ k. reached_same m b t v same k.1) (λ k. from_x v w.0 (later_bound parent seen t f d x m all v w.0 k)) k)
          (over v w.1);
      bound = λ v h.
          let k = bound (m v) (reach v (inl (every, reached_same b m t v (λ v h. sym (same v h)) h))) in
          binds (b v) k.0 (restrict_tells (tree_vars t) m v k.0 (reached_in b t v h) k.1);
      own = all_told g m b (own_triples t) (λ v u h e. restrict_tells (tree_vars t) m v u (own_in t v h) e) meets.0;
      below = below_tree g m b parent seen t d.0 same below;
    }

-- what is left after a child that is reached
pub rest_grown : (g : List Statement) (t : Tree) (f : Forest) (x m : Mapping) → BelowForest g m f
    → ((v : Name) (u : Term) → x v ≡ Some u → m v ≡ Some u)
    → ((v : Name) → Binds m v → Binds x v ⊎ InReachedForest m (more t f) v) → ((v : Name) → InReachedForest m (more t f) v → Binds m v)
    → Grown g (merge x (restrict (tree_vars t) m)) f m
rest_grown g t f x m below ext over reach =
    let b = restrict (tree_vars t) m in
    let same : Compatible x b = λ v p u h k. some_same (sym (ext v p h) ∙ (restrict_some (tree_vars t) m v u k).1) in
    record {
      ext = λ v u h. ⊎_elim (λ k. ext v u k) (λ k. (restrict_some (tree_vars t) m v u k).1) (merge_tells x b v u h);
      over = λ v h. ⊎_elim
          (λ k. let w = bound (x v) k in inl (binds (merge x b v) w.0 (merge_left x b v w.0 w.1)))
          (λ k. ⊎_elim
          (λ k. let w = bound (m v) h in inl (binds (merge x b v) w.0 (merge_right x b v w.0 same (restrict_tells (tree_vars t) m v w.0 (reached_in m t v k.1) w.1))))
          (λ k. inr k) k)
          (over v h);
      all = λ v h. reach v (inr h);
      below = below;
    }

-- nothing extends the mapping by a child that is not reached
pub nothing_extends : (g : List Statement) (parent seen : List Name) (t : Tree) (f : Forest) → IsForest parent seen (more t f) → (x m : Mapping)
    → ((v : Name) → In parent v → Binds x v) → (BindsAll m t → ⊥) → NoValues g m t
    → ((v : Name) (u : Term) → x v ≡ Some u → m v ≡ Some u) → ((v : Name) → Binds m v → Binds x v ⊎ InReachedForest m (more t f) v)
    → (n : Mapping) → Extends (IsRow g (body t)) (map cond_expr (own_conds t)) x n → ⊥
nothing_extends g parent seen t f d x m all shut none ext over n (b, row, same, hold, e) =
    let r = sound_tree g parent seen t d.0 b row in
    let v_own = restrict (own_vars t) b in
    let b_own : (v : Name) → In (own_vars t) v → Binds b v = λ v h. r.bound v (own_reached b t v h) in
    let told : (v : Name) (u : Term) → In (own_vars t) v → b v ≡ Some u → v_own v ≡ Some u = λ v u h k. restrict_tells (own_vars t) b v u h k in
    let agree : Compatible m v_own = λ v p u h k.
    let w = restrict_some (own_vars t) b v u k in
    let by_x : Binds x v → p ≡ u = λ j. let q = bound (x v) j in some_same (sym h ∙ ext v q.0 q.1) ∙ same v q.0 u q.1 w.1 in
    ⊎_elim by_x
    (λ j. ⊎_elim (λ j. absurd (shut j.0)) (λ j. by_x (later_bound parent seen t f d x m all v (own_in t v w.0) j)) j)
    (over v (binds (m v) p h)) in
    none v_own (λ v h. (restrict_binds (own_vars t) b v h).0) agree (
      all_told g b (merge m v_own) (own_triples t) (λ v u h k. merge_right m v_own v u agree (told v u h k)) r.own,
      all_met_told (merge x b) (merge m v_own) (own_vars t) parent (own_conds t) (tree_safe parent seen t d.0)
          (λ v u h k. let w = bound (b v) (b_own v h) in
          merge_right m v_own v u agree (told v u h (w.1 ∙ sym (merge_right x b v w.0 same w.1) ∙ k)))
          (λ v u h k. let w = bound (x v) (all v h) in
          merge_left m v_own v u (ext v w.0 w.1 ∙ sym (merge_left x b v w.0 w.1) ∙ k))
          (all_meet_expr (merge x b) (own_conds t) hold),
    )

-- and what reaches is a row
mutual
  pub complete_tree : (g : List Statement) (parent seen : List Name) (t : Tree) → IsTree parent seen t → (b : Mapping) → Reached g t b → IsRow g (body t) b
  complete_tree g parent seen (node ps cs f) d b r =
      let x = restrict (all_vars ps) b in
      let b_own : (v : Name) → In (all_vars ps) v → Binds b v = λ v h. r.bound v (inl h) in
      let x_own : (v : Name) → In (all_vars ps) v → Binds x v = λ v h. let w = bound (b v) (b_own v h) in binds (x v) w.0 (restrict_tells (all_vars ps) b v w.0 h w.1) in
      let row = meets_row g ps x (λ v. (λ h. (restrict_binds (all_vars ps) b v h).0, x_own v)) (all_told g b x ps (λ v u h e. restrict_tells (all_vars ps) b v u h e) r.own) in
      steps_joined g f (Bgp ps) b x row
      (complete_forest g (all_vars ps) (seen ++ all_vars ps) f d.1 x b (λ v h. in_right seen _ v h) x_own (λ v h. in_right seen _ v (restrict_binds (all_vars ps) b v h).0)
      (record {
        ext = λ v u h. (restrict_some (all_vars ps) b v u h).1;
        over = λ v h. ⊎_elim (λ k. inl (x_own v k)) (λ k. inr k) (r.binds v h);
        all = λ v h. r.bound v (inr h);
        below = r.below;
      }))

  complete_forest : (g : List Statement) (parent seen : List Name) (f : Forest) → IsForest parent seen f → (x m : Mapping) → ((v : Name) → In parent v → In seen v)
      → ((v : Name) → In parent v → Binds x v) → ((v : Name) → Binds x v → In seen v) → Grown g x f m → Steps g x f m
  complete_forest g parent seen leaf d x m up all dom q =
      λ i v. ⊎_elim (λ h. let w = bound (x v) h in q.ext v w.0 w.1 ∙ sym w.1)
      (λ n. unbound (m v) (λ h. ⊎_elim (λ k. not_bound (x v) n k) (λ k. absurd k) (q.over v h)) ∙ sym n) (some_or_none (x v)) i
  complete_forest g parent seen (more t f) d x m up all dom q =
      ⊎_elim
      (λ h.
      let b = restrict (tree_vars t) m in
      let r = part_reached g parent seen t f d x m all dom h.0 h.1 h.2 q.over q.all in
      let same : Compatible x b = λ v p u i k. some_same (sym (q.ext v p i) ∙ (restrict_some (tree_vars t) m v u k).1) in (
        merge x b,
        inl (
          b,
          complete_tree g parent seen t d.0 b r,
          same,
          all_hold_expr (merge x b) (own_conds t) (all_met_told m (merge x b) (own_vars t) parent (own_conds t) (tree_safe parent seen t d.0)
              (λ v u i k. merge_right x b v u same (restrict_tells (tree_vars t) m v u (own_in t v i) k))
              (λ v u i k. let w = bound (x v) (all v i) in merge_left x b v u (w.1 ∙ sym (q.ext v w.0 w.1) ∙ k)) h.1.1),
          refl,
        ),
        complete_forest g parent (seen ++ tree_vars t) f d.1 (merge x b) m (λ v i. in_left _ _ v (up v i)) (merged_binds x b parent all) (merged_seen g t x b seen dom r)
            (rest_grown g t f x m q.below.1 q.ext q.over q.all),
      ))
      (λ h. (
        x,
        inr (refl, nothing_extends g parent seen t f d x m all h.0 h.1 q.ext q.over),
        complete_forest g parent (seen ++ tree_vars t) f d.1 x m (λ v i. in_left _ _ v (up v i)) all (λ v i. in_left _ _ v (dom v i))
            (record {
              ext = q.ext;
              over = λ v i. ⊎_elim (λ k. inl k) (λ k. ⊎_elim (λ k. absurd (h.0 k.0)) (λ k. inr k) k) (q.over v i);
              all = λ v i. q.all v (inr i);
              below = q.below.1;
            }),
      ))
      q.below.0

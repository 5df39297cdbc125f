-- Going down gives the rows: what it gives reaches, and what reaches is given.
use Rattle.std.proofs.Common.{◌≡◌, refl, List, [], ◌++◌, Some, None, inl, inr, ⊎_elim, sym, ◌∙◌, ap, subst, IsSome}
use Rattle.std.specs.List.{AllByRecursion}
use Rattle.bye_terms.specs.declared.term.Term.{Term}
use Rattle.bye_terms.specs.Members.{In}
use Rattle.bye_terms.specs.Terms.{Statement}
use Rattle.bye_terms.proofs.Members.{in_left, in_right}
use Rattle.bye_pattern.specs.declared.cond.Cond.{Cond}
use Rattle.bye_pattern.specs.Algebra.{IsRow}
use Rattle.bye_pattern.specs.Conjuncts.{MeetsCond}
use Rattle.bye_pattern.specs.Designed.{IsForest, IsTree, IsWellDesigned}
use Rattle.bye_table.specs.Mappings.{Binds, Compatible, Mapping, Name, merge, nothing, restrict}
use Rattle.bye_pattern.specs.Patterns.{Pattern, all_vars}
use Rattle.bye_pattern.specs.Trees.{Forest, Select, Tree, alg, leaf, more, node, own_conds, own_triples, own_vars, tree_vars}
use Rattle.bye_pattern.proofs.FourRules.{at_once}
use Rattle.bye_table.proofs.Merging.{binds, bound, merge_bound, merge_left, merge_right, not_bound, restrict_binds, restrict_some, restrict_tells, some_or_none, some_same, unbound}
use Rattle.bye_pattern.proofs.Solutions.{all_told}
use Rattle.bye_laws.specs.Descending.{Descends, Down, DownChild, IsStep}
use Rattle.bye_laws.specs.Reaching.{BindsAll, MeetsNode, NoValues, children}
use Rattle.bye_laws.proofs.Reached.{BelowForest, Grown, Reached, below_forest, later_bound, meets_told, own_in, reached_in_forest, reached_same_forest, rest_grown, tree_new}
use Rattle.bye_laws.proofs.ReachedNodes.{reached_row, row_reached}
use Rattle.bye_laws.proofs.Telling.{all_meets_bind, all_met_any, merge_tells}

-- a node that is met has its variables bound
pub step_binds : (g : List Statement) (x : Mapping) (t : Tree) (z : Mapping) → IsStep g x t z → BindsAll z t
step_binds g x t z s v h = all_meets_bind g z (own_triples t) v s.meets.0 h

-- what a mapping binds, one that keeps its values binds
pub keeping_binds : (x m : Mapping) → ((v : Name) (u : Term) → x v ≡ Some u → m v ≡ Some u) → (v : Name) → Binds x v → Binds m v
keeping_binds x m keeps v h = let w = bound (x v) h in binds (m v) w.0 (keeps v w.0 w.1)

-- a mapping agrees with one that keeps its values, where it binds all that the other does
pub keeping_same : (x m : Mapping) → ((v : Name) (u : Term) → x v ≡ Some u → m v ≡ Some u) → (v : Name) → (Binds m v → Binds x v) → x v ≡ m v
keeping_same x m keeps v back =
    ⊎_elim (λ k. let w = bound (x v) k in w.1 ∙ sym (keeps v w.0 w.1))
    (λ n. n ∙ sym (unbound (m v) (λ k. not_bound (x v) n (back k))))
    (some_or_none (x v))

-- a child that gave values
grown_in : (g : List Statement) (parent seen : List Name) (ps : List Pattern) (cs : List Cond) (h f : Forest) → IsForest parent seen (more (node ps cs h) f) → (x z y m : Mapping)
    → ((v : Name) → In parent v → Binds x v) → IsStep g x (node ps cs h) z → Grown g z h y → Grown g y f m → Grown g x (more (node ps cs h) f) m
grown_in g parent seen ps cs h f d x z y m all s r q =
    let t : Tree = node ps cs h in
    let ext : (v : Name) (u : Term) → z v ≡ Some u → m v ≡ Some u = λ v u e. q.ext v u (r.ext v u e) in
    let m_own : BindsAll m t = λ v k. keeping_binds z m ext v (step_binds g x t z s v k) in
    let up : (v : Name) → In parent v → Binds y v = λ v k. keeping_binds z y r.ext v (keeping_binds x z s.keeps v (all v k)) in
    let same : (v : Name) → In (tree_vars t) v → y v ≡ m v = λ v k.
    keeping_same y m q.ext v (λ b. ⊎_elim (λ i. i) (λ i. later_bound parent seen t f d y m up v k i) (q.over v b)) in
    record {
      ext = λ v u e. ext v u (s.keeps v u e);
      over = λ v b. ⊎_elim
          (λ i. ⊎_elim
          (λ j. ⊎_elim (λ k. inl k) (λ k. inr (inl (m_own, inl k))) (s.within v j))
          (λ j. inr (inl (m_own, inr (reached_same_forest y m h v (λ v k. same v (in_right (all_vars ps) _ v k)) j))))
          (r.over v i))
          (λ i. inr (inr i))
          (q.over v b);
      all = λ v i. ⊎_elim
          (λ j. ⊎_elim (λ k. m_own v k)
          (λ k. keeping_binds y m q.ext v (r.all v (reached_same_forest m y h v (λ v k. sym (same v (in_right (all_vars ps) _ v k))) k))) j.1)
          (λ j. q.all v j) i;
      below = (
        inl (
          m_own,
          (all_told g z m ps (λ v u k e. ext v u e) s.meets.0, all_met_any z m cs ext s.meets.1),
          below_forest g y m (all_vars ps) (seen ++ all_vars ps) h d.0.1 (λ v k. same v (in_left _ _ v k)) (λ v k. same v (in_right (all_vars ps) _ v k)) r.below,
        ),
        q.below,
      );
    }

-- a step from x, of values that make w meet the node
step_of_values : (g : List Statement) (parent seen : List Name) (t : Tree) → IsTree parent seen t → (x w : Mapping)
    → ((v : Name) → In parent v → Binds x v) → ((v : Name) (u : Term) → x v ≡ Some u → w v ≡ Some u) → MeetsNode g w t
    → IsStep g x t (merge x (restrict (own_vars t) w))
step_of_values g parent seen t d x w all ext meets =
    let e = restrict (own_vars t) w in
    let same : Compatible x e = λ v p u i k. some_same (sym (ext v p i) ∙ (restrict_some (own_vars t) w v u k).1) in
    record {
      keeps = λ v u i. merge_left x e v u i;
      within = λ v i. ⊎_elim (λ k. inl k) (λ k. inr (restrict_binds (own_vars t) w v k).0) (merge_bound x e v i);
      meets = meets_told g w (merge x e) parent seen t d
          (λ v u i k. merge_right x e v u same (restrict_tells (own_vars t) w v u i k))
          (λ v u i k. let b = bound (x v) (all v i) in merge_left x e v u (b.1 ∙ sym (ext v b.0 b.1) ∙ k)) meets;
    }

-- a child that has no step
grown_past : (g : List Statement) (parent seen : List Name) (t : Tree) (f : Forest) → IsForest parent seen (more t f) → (x m : Mapping)
    → ((v : Name) → In parent v → Binds x v) → ((v : Name) → Binds x v → In seen v)
    → ((z : Mapping) → IsStep g x t z → ⊥) → Grown g x f m → Grown g x (more t f) m
grown_past g parent seen t f d x m all dom shut q =
    let lacks : BindsAll m t → ⊥ = λ every.
    let w = tree_new parent seen t d.0 in
    ⊎_elim (λ k. w.2 (dom w.0 k)) (λ k. w.2 (dom w.0 (later_bound parent seen t f d x m all w.0 (own_in t w.0 w.1) k))) (q.over w.0 (every w.0 w.1)) in
    record {
      ext = q.ext;
      over = λ v h. ⊎_elim (λ k. inl k) (λ k. inr (inr k)) (q.over v h);
      all = λ v h. ⊎_elim (λ k. absurd (lacks k.0)) (λ k. q.all v k) h;
      below = (
        inr (lacks, λ e over agree meets. shut _ (step_of_values g parent seen t d.0 x (merge m e) all (λ v u i. merge_left m e v u (q.ext v u i)) meets)),
        q.below,
      );
    }

-- what going down gives reaches
mutual
  down_child : (g : List Statement) (parent seen : List Name) (t : Tree) (f : Forest) → IsForest parent seen (more t f) → (x y m : Mapping)
      → ((v : Name) → In parent v → Binds x v) → ((v : Name) → Binds x v → In seen v) → DownChild g x t y
      → (((v : Name) → In parent v → Binds y v) → ((v : Name) → Binds y v → In (seen ++ tree_vars t) v) → Grown g y f m) → Grown g x (more t f) m
  down_child g parent seen (node ps cs h) f d x y m all dom (inl (z, s, down)) rest =
      let r = down_forest g (all_vars ps) (seen ++ all_vars ps) h d.0.1 z y (step_binds g x (node ps cs h) z s)
      (λ v k. ⊎_elim (λ i. in_left _ _ v (dom v i)) (λ i. in_right seen _ v i) (s.within v k)) down in
      let q = rest (λ v k. keeping_binds z y r.ext v (keeping_binds x z s.keeps v (all v k)))
      (λ v k. ⊎_elim
      (λ i. ⊎_elim (λ j. in_left _ _ v (dom v j)) (λ j. in_right seen _ v (in_left _ _ v j)) (s.within v i))
      (λ i. in_right seen _ v (in_right (all_vars ps) _ v (reached_in_forest y h v i)))
      (r.over v k)) in
      grown_in g parent seen ps cs h f d x z y m all s r q
  down_child g parent seen (node ps cs h) f d x y m all dom (inr (e, shut)) rest =
      let q = rest (λ v k. subst (λ y. Binds y v) (sym e) (all v k)) (λ v k. in_left _ _ v (dom v (subst (λ y. Binds y v) e k))) in
      grown_past g parent seen (node ps cs h) f d x m all dom shut (subst (λ y. Grown g y f m) e q)

  down_forest : (g : List Statement) (parent seen : List Name) (f : Forest) → IsForest parent seen f → (x m : Mapping)
      → ((v : Name) → In parent v → Binds x v) → ((v : Name) → Binds x v → In seen v) → Down g x f m → Grown g x f m
  down_forest g parent seen leaf d x m all dom e =
      record { ext = λ v u h. ap (λ m. m v) e ∙ h; over = λ v h. inl (subst (λ m. Binds m v) e h); all = λ v h. absurd h; below = tt }
  down_forest g parent seen (more t f) d x m all dom (y, step, rest) =
      down_child g parent seen t f d x y m all dom step
      (λ all_y dom_y. down_forest g parent (seen ++ tree_vars t) f d.1 y m all_y dom_y rest)

-- what a child adds that is reached, below its own variables
grown_child : (g : List Statement) (parent seen : List Name) (ps : List Pattern) (cs : List Cond) (h f : Forest) → IsForest parent seen (more (node ps cs h) f) → (x m : Mapping)
    → ((v : Name) → In parent v → Binds x v) → Grown g x (more (node ps cs h) f) m → BindsAll m (node ps cs h) → BelowForest g m h
    → Grown g (merge x (restrict (all_vars ps) m)) h (merge x (restrict (tree_vars (node ps cs h)) m))
grown_child g parent seen ps cs h f d x m all q every below =
    let t : Tree = node ps cs h in
    let e = restrict (all_vars ps) m in
    let b = restrict (tree_vars t) m in
    let z = merge x e in
    let y = merge x b in
    let same_e : Compatible x e = λ v p u i k. some_same (sym (q.ext v p i) ∙ (restrict_some (all_vars ps) m v u k).1) in
    let same_b : Compatible x b = λ v p u i k. some_same (sym (q.ext v p i) ∙ (restrict_some (tree_vars t) m v u k).1) in
    let y_m : (v : Name) (u : Term) → y v ≡ Some u → m v ≡ Some u = λ v u i. ⊎_elim (λ k. q.ext v u k) (λ k. (restrict_some (tree_vars t) m v u k).1) (merge_tells x b v u i) in
    let same : (v : Name) → In (tree_vars t) v → m v ≡ y v = λ v k.
    sym (keeping_same y m y_m v (λ i. let w = bound (m v) i in binds (y v) w.0 (merge_right x b v w.0 same_b (restrict_tells (tree_vars t) m v w.0 k w.1)))) in
    let z_own : (v : Name) → In (all_vars ps) v → Binds z v = λ v k. let w = bound (m v) (every v k) in binds (z v) w.0 (merge_right x e v w.0 same_e (restrict_tells (all_vars ps) m v w.0 k w.1)) in
    let z_up : (v : Name) → Binds x v → Binds z v = λ v k. keeping_binds x z (λ v u i. merge_left x e v u i) v k in
    record {
      ext = λ v u i. ⊎_elim (λ k. merge_left x b v u k)
          (λ k. let r = restrict_some (all_vars ps) m v u k in merge_right x b v u same_b (restrict_tells (tree_vars t) m v u (in_left _ _ v r.0) r.1)) (merge_tells x e v u i);
      over = λ v i. ⊎_elim (λ k. inl (z_up v k))
          (λ k. let r = restrict_binds (tree_vars t) m v k in
          ⊎_elim (λ j. inl (z_up v j))
          (λ j. ⊎_elim
          (λ o. ⊎_elim (λ n. inl (z_own v n)) (λ n. inr (reached_same_forest m y h v (λ v l. same v (in_right (all_vars ps) _ v l)) n)) o.1)
          (λ o. inl (z_up v (later_bound parent seen t f d x m all v r.0 o))) j)
          (q.over v r.1))
          (merge_bound x b v i);
      all = λ v i.
          let k = reached_same_forest y m h v (λ v l. sym (same v (in_right (all_vars ps) _ v l))) i in
          let n : In (tree_vars t) v = in_right (all_vars ps) _ v (reached_in_forest m h v k) in
          subst (λ o. IsSome o) (same v n) (q.all v (inl (every, inr k)));
      below = below_forest g m y (all_vars ps) (seen ++ all_vars ps) h d.0.1 (λ v k. same v (in_left _ _ v k)) (λ v k. same v (in_right (all_vars ps) _ v k)) below;
    }

-- a child that is not reached has no step
no_step : (g : List Statement) (parent seen : List Name) (t : Tree) (f : Forest) → IsForest parent seen (more t f) → (x m : Mapping)
    → ((v : Name) → In parent v → Binds x v) → Grown g x (more t f) m → (BindsAll m t → ⊥) → NoValues g m t → (z : Mapping) → IsStep g x t z → ⊥
no_step g parent seen t f d x m all q lacks none z s =
    let e = restrict (own_vars t) z in
    let agree : Compatible m e = λ v p u i k.
    let r = restrict_some (own_vars t) z v u k in
    let by_x : Binds x v → p ≡ u = λ j. let w = bound (x v) j in some_same (sym i ∙ q.ext v w.0 w.1 ∙ sym (s.keeps v w.0 w.1) ∙ r.1) in
    ⊎_elim by_x
    (λ j. ⊎_elim (λ o. absurd (lacks o.0)) (λ o. by_x (later_bound parent seen t f d x m all v (own_in t v r.0) o)) j)
    (q.over v (binds (m v) p i)) in
    none e (λ v i. (restrict_binds (own_vars t) z v i).0) agree
    (meets_told g z (merge m e) parent seen t d.0
    (λ v u i k. merge_right m e v u agree (restrict_tells (own_vars t) z v u i k))
    (λ v u i k. let w = bound (x v) (all v i) in merge_left m e v u (q.ext v w.0 w.1 ∙ sym (s.keeps v w.0 w.1) ∙ k))
    s.meets)

-- what reaches is given
mutual
  child_down : (g : List Statement) (parent seen : List Name) (t : Tree) (f : Forest) → IsForest parent seen (more t f) → (x m : Mapping)
      → ((v : Name) → In parent v → Binds x v) → ((v : Name) → Binds x v → In seen v) → Grown g x (more t f) m
      → (y : Mapping) × DownChild g x t y × Grown g y f m × ((v : Name) → In parent v → Binds y v) × ((v : Name) → Binds y v → In (seen ++ tree_vars t) v)
  child_down g parent seen (node ps cs h) f d x m all dom q =
      let t : Tree = node ps cs h in
      ⊎_elim
      (λ k.
      let b = restrict (tree_vars t) m in
      let z = merge x (restrict (all_vars ps) m) in
      let y = merge x b in
      let s : IsStep g x t z = step_of_values g parent seen t d.0 x m all q.ext k.1 in
      let r = grown_child g parent seen ps cs h f d x m all q k.0 k.2 in (
        y,
        inl (
          z,
          s,
          forest_down g (all_vars ps) (seen ++ all_vars ps) h d.0.1 z y (step_binds g x t z s)
              (λ v k. ⊎_elim (λ i. in_left _ _ v (dom v i)) (λ i. in_right seen _ v i) (s.within v k)) r,
        ),
        rest_grown g t f x m q.below.1 q.ext q.over q.all,
        (λ v i. keeping_binds x y (λ v u j. merge_left x b v u j) v (all v i)),
        (λ v i. ⊎_elim (λ j. in_left _ _ v (dom v j)) (λ j. in_right seen _ v (restrict_binds (tree_vars t) m v j).0) (merge_bound x b v i)),
      ))
      (λ k. (
        x,
        inr (refl, no_step g parent seen t f d x m all q k.0 k.1),
        record {
          ext = q.ext;
          over = λ v i. ⊎_elim (λ j. inl j) (λ j. ⊎_elim (λ o. absurd (k.0 o.0)) (λ o. inr o) j) (q.over v i);
          all = λ v i. q.all v (inr i);
          below = q.below.1;
        },
        all,
        (λ v i. in_left _ _ v (dom v i)),
      ))
      q.below.0

  forest_down : (g : List Statement) (parent seen : List Name) (f : Forest) → IsForest parent seen f → (x m : Mapping)
      → ((v : Name) → In parent v → Binds x v) → ((v : Name) → Binds x v → In seen v) → Grown g x f m → Down g x f m
  forest_down g parent seen leaf d x m all dom q =
      λ i v. sym (keeping_same x m q.ext v (λ h. ⊎_elim (λ k. k) (λ k. absurd k) (q.over v h))) i
  forest_down g parent seen (more t f) d x m all dom q =
      let s = child_down g parent seen t f d x m all dom q in
      (s.0, s.1, forest_down g parent (seen ++ tree_vars t) f d.1 s.0 m s.3 s.4 s.2)

-- from what a tree's mapping reaches to the way down
reached_down : (g : List Statement) (t : Tree) → IsTree [] [] t → (m : Mapping) → Reached g t m → AllByRecursion (MeetsCond m) (own_conds t)
    → (x : Mapping) × IsStep g nothing t x × Down g x (children t) m
reached_down g (node ps cs h) d m r conds =
    let x = restrict (all_vars ps) m in
    let x_own : (v : Name) → In (all_vars ps) v → Binds x v = λ v k. let w = bound (m v) (r.bound v (inl k)) in binds (x v) w.0 (restrict_tells (all_vars ps) m v w.0 k w.1) in
    let s : IsStep g nothing (node ps cs h) x = record {
      keeps = λ v u e. cc;
      within = λ v k. inr (restrict_binds (all_vars ps) m v k).0;
      meets = meets_told g m x [] [] (node ps cs h) d (λ v u k e. restrict_tells (all_vars ps) m v u k e) (λ v u k e. absurd k) (r.own, conds);
    } in (
      x,
      s,
      forest_down g (all_vars ps) (all_vars ps) h d.1 x m x_own (λ v k. (restrict_binds (all_vars ps) m v k).0)
          (record {
            ext = λ v u k. (restrict_some (all_vars ps) m v u k).1;
            over = λ v k. ⊎_elim (λ i. inl (x_own v i)) (λ i. inr i) (r.binds v k);
            all = λ v k. r.bound v (inr k);
            below = r.below;
          }),
    )

-- and back
down_reached : (g : List Statement) (t : Tree) → IsTree [] [] t → (x m : Mapping) → IsStep g nothing t x → Down g x (children t) m
    → Reached g t m × AllByRecursion (MeetsCond m) (own_conds t)
down_reached g (node ps cs h) d x m s down =
    let x_own = step_binds g nothing (node ps cs h) x s in
    let own : (v : Name) → Binds x v → In (all_vars ps) v = λ v k. ⊎_elim (λ i. absurd (not_bound None refl i)) (λ i. i) (s.within v k) in
    let r = down_forest g (all_vars ps) (all_vars ps) h d.1 x m x_own own down in (
      record {
        binds = λ v k. ⊎_elim (λ i. inl (own v i)) (λ i. inr i) (r.over v k);
        bound = λ v k. ⊎_elim (λ i. keeping_binds x m r.ext v (x_own v i)) (λ i. r.all v i) k;
        own = all_told g x m ps (λ v u k e. r.ext v u e) s.meets.0;
        below = r.below;
      },
      all_met_any x m cs r.ext s.meets.1,
    )

-- a row is what going down gives
pub row_descends : (g : List Statement) (q : Select) (m : Mapping) → IsWellDesigned q.tree → IsRow g (alg q) m → Descends g q m
row_descends g q m designed row =
    let d = (at_once q.tree).0 designed in
    let r = row_reached g q m d row in
    let w = reached_down g q.tree d m r.0 r.1 in
    (w.0, w.1, w.2, r.2)

-- and what going down gives is a row
pub descends_row : (g : List Statement) (q : Select) (m : Mapping) → IsWellDesigned q.tree → Descends g q m → IsRow g (alg q) m
descends_row g q m designed (x, s, down, outer) =
    let d = (at_once q.tree).0 designed in
    let r = down_reached g q.tree d x m s down in
    reached_row g q m d r.0 r.1 outer

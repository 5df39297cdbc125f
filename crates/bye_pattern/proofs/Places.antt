-- At which nodes of a well-designed tree a variable is new, and which rows bind it.
use Rattle.bye_pattern.specs.declared.level.Level.{Level}
use Rattle.std.proofs.Common.{◌≡◌, refl, ℕ, zero, suc, List, [], ◌∷◌, ◌++◌, inl, inr, sym, ◌∙◌, subst}
use Rattle.bye_terms.specs.Members.{In}
use Rattle.bye_terms.proofs.Members.{in_left, in_right}
use Rattle.bye_table.specs.Mappings.{Name, Mapping, Binds}
use Rattle.bye_pattern.specs.Patterns.{all_vars}
use Rattle.bye_pattern.specs.Trees.{Tree, node, Forest, leaf, more, own_vars, tree_vars, forest_vars, Select}
use Rattle.bye_pattern.specs.Designed.{IsTree, IsForest}
use Rattle.bye_table.specs.Domains.{IsRowAt, InE, IsWithin, AreAlike}
use Rattle.bye_pattern.specs.Optional.{IsNode, IsNodeIn, IsNewAt, InOptional}
use Rattle.bye_pattern.proofs.FourRules.{at_once}

mutual
  -- a variable of a node that is in an earlier node is one of its parent's
  pub fresh : (parent seen : List Name) (t : Tree) → IsTree parent seen t → (p : List Name) (u : Tree) (v : Name) → IsNode parent t p u → In (own_vars u) v → In seen v → In p v
  fresh parent seen (node ps cs f) designed p u v (inl (a, b)) h s =
      subst (λ p. In p v) (sym a) (designed.0.shared v (subst (λ u. In (own_vars u) v) b h) s)
  fresh parent seen (node ps cs f) designed p u v (inr k) h s = fresh_in (all_vars ps) (seen ++ all_vars ps) f designed.1 p u v k h (in_left seen (all_vars ps) v s)

  pub fresh_in : (parent seen : List Name) (f : Forest) → IsForest parent seen f → (p : List Name) (u : Tree) (v : Name) → IsNodeIn parent f p u → In (own_vars u) v → In seen v → In p v
  fresh_in parent seen leaf designed p u v k h s = absurd k
  fresh_in parent seen (more t f) designed p u v (inl k) h s = fresh parent seen t designed.0 p u v k h s
  fresh_in parent seen (more t f) designed p u v (inr k) h s = fresh_in parent (seen ++ tree_vars t) f designed.1 p u v k h (in_left seen (tree_vars t) v s)

mutual
  -- and it is one of the variables of the tree
  pub node_vars : (parent : List Name) (t : Tree) (p : List Name) (u : Tree) (v : Name) → IsNode parent t p u → In (own_vars u) v → In (tree_vars t) v
  node_vars parent (node ps cs f) p u v (inl (a, b)) h = in_left (all_vars ps) (forest_vars f) v (subst (λ u. In (own_vars u) v) b h)
  node_vars parent (node ps cs f) p u v (inr k) h = in_right (all_vars ps) (forest_vars f) v (node_vars_in (all_vars ps) f p u v k h)

  pub node_vars_in : (parent : List Name) (f : Forest) (p : List Name) (u : Tree) (v : Name) → IsNodeIn parent f p u → In (own_vars u) v → In (forest_vars f) v
  node_vars_in parent leaf p u v k h = absurd k
  node_vars_in parent (more t f) p u v (inl k) h = in_left (tree_vars t) (forest_vars f) v (node_vars parent t p u v k h)
  node_vars_in parent (more t f) p u v (inr k) h = in_right (tree_vars t) (forest_vars f) v (node_vars_in parent f p u v k h)

mutual
  one_node : (parent seen : List Name) (t : Tree) (p : List Name) (u : Tree) (r : List Name) (w : Tree) (v : Name) → IsTree parent seen t
      → IsNode parent t p u → IsNode parent t r w → IsNewAt p u v → IsNewAt r w v → (p ≡ r) × (u ≡ w)
  one_node parent seen (node ps cs f) p u r w v designed (inl (a, b)) (inl (c, d)) new also = (a ∙ sym c, b ∙ sym d)
  one_node parent seen (node ps cs f) p u r w v designed (inl (a, b)) (inr k) new also =
      absurd (also.1 (fresh_in (all_vars ps) (seen ++ all_vars ps) f designed.1 r w v k also.0 (in_right seen (all_vars ps) v (subst (λ u. In (own_vars u) v) b new.0))))
  one_node parent seen (node ps cs f) p u r w v designed (inr h) (inl (c, d)) new also =
      absurd (new.1 (fresh_in (all_vars ps) (seen ++ all_vars ps) f designed.1 p u v h new.0 (in_right seen (all_vars ps) v (subst (λ u. In (own_vars u) v) d also.0))))
  one_node parent seen (node ps cs f) p u r w v designed (inr h) (inr k) new also = one_node_in (all_vars ps) (seen ++ all_vars ps) f p u r w v designed.1 h k new also

  one_node_in : (parent seen : List Name) (f : Forest) (p : List Name) (u : Tree) (r : List Name) (w : Tree) (v : Name) → IsForest parent seen f
      → IsNodeIn parent f p u → IsNodeIn parent f r w → IsNewAt p u v → IsNewAt r w v → (p ≡ r) × (u ≡ w)
  one_node_in parent seen leaf p u r w v designed h k new also = absurd h
  one_node_in parent seen (more t f) p u r w v designed (inl h) (inl k) new also = one_node parent seen t p u r w v designed.0 h k new also
  one_node_in parent seen (more t f) p u r w v designed (inl h) (inr k) new also =
      absurd (also.1 (fresh_in parent (seen ++ tree_vars t) f designed.1 r w v k also.0 (in_right seen (tree_vars t) v (node_vars parent t p u v h new.0))))
  one_node_in parent seen (more t f) p u r w v designed (inr h) (inl k) new also =
      absurd (new.1 (fresh_in parent (seen ++ tree_vars t) f designed.1 p u v h new.0 (in_right seen (tree_vars t) v (node_vars parent t r w v k also.0))))
  one_node_in parent seen (more t f) p u r w v designed (inr h) (inr k) new also =
      one_node_in parent (seen ++ tree_vars t) f p u r w v designed.1 h k new also

within_then : (rows : List Mapping) (x y z : Name) → IsWithin rows x y → IsWithin rows y z → IsWithin rows x z
within_then [] x y z a b = tt
within_then (m ∷ rows) x y z a b = ((λ h. b.0 (a.0 h)), within_then rows x y z a.1 b.1)

-- variables of one class are new at one node
pub class_at_one : (level : Level) → (rows : List Mapping) (q : Select) → InOptional level rows q → (p : List Name) (u : Tree) (r : List Name) (t : Tree) (x y : Name)
    → IsNode [] q.tree p u → IsNode [] q.tree r t → IsNewAt p u x → IsNewAt r t y → AreAlike rows x y → (p ≡ r) × (u ≡ t)
class_at_one level rows q is p u r t x y h k new also same =
    let c = is.classes p u h in
    let own = (c.1.1 x).0 new in
    let here : IsNewAt p u y = (c.1.1 y).1 (within_then rows c.0 x y own.0 same.0, within_then rows y x c.0 same.1 own.1) in
    one_node [] [] q.tree p u r t y ((at_once q.tree).0 is.designed) h k here also

-- row numbers
number_in : (rows : List Mapping) (x y : Name) → IsWithin rows x y → (i : ℕ) (m : Mapping) → IsRowAt rows i m → Binds m x → Binds m y
number_in [] x y all i m at h = absurd at
number_in (r ∷ rows) x y all zero m at h = absurd at
number_in (r ∷ rows) x y all (suc zero) m at h = subst (λ m. Binds m x → Binds m y) at all.0 h
number_in (r ∷ rows) x y all (suc (suc i)) m at h = number_in rows x y all.1 (suc i) m at h

next_row : (rows : List Mapping) (r m : Mapping) (i : ℕ) → IsRowAt rows i m → IsRowAt (r ∷ rows) (suc i) m
next_row [] r m i at = absurd at
next_row (s ∷ rows) r m zero at = absurd at
next_row (s ∷ rows) r m (suc i) at = at

after_row : (rows : List Mapping) (r m : Mapping) (i : ℕ) → IsRowAt (r ∷ rows) (suc (suc i)) m → IsRowAt rows (suc i) m
after_row rows r m i at = at

pub by_numbers : (rows : List Mapping) (x y : Name) → IsWithin rows x y → (i : ℕ) → InE rows x i → InE rows y i
by_numbers rows x y all i (m, at, h) = (m, at, number_in rows x y all i m at h)

later : (rows : List Mapping) (r : Mapping) (x y : Name) → ((i : ℕ) → InE (r ∷ rows) x i → InE (r ∷ rows) y i) → (i : ℕ) → InE rows x i → InE rows y i
later [] r x y h i (m, at, b) = absurd at
later (s ∷ rows) r x y h zero (m, at, b) = absurd at
later (s ∷ rows) r x y h (suc i) (m, at, b) = let w = h (suc (suc i)) (m, at, b) in (w.0, w.1, w.2)

pub numbers_by : (rows : List Mapping) (x y : Name) → ((i : ℕ) → InE rows x i → InE rows y i) → IsWithin rows x y
numbers_by [] x y h = tt
numbers_by (r ∷ rows) x y h = (
  (λ b. let w = h 1 (r, refl, b) in subst (λ m. Binds m y) (sym w.1) w.2),
  numbers_by rows x y (later rows r x y h),
)

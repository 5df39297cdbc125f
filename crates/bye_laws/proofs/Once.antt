-- One pass has at most one result, and it has one where it is decided which parts are right.
use Rattle.std.proofs.Common.{◌≡◌, refl, List, [], ◌∷◌, ◌⊎◌, inl, inr, ⊎_elim, sym, ◌∙◌, ap, subst}
use Rattle.bye_pattern.specs.Keeping.{IsThinned, IsThinnedForest, IsThinnedTree}
use Rattle.bye_laws.specs.Parts.{Within, WithinForest, WithinTree}
use Rattle.bye_laws.proofs.PassMaps.{within_forest, within_thinned, within_tree}
use Rattle.bye_laws.proofs.Passes.{forest_within, within_more}
use Rattle.bye_pattern.specs.Trees.{Forest, Tree, leaf, more, node}

-- of a list
once : {X : Type 0} (Right : List X → Type 0) (xs r s : List X) → IsThinned Right xs r → IsThinned Right xs s → r ≡ s
once Right [] r s e f = e ∙ sym f
once Right (x ∷ xs) r s (inl (a, t)) (inl (b, u)) = once Right xs r s t u
once Right (x ∷ xs) r s (inl (a, t)) (inr (b, u)) = absurd (b a)
once Right (x ∷ xs) r s (inr (a, t)) (inl (b, u)) = absurd (a b)
once {X} Right (x ∷ xs) r s (inr (a, (ys, t, e))) (inr (b, (zs, u, f))) = e ∙ ap (λ ys. x ∷ ys) (once (λ zs. Right (x ∷ zs)) xs ys zs t u) ∙ sym f

-- of a tree
mutual
  pub once_tree : (Right : Tree → Type 0) (t r s : Tree) → IsThinnedTree Right t r → IsThinnedTree Right t s → r ≡ s
  once_tree Right (node ps cs f) r s (e, ds, qs, below, conds, triples, same) (e2, ds2, qs2, below2, conds2, triples2, same2) =
      let x : e2 ≡ e = once_forest (λ e. Right (node ps cs e)) f e2 e below2 below in
      let y : ds2 ≡ ds = once (λ ds. Right (node ps ds e)) cs ds2 ds (subst (λ e. IsThinned (λ ds. Right (node ps ds e)) cs ds2) x conds2) conds in
      let z : qs2 ≡ qs = once (λ qs. Right (node qs ds e)) ps qs2 qs
      (subst (λ ds. IsThinned (λ qs. Right (node qs ds e)) ps qs2) y (subst (λ e. IsThinned (λ qs. Right (node qs ds2 e)) ps qs2) x triples2)) triples in
      same ∙ sym (same2 ∙ (λ i. node (z i) (y i) (x i)))

  pub once_forest : (Right : Forest → Type 0) (f r s : Forest) → IsThinnedForest Right f r → IsThinnedForest Right f s → r ≡ s
  once_forest Right leaf r s e f = e ∙ sym f
  once_forest Right (more t f) r s (u, e, first, rest, same) (u2, e2, first2, rest2, same2) =
      let x : u2 ≡ u = once_tree (λ u. Right (more u f)) t u2 u first2 first in
      let y : e2 ≡ e = once_forest (λ e. Right (more u e)) f e2 e (subst (λ u. IsThinnedForest (λ e. Right (more u e)) f e2) x rest2) rest in
      same ∙ sym (same2 ∙ (λ i. more (x i) (y i)))

-- where it is decided which parts are right there is a result
some : {X : Type 0} (Right : List X → Type 0) (xs : List X) → ((ys : List X) → Within ys xs → Right ys ⊎ (Right ys → ⊥)) → (r : List X) × IsThinned Right xs r
some Right [] decide = ([], refl)
some {X} Right (x ∷ xs) decide = ⊎_elim
    (λ h. let w = some Right xs (λ ys k. decide ys (λ y i. inr (k y i))) in (w.0, inl (h, w.1)))
    (λ h. let w = some (λ zs. Right (x ∷ zs)) xs (λ zs k. decide (x ∷ zs) (within_more x zs xs k)) in (x ∷ w.0, inr (h, (w.0, w.1, refl))))
    (decide xs (λ y i. inr i))

-- of a tree there is a result
mutual
  pub some_tree : (Right : Tree → Type 0) (t : Tree) → ((u : Tree) → WithinTree u t → Right u ⊎ (Right u → ⊥)) → (r : Tree) × IsThinnedTree Right t r
  some_tree Right (node ps cs f) decide =
      let x = some_forest (λ e. Right (node ps cs e)) f (λ e k. decide (node ps cs e) (λ p i. i, λ c i. i, k)) in
      let within_x = within_forest (λ e. Right (node ps cs e)) f x.0 x.1 in
      let y = some (λ ds. Right (node ps ds x.0)) cs (λ ds k. decide (node ps ds x.0) (λ p i. i, k, within_x)) in
      let within_y = within_thinned (λ ds. Right (node ps ds x.0)) cs y.0 y.1 in
      let z = some (λ qs. Right (node qs y.0 x.0)) ps (λ qs k. decide (node qs y.0 x.0) (k, within_y, within_x)) in
      (node z.0 y.0 x.0, (x.0, y.0, z.0, x.1, y.1, z.1, refl))

  pub some_forest : (Right : Forest → Type 0) (f : Forest) → ((e : Forest) → WithinForest e f → Right e ⊎ (Right e → ⊥)) → (r : Forest) × IsThinnedForest Right f r
  some_forest Right leaf decide = (leaf, refl)
  some_forest Right (more t f) decide =
      let x = some_tree (λ u. Right (more u f)) t (λ u k. decide (more u f) (k, forest_within f)) in
      let within_x = within_tree (λ u. Right (more u f)) t x.0 x.1 in
      let y = some_forest (λ e. Right (more x.0 e)) f (λ e k. decide (more x.0 e) (within_x, k)) in
      (more x.0 y.0, (x.0, y.0, x.1, y.1, refl))
